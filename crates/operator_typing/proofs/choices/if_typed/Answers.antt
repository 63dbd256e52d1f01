use Rattle.std.proofs.Common.{Ok, ap}
use Rattle.vtl_values.specs.declared.kind.Kind.TheVariants.{Truth}
use Rattle.scalar_trees.specs.declared.tree.CheckedExpr.TheVariants as tree
use Rattle.scalar_trees.specs.Kinds.{ANY}
use Rattle.scalar_trees.specs.typing.Steps.{◌>>=◌}
use Rattle.scalar_trees.specs.typing.Scalars.{wanted, agreeing, typed_as}
use Rattle.operator_typing.proofs.Steps.{stops_same, stops_there, fails_there, fails_after}
use Rattle.operator_typing.proofs.choices.if_typed.Goals as goal

pub returns-in_err-condition-clause-err : goal.returns-in_err-condition-clause-err
returns-in_err-condition-clause-err c =
    fails_there (wanted c.args.place Truth c.args.condition) (λ w. agreeing c.args.place ANY c.args.holds c.args.fails >>= (λ j. Ok (typed_as j.kind (tree.If w j.left j.right)))) c.from_residual.result c.in_err-condition.field-0.0 c.in_err-condition.ensures.err c.from_residual.ensures.1

pub returns-in_err-agreed-clause-err : goal.returns-in_err-agreed-clause-err
returns-in_err-agreed-clause-err c =
    let takes = c.any_kind.result.now in
    let stop = c.in_err-agreed.field-0.0 in
    let w = c.in_ok-condition.condition in
    fails_after (wanted c.args.place Truth c.args.condition) (λ w. agreeing c.args.place ANY c.args.holds c.args.fails >>= (λ j. Ok (typed_as j.kind (tree.If w j.left j.right)))) w c.from_residual-in_err-agreed.result stop
    c.in_ok-condition.ensures.ok
    (stops_there (agreeing c.args.place ANY c.args.holds c.args.fails) (λ j. Ok (typed_as j.kind (tree.If w j.left j.right))) stop
    (stops_same (agreeing c.args.place takes c.args.holds c.args.fails) (agreeing c.args.place ANY c.args.holds c.args.fails) stop (ap (λ ks. agreeing c.args.place ks c.args.holds c.args.fails) c.any_kind.ensures) c.in_err-agreed.ensures.err))
    c.from_residual-in_err-agreed.ensures.1
