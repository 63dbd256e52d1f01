use Rattle.std.proofs.Common.{Ok, ap}
use Rattle.scalar_trees.specs.declared.tree.CheckedExpr.TheVariants as tree
use Rattle.scalar_trees.specs.Kinds.{ANY}
use Rattle.scalar_trees.specs.typing.Scalars.{agreeing, typed_as}
use Rattle.operator_typing.proofs.Steps.{stops_same, fails_there}
use Rattle.operator_typing.proofs.choices.nvl_typed.Goals as goal

pub returns-in_err-agreed-clause-err : goal.returns-in_err-agreed-clause-err
returns-in_err-agreed-clause-err c =
    let takes = c.any_kind.result.now in
    let stop = c.in_err-agreed.field-0.0 in
    fails_there (agreeing c.args.place ANY c.args.first c.args.second) (λ j. Ok (typed_as j.kind (tree.Nvl j.left j.right))) c.from_residual.result stop
    (stops_same (agreeing c.args.place takes c.args.first c.args.second) (agreeing c.args.place ANY c.args.first c.args.second) stop (ap (λ ks. agreeing c.args.place ks c.args.first c.args.second) c.any_kind.ensures) c.in_err-agreed.ensures.err)
    c.from_residual.ensures.1
