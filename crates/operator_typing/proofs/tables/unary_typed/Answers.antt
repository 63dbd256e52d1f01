use Rattle.std.proofs.Common.{[], ◌∷◌, Ok, ap}
use Rattle.scalar_trees.specs.declared.tree.CheckedExpr.TheVariants as tree
use Rattle.scalar_trees.specs.Kinds.{unary_takes, unary_gives}
use Rattle.scalar_trees.specs.typing.Scalars.{joint, widened, typed_as}
use Rattle.operator_typing.proofs.Steps.{stops_same, fails_there}
use Rattle.operator_typing.proofs.tables.unary_typed.Goals as goal

pub returns-in_err-kind-clause-err : goal.returns-in_err-kind-clause-err
returns-in_err-kind-clause-err c =
    let takes = c.unary_takes.result.now in
    let kinds = c.args.operand.kind ∷ [] in
    let stop = c.in_err-kind.field-0.0 in
    fails_there (joint c.args.place (unary_takes c.args.operator) kinds) (λ q. Ok (typed_as (unary_gives c.args.operator q) (tree.Unary c.args.operator (widened q c.args.operand)))) c.from_residual.result stop
    (stops_same (joint c.args.place takes kinds) (joint c.args.place (unary_takes c.args.operator) kinds) stop (ap (λ ks. joint c.args.place ks kinds) c.unary_takes.ensures) c.in_err-kind.ensures.err)
    c.from_residual.ensures.1
