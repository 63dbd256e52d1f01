use Rattle.std.proofs.Common.{List, Option, [], ◌∷◌, Ok}
use Rattle.vtl_values.specs.declared.kind.Kind.{Kind}
use Rattle.vtl_values.specs.declared.kind.Kind.TheVariants.{Truth}
use Rattle.scalar_trees.specs.declared.tree.CheckedExpr.TheVariants as tree
use Rattle.scalar_trees.specs.Kinds.{ANY, literal_kind, widened_value}
use Rattle.scalar_trees.specs.typing.Scalars.{joint, widened, typed_as}
use Rattle.operator_typing.proofs.Steps.{stops_same, fails_there}
use Rattle.operator_typing.proofs.sets.between_typed.Goals as goal

pub returns-in_err-kind-clause-err : goal.returns-in_err-kind-clause-err
returns-in_err-kind-clause-err c =
    let place = c.args.place in
    let stop = c.in_err-kind.field-0.0 in
    let kinds : List (Option Kind) = c.args.operand.kind ∷ literal_kind c.args.low.now ∷ literal_kind c.args.high.now ∷ [] in
    fails_there (joint place ANY kinds) (λ q. Ok (typed_as Truth (tree.Between (widened q c.args.operand) (widened_value q c.args.low.now) (widened_value q c.args.high.now)))) c.from_residual.result stop
    (stops_same (joint place c.any_kind.result.now (c.args.operand.kind ∷ c.literal_kind.result ∷ c.literal_kind-2.result ∷ [])) (joint place ANY kinds) stop (λ i. joint place (c.any_kind.ensures i) (c.args.operand.kind ∷ c.literal_kind.ensures.kind i ∷ c.literal_kind-2.ensures.kind i ∷ [])) c.in_err-kind.ensures.err)
    c.from_residual.ensures.1
