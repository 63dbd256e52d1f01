use Rattle.std.proofs.Common.{List, Option, ◌∷◌, map, Ok, ap}
use Rattle.std.specs.List.{list_all}
use Rattle.vtl_values.specs.declared.kind.Kind.{Kind}
use Rattle.vtl_values.specs.declared.kind.Kind.TheVariants.{Truth}
use Rattle.scalar_trees.specs.declared.typing.stop.Fault.TheVariants.{BadConstant}
use Rattle.scalar_trees.specs.declared.tree.CheckedExpr.TheVariants as tree
use Rattle.scalar_trees.specs.Kinds.{ANY, literal_kind, widened_value}
use Rattle.scalar_trees.specs.WellTyped.{is_present}
use Rattle.scalar_trees.specs.typing.Steps.{◌>>=◌, demanded}
use Rattle.scalar_trees.specs.typing.Scalars.{joint, widened, typed_as}
use Rattle.operator_typing.proofs.Steps.{stops_same, stops_there, fails_there, fails_after}
use Rattle.operator_typing.proofs.sets.in_typed.Goals as goal

pub returns-in_err-kind-clause-err : goal.returns-in_err-kind-clause-err
returns-in_err-kind-clause-err c =
    let kinds : List (Option Kind) = c.args.operand.kind ∷ map literal_kind c.args.set.now in
    fails_there (joint c.args.place ANY kinds) (λ q. demanded (list_all is_present c.args.set.now) BadConstant c.args.place >>= (λ met. Ok (typed_as Truth (tree.In (widened q c.args.operand) c.args.sign (map (widened_value q) c.args.set.now))))) c.from_residual.result c.in_err-kind.field-0.0 c.in_err-kind.ensures.err c.from_residual.ensures.1

pub returns-in_err-demand-clause-err : goal.returns-in_err-demand-clause-err
returns-in_err-demand-clause-err c =
    let place = c.args.place in
    let kinds : List (Option Kind) = c.args.operand.kind ∷ map literal_kind c.args.set.now in
    let stop = c.in_err-demand.field-0.0 in
    let q = c.in_ok-kind.kind in
    fails_after (joint place ANY kinds) (λ q. demanded (list_all is_present c.args.set.now) BadConstant c.args.place >>= (λ met. Ok (typed_as Truth (tree.In (widened q c.args.operand) c.args.sign (map (widened_value q) c.args.set.now))))) q c.from_residual-in_err-demand.result stop
    c.in_ok-kind.ensures.ok
    (stops_there (demanded (list_all is_present c.args.set.now) BadConstant place) (λ met. Ok (typed_as Truth (tree.In (widened q c.args.operand) c.args.sign (map (widened_value q) c.args.set.now)))) stop
    (stops_same (demanded c.all_present.result BadConstant place) (demanded (list_all is_present c.args.set.now) BadConstant place) stop (ap (λ b. demanded b BadConstant place) c.all_present.ensures) c.in_err-demand.ensures.err))
    c.from_residual-in_err-demand.ensures.1
