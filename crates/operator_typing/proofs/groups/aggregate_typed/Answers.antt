use Rattle.std.proofs.Common.{[], ◌∷◌, None, Ok, ap, sym, ◌∙◌, if◌then◌else◌}
use Rattle.scalar_trees.specs.declared.typing.stop.Fault.TheVariants.{WrongStructure}
use Rattle.scalar_trees.specs.declared.tree.CheckedExpr.TheVariants as tree
use Rattle.scalar_trees.specs.Kinds.{aggregate_takes, aggregate_gives}
use Rattle.scalar_trees.specs.typing.Steps.{◌>>=◌, or_refused}
use Rattle.scalar_trees.specs.typing.Scalars.{joint, typed_as, component_number}
use Rattle.operator_typing.proofs.Steps.{stops_same, stops_there, fails_there, fails_after}
use Rattle.operator_typing.proofs.groups.aggregate_typed.Goals as goal

pub returns-in_err-kind-clause-err : goal.returns-in_err-kind-clause-err
returns-in_err-kind-clause-err c =
    let f = c.args.function in
    let place = c.args.place in
    let kinds = c.args.operand.kind ∷ [] in
    let stop = c.in_err-kind.field-0.0 in
    let bare = if c.args.is_bare then component_number c.args.operand.tree else None in
    fails_there (joint place (aggregate_takes f) kinds) (λ q. or_refused bare WrongStructure place >>= (λ n. Ok (typed_as (aggregate_gives f q) (tree.Aggregate f n)))) c.from_residual.result stop
    (stops_same (joint place c.aggregate_takes.result.now kinds) (joint place (aggregate_takes f) kinds) stop (ap (λ ks. joint place ks kinds) c.aggregate_takes.ensures) c.in_err-kind.ensures.err)
    c.from_residual.ensures.1

pub returns-in_err-component-clause-err : goal.returns-in_err-component-clause-err
returns-in_err-component-clause-err c =
    let f = c.args.function in
    let place = c.args.place in
    let kinds = c.args.operand.kind ∷ [] in
    let stop = c.in_err-component.field-0.0 in
    let bare = if c.args.is_bare then component_number c.args.operand.tree else None in
    let q = c.in_ok-kind.kind in
    fails_after (joint place (aggregate_takes f) kinds) (λ q. or_refused bare WrongStructure place >>= (λ n. Ok (typed_as (aggregate_gives f q) (tree.Aggregate f n)))) q c.from_residual-in_err-component.result stop
    (ap (λ ks. joint place ks kinds) (sym c.aggregate_takes.ensures) ∙ c.in_ok-kind.ensures.ok)
    (stops_there (or_refused bare WrongStructure place) (λ n. Ok (typed_as (aggregate_gives f q) (tree.Aggregate f n))) stop
    (stops_same (or_refused c.aggregated-bare.result WrongStructure place) (or_refused bare WrongStructure place) stop (ap (λ o. or_refused o WrongStructure place) c.aggregated-bare.ensures) c.in_err-component.ensures.err))
    c.from_residual-in_err-component.ensures.1
