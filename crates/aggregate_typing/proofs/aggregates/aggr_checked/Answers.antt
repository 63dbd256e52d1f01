use Rattle.std.proofs.Common.{◌≡◌, ℕ, List, true, refl, ap, ◌∙◌}
use Rattle.data_set_trees.specs.aggregates.Aggregates.{scope_on}
use Rattle.data_set_trees.specs.aggregates.Groups.{scope_of_groups}
use Rattle.aggregate_typing.proofs.OnGroups.{items_answer, parts_answer}
use Rattle.aggregate_typing.proofs.aggregates.aggr_checked.Goals as goal

pub returns : goal.returns
returns c =
    let cs = c.args.components.now in
    let groups = c.args.groups.now in
    let r = c.parts_typed.result in
    let scope : c.in_ok-scope.scope ≡ scope_on groups cs = c.in_ok-scope.ensures ∙ ap (λ (g : List ℕ). scope_of_groups g cs) (c.as_slice.ensures ∙ c.in_ok-grouping.ensures) in
    items_answer c.args.place groups cs c.args.items.now c.in_ok-scope.scope c.in_ok-items.items r scope c.in_ok-items.ensures.ok
    (parts_answer c.args.place groups cs true c.in_ok-items.items c.in_ok-scope.scope scope c.names_in.result.now true
    (record { grouping = c.in_ok-grouping.grouping; items = c.in_ok-items.items; having = c.in_ok-having.having }) r
    c.in_ok-having.ensures.ok c.names_in.ensures refl c.in_ok-grouping.ensures refl c.parts_typed.ensures)
