use Rattle.std.proofs.Common.{◌≡◌, ℕ, List, ap, ◌∙◌}
use Rattle.data_set_trees.specs.aggregates.Aggregates.{items_of, scope_on, takes_all}
use Rattle.data_set_trees.specs.aggregates.Groups.{scope_of_groups}
use Rattle.aggregate_typing.proofs.OnGroups.{parts_answer}
use Rattle.aggregate_typing.proofs.aggregates.aggregate_checked.Goals as goal

pub returns : goal.returns
returns c =
    let cs = c.args.components.now in
    let groups = c.args.groups.now in
    let scope = scope_of_groups c.as_slice.result.now cs in
    let is_scope : scope ≡ scope_on groups cs = ap (λ (g : List ℕ). scope_of_groups g cs) (c.as_slice.ensures ∙ c.in_ok-grouping.ensures) in
    parts_answer c.args.place groups cs (takes_all c.args.function cs) (items_of c.args.function cs) scope is_scope c.names_in.result.now c.takes_all-fit.result
    (record { grouping = c.in_ok-grouping.grouping; items = c.in_ok-items.items; having = c.in_ok-having.having }) c.parts_typed.result
    c.in_ok-having.ensures.ok c.names_in.ensures c.takes_all-fit.ensures c.in_ok-grouping.ensures c.in_ok-items.ensures c.parts_typed.ensures
