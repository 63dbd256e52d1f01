-- Aggregates with their groups, step by step.
use Rattle.std.proofs.Common.{◌≡◌, ℕ, Bool, true, List, Option, Result, Ok, sym, ap, ◌∙◌}
use Rattle.vtl_values.specs.declared.place.Place.{Place}
use Rattle.vtl_values.specs.declared.structure.Component.{Component}
use Rattle.vtl_syntax.specs.declared.expr.Groups.{Groups}
use Rattle.vtl_syntax.specs.declared.expr.Item.{Item}
use Rattle.scalar_trees.specs.declared.typing.scope.Scope.{Scope}
use Rattle.scalar_trees.specs.declared.typing.stop.TypeStop.{TypeStop}
use Rattle.scalar_trees.specs.declared.typing.typed.Typed.{Typed}
use Rattle.scalar_trees.specs.typing.Steps.{◌>>=◌}
use Rattle.data_set_trees.specs.declared.aggregates.aggregate.AggregateItem.{AggregateItem}
use Rattle.data_set_trees.specs.declared.aggregates.aggregate.CheckedAggregate.{CheckedAggregate}
use Rattle.data_set_trees.specs.aggregates.Aggregates.{Answer, aggr_checked, condition_checked, grouping_of, groups_typed, having_of, items_checked, names_in, scope_on}
use Rattle.data_set_trees.specs.aggregates.Groups.{grouping_numbers}
use Rattle.aggregate_typing.specs.declared.parts.Parts.{Parts}
use Rattle.aggregate_typing.specs.Parts.{Answers, parts_typed}
use Rattle.aggregate_typing.proofs.OfParts.{parts_are}
use Rattle.aggregate_typing.proofs.Steps.{answers_same, answers_after}

module _ (place : Place) (groups : Option Groups) (cs : List Component) where
  -- a condition, and then what these items come to with it
  abbrev pub on_groups : Bool → List AggregateItem → Answer
  on_groups fit items = condition_checked (scope_on groups cs) (having_of groups) >>= (λ having. groups_typed place (grouping_of groups) fit items having cs)

  module _ (fit : Bool) (items : List AggregateItem) (scope : Scope) (is_scope : scope ≡ scope_on groups cs) where
    abbrev next : Option Typed → Answer
    next having = groups_typed place (grouping_of groups) fit items having cs

    same_condition : condition_checked scope (having_of groups) ≡ condition_checked (scope_on groups cs) (having_of groups)
    same_condition = ap (λ (s : Scope). condition_checked s (having_of groups)) is_scope

    -- the condition has no fault
    pub parts_answer : (names : List (List ℕ)) (fits : Bool) (parts : Parts) (r : Result CheckedAggregate TypeStop) → condition_checked scope (having_of groups) ≡ Ok parts.having → names ≡ names_in (grouping_of groups) → fits ≡ fit
        → parts.grouping ≡ grouping_numbers (grouping_of groups) cs → parts.items ≡ items → Answers (parts_typed place names fits parts cs) r → Answers (on_groups fit items) r
    parts_answer names fits parts r is n f g w a =
        answers_after (condition_checked (scope_on groups cs) (having_of groups)) next parts.having r (sym same_condition ∙ is)
        (answers_same (parts_typed place names fits parts cs) (next parts.having) r (parts_are place (grouping_of groups) fit items cs names fits parts n f g w) a)

  -- ---- `aggr`

  abbrev with_items : List AggregateItem → Answer
  with_items checked = on_groups true checked

  -- the items have no fault
  pub items_answer : (items : List Item) (scope : Scope) (checked : List AggregateItem) (r : Result CheckedAggregate TypeStop) → scope ≡ scope_on groups cs → items_checked scope items ≡ Ok checked
      → Answers (on_groups true checked) r → Answers (aggr_checked place items groups cs) r
  items_answer items scope checked r is_scope is a =
      answers_after (items_checked (scope_on groups cs) items) with_items checked r (sym (ap (λ (s : Scope). items_checked s items) is_scope) ∙ is) a
