-- Aggregates by their parts, step by step.
use Rattle.std.proofs.Common.{◌≡◌, ℕ, Bool, List, [], ◌∷◌, Option, Result, Ok, IsErrAnd, sym, ap, ◌∙◌}
use Rattle.vtl_values.specs.declared.place.Place.{Place}
use Rattle.vtl_values.specs.declared.structure.Component.{Component}
use Rattle.vtl_syntax.specs.declared.expr.Grouping.{Grouping}
use Rattle.scalar_trees.specs.declared.tree.CheckedExpr.{CheckedExpr}
use Rattle.scalar_trees.specs.declared.typing.stop.Fault.{Fault}
use Rattle.scalar_trees.specs.declared.typing.stop.Fault.TheVariants.{UnknownComponent, WrongType}
use Rattle.scalar_trees.specs.declared.typing.stop.TypeStop.{TypeStop}
use Rattle.scalar_trees.specs.typing.Steps.{◌>>=◌, Refuses}
use Rattle.operator_typing.proofs.Steps.{stops_same}
use Rattle.data_set_trees.specs.clauses.Clauses.{demands}
use Rattle.data_set_trees.specs.declared.aggregates.aggregate.AggregateItem.{AggregateItem}
use Rattle.data_set_trees.specs.declared.aggregates.aggregate.CheckedAggregate.{CheckedAggregate}
use Rattle.data_set_trees.specs.aggregates.Aggregates.{Answer, aggregate, are_known, condition_typed, groups_typed, joined, may_group, names_in}
use Rattle.data_set_trees.specs.aggregates.Groups.{grouping_numbers}
use Rattle.aggregate_typing.specs.declared.parts.Parts.{Parts}
use Rattle.aggregate_typing.specs.Parts.{Answers, joined_if, parts_typed}
use Rattle.aggregate_typing.proofs.Steps.{answers_same, answers_after, ends_there}

-- what is demanded first
abbrev demanded_first : Bool → Bool → List (Bool × Fault)
demanded_first known fit = (known, UnknownComponent) ∷ (fit, WrongType) ∷ []

module _ (place : Place) (names : List (List ℕ)) (fit : Bool) (parts : Parts) (cs : List Component) (known : Bool) (is_known : known ≡ are_known names cs) where
  abbrev go_together : Option CheckedExpr → Answer
  go_together condition = joined place names (aggregate parts.grouping parts.items condition) cs

  abbrev with_condition : Unit {0} → Answer
  with_condition met = condition_typed place parts.having >>= go_together

  same_first : demands place (demanded_first known fit) ≡ demands place (demanded_first (are_known names cs) fit)
  same_first = ap (λ (b : Bool). demands place (demanded_first b fit)) is_known

  -- a name isn't known, or a measure doesn't fit
  pub unfit : (stop : TypeStop) (r : Result CheckedAggregate TypeStop) → Refuses (demands place (demanded_first known fit)) stop → IsErrAnd r (λ given. given ≡ stop) → Answers (parts_typed place names fit parts cs) r
  unfit stop r refuses given = ends_there (demands place (demanded_first (are_known names cs) fit)) with_condition stop r (stops_same (demands place (demanded_first known fit)) (demands place (demanded_first (are_known names cs) fit)) stop same_first refuses) given

  -- the condition is no boolean
  pub no_boolean : (met : Unit {0}) (stop : TypeStop) (r : Result CheckedAggregate TypeStop) → demands place (demanded_first known fit) ≡ Ok met → Refuses (condition_typed place parts.having) stop → IsErrAnd r (λ given. given ≡ stop)
      → Answers (parts_typed place names fit parts cs) r
  no_boolean met stop r is refuses given = answers_after (demands place (demanded_first (are_known names cs) fit)) with_condition met r (sym same_first ∙ is) (ends_there (condition_typed place parts.having) go_together stop r refuses given)

  -- what comes then
  pub fit_so_far : (met : Unit {0}) (condition : Option CheckedExpr) (may : Bool) (r : Result CheckedAggregate TypeStop) → demands place (demanded_first known fit) ≡ Ok met → condition_typed place parts.having ≡ Ok condition → may ≡ may_group names cs
      → Answers (joined_if place may (aggregate parts.grouping parts.items condition) cs) r → Answers (parts_typed place names fit parts cs) r
  fit_so_far met condition may r is has is_may a =
      answers_after (demands place (demanded_first (are_known names cs) fit)) with_condition met r (sym same_first ∙ is)
      (answers_after (condition_typed place parts.having) go_together condition r has
      (answers_same (joined_if place may (aggregate parts.grouping parts.items condition) cs) (go_together condition) r (ap (λ (b : Bool). joined_if place b (aggregate parts.grouping parts.items condition) cs) is_may) a))

-- these parts are those of a grouping
pub parts_are : (place : Place) (grouping : Option Grouping) (fit : Bool) (items : List AggregateItem) (cs : List Component) (names : List (List ℕ)) (fits : Bool) (parts : Parts)
    → names ≡ names_in grouping → fits ≡ fit → parts.grouping ≡ grouping_numbers grouping cs → parts.items ≡ items → parts_typed place names fits parts cs ≡ groups_typed place grouping fit items parts.having cs
parts_are place grouping fit items cs names fits parts n f g w = λ i. parts_typed place (n i) (f i) (record { grouping = g i; items = w i; having = parts.having }) cs
