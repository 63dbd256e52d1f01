-- What typing answers, and aggregates by their parts.
use Rattle.std.specs.Prelude.{◌≡◌, ℕ, Bool, false, List, [], ◌∷◌, Result, Ok, IfOk, IfErr}
use Rattle.std.specs.List.{list_all}
use Rattle.std.specs.Option.{option_map_or}
use Rattle.vtl_values.specs.declared.kind.Role.TheVariants.{Identifier}
use Rattle.vtl_values.specs.declared.place.Place.{Place}
use Rattle.vtl_values.specs.declared.structure.Component.{Component}
use Rattle.scalar_trees.specs.declared.typing.stop.Fault.TheVariants.{UnknownComponent, WrongType, WrongRole, NameTwice, TooManyComponents}
use Rattle.scalar_trees.specs.declared.typing.stop.Refusal.{Refusal}
use Rattle.scalar_trees.specs.declared.typing.stop.TypeStop.{TypeStop}
use Rattle.scalar_trees.specs.typing.Steps.{◌>>=◌, Refuses}
use Rattle.data_set_trees.specs.declared.clauses.frame.Frame.{Frame}
use Rattle.data_set_trees.specs.clauses.Clauses.{bare_number_of, demands, passes_at}
use Rattle.data_set_trees.specs.clauses.Frames.{has_role}
use Rattle.data_set_trees.specs.declared.aggregates.aggregate.CheckedAggregate.{CheckedAggregate}
use Rattle.data_set_trees.specs.aggregates.Aggregates.{Answer, aggregate, are_known, condition_typed, has_room, joined, names_differ}
use Rattle.data_set_trees.specs.aggregates.Results.{unordered}
use Rattle.aggregate_typing.specs.declared.parts.Parts.{Parts}

-- what is meant, or the first fault, or want of memory
pub record Answers {A : Type 0} (meaning : Result A Refusal) (result : Result A TypeStop) : Type 0 where
  pub ok : IfOk result (λ value. meaning ≡ Ok value)
  pub err : IfErr result (Refuses meaning)

-- ---- names, in the frame of the components

abbrev pub is_identifier_called : Frame → List ℕ → Bool
is_identifier_called frame name = option_map_or (passes_at (has_role Identifier) frame) (bare_number_of frame name) false

abbrev pub may_group : Frame → List (List ℕ) → Bool
may_group frame names = list_all (is_identifier_called frame) names

-- ---- parts

-- where it is known whether groups may be formed so
abbrev pub joined_if : Place → Bool → CheckedAggregate → List Component → Answer
joined_if place may a components =
    demands place ((may, WrongRole) ∷ (names_differ (unordered a components), NameTwice) ∷ (has_room (unordered a components), TooManyComponents) ∷ []) >>= (λ met. Ok a)

-- where the identifiers by which groups are formed are known
abbrev pub parts_typed : Place → List (List ℕ) → Bool → Parts → List Component → Answer
parts_typed place names fit parts components =
    demands place ((are_known names components, UnknownComponent) ∷ (fit, WrongType) ∷ [])
    >>= (λ met. condition_typed place parts.having
    >>= (λ condition. joined place names (aggregate parts.grouping parts.items condition) components))
