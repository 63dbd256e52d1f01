-- What a plan of a join keeps (docs/language.md, "Joins").
use Rattle.std.specs.Prelude.{◌≡◌, ℕ, List, [], map, slice_index_or, refl}
use Rattle.std.specs.Coded.{Coded, code_by, coded×, coded_list}
use Rattle.vtl_values.specs.declared.kind.Role.TheVariants.{Measure}
use Rattle.vtl_values.specs.declared.structure.Component.{Component}
use Rattle.vtl_values.specs.declared.value.Value.{Value}
use Rattle.vtl_values.specs.contracts.structure.Structure as structure
use Rattle.vtl_syntax.specs.declared.words.JoinFunction.{JoinFunction}
use Rattle.vtl_syntax.specs.contracts.words.JoinFunction as function
use Rattle.structured_sets.specs.Fitting.{others}
use Rattle.data_set_trees.specs.clauses.Frames.{numbers_of}
use Rattle.clause_meaning.specs.Clauses.{values_at}
use Rattle.data_set_trees.specs.Components.{identifiers, virals}
use Rattle.data_set_trees.specs.Joins.{includes_all, gathered}
use Rattle.pair_eval.specs.Plans.{viral_called}
use Rattle.operator_meaning.specs.joins.Joins.{JoinOn, join_on, key_components, numbers_among, own_places}
use Rattle.operator_meaning.specs.joins.Typed.{IsTypedJoinOn}
use Rattle.join_eval.specs.declared.sides.Side.{Side}
use Rattle.join_eval.specs.declared.virals.ViralPlaces.{ViralPlaces}

-- how joins are told apart
abbrev pub join_coded : Coded JoinOn
join_coded = code_by (JoinFunction × (List (List Component) × List Component)) (coded× (function.the_row).coded (coded× (coded_list (structure.the_row).coded) (structure.the_row).coded)) (λ j. (j.function, (j.operands, j.structure))) (λ p. join_on p.0 p.1.0 p.1.1) (λ _. refl)

-- ---- an operand by its number

abbrev pub structure_of : JoinOn → ℕ → List Component
structure_of j operand = slice_index_or j.operands operand []

-- its key at a key of the join
abbrev pub own_key : JoinOn → ℕ → List Value → List Value
own_key j operand key = values_at (slice_index_or (own_places j) operand []) key

-- ---- what is kept of the operands

-- the places of all operands' identifiers; the result has no part in them
abbrev pub places_in : JoinFunction → List (List Component) → List (List ℕ)
places_in f operands = own_places (join_on f operands [])

-- of an operand with this structure, in a join with these identifiers
abbrev pub side_of : List Component → List (List Component) → List Component → Side
side_of keys operands s = record {
  join_numbers = numbers_among (identifiers s) keys;
  is_whole = includes_all operands s;
  measures = numbers_of Measure (others s);
}

-- ---- viral attributes

-- the codes of a viral attribute, and its numbers among these components of each operand
abbrev pub viral_places_of : List (List Component) → Component → ViralPlaces
viral_places_of rests c = record { codes = c.codes; places = map (viral_called c.name) rests }

-- those of all viral attributes of a join
abbrev pub viral_places : List (List Component) → List ViralPlaces
viral_places operands = map (viral_places_of (map others operands)) (gathered [] (map virals operands))

-- ---- plans

-- The join is well typed, and this is what its structures tell.
pub record IsPlan (j : JoinOn) (own : List (List ℕ)) (sides : List Side) (attributes : List ViralPlaces) : Type 0 where
  pub typed : IsTypedJoinOn j
  pub own_is : own ≡ own_places j
  pub sides_are : sides ≡ map (side_of (key_components j) j.operands) j.operands
  pub virals_are : attributes ≡ viral_places j.operands
