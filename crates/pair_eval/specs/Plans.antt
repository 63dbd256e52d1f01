-- What a plan of a pair keeps (docs/language.md, "Pairs").
use Rattle.std.specs.Prelude.{◌≡◌, ◌&&◌, ℕ, List, [], Option, refl, if◌then◌else◌, map, filter_map, slice_get, option_and_then}
use Rattle.std.specs.Coded.{Coded, code_by, coded×, coded_list}
use Rattle.std.specs.List.{position}
use Rattle.vtl_values.specs.declared.kind.Role.TheVariants.{Viral}
use Rattle.vtl_values.specs.declared.structure.Component.{Component}
use Rattle.vtl_values.specs.declared.value.Value.{Value}
use Rattle.vtl_values.specs.contracts.structure.Structure as structure
use Rattle.data_set_trees.specs.declared.clauses.clause.CheckedMeasure.{CheckedMeasure}
use Rattle.data_set_trees.specs.contracts.clauses.clause.CheckedMeasure as measure
use Rattle.data_set_trees.specs.clauses.Frames.{has_role}
use Rattle.data_set_trees.specs.declared.tree.DataSetOperator.{DataSetOperator}
use Rattle.data_set_trees.specs.declared.tree.DataSetOperator.TheVariants.{Pair}
use Rattle.data_set_trees.specs.Components.{identifiers, virals, has_name}
use Rattle.operator_meaning.specs.pairs.Pairs.{PairOn, is_left_main, main, partner, codes_of, one_or_both}
use Rattle.operator_meaning.specs.pairs.Typed.{pair_on, IsTypedPair}
use Rattle.pair_eval.specs.declared.plan.Side.{Side}
use Rattle.pair_eval.specs.declared.plan.Side.TheVariants.{Left, Right}
use Rattle.pair_eval.specs.declared.virals.ViralPlaces.{ViralPlaces}

-- the measures of an operator on two data sets; others have none
abbrev pub measures_of : DataSetOperator → List CheckedMeasure
measures_of (Pair items) = items
measures_of _ = []

-- an operator on data sets of these structures
abbrev pub pair_of : DataSetOperator → List Component → List Component → List Component → PairOn
pair_of operator left right structure = pair_on (measures_of operator) left right structure

-- how pairs are told apart
abbrev pub pair_coded : Coded PairOn
pair_coded = code_by (List CheckedMeasure × (List Component × (List Component × List Component))) (coded× (coded_list (measure.the_row).coded) (coded× (structure.the_row).coded (coded× (structure.the_row).coded (structure.the_row).coded))) (λ p. (p.measures, (p.left, (p.right, p.structure)))) (λ q. pair_on q.0 q.1.0 q.1.1.0 q.1.1.1) (λ _. refl)

-- ---- keys

-- the operand whose points give the points of the result
abbrev pub main_side : PairOn → Side
main_side p = if is_left_main p then Left else Right

-- the numbers, among the identifiers of the one structure, of those that the other one has, in the other one's order
abbrev pub numbers_between : List Component → List Component → List ℕ
numbers_between from to = filter_map (λ c. position (has_name c.name) (identifiers from)) (identifiers to)

-- where the main operand has the identifiers of the other one
abbrev pub partner_numbers : PairOn → List ℕ
partner_numbers p = numbers_between (main p) (partner p)

-- where it has those of the result
abbrev pub result_numbers : PairOn → List ℕ
result_numbers p = numbers_between (main p) p.structure

-- ---- viral attributes

-- the number of the viral attribute of this name, if there is one
abbrev pub viral_called : List ℕ → List Component → Option ℕ
viral_called name = position (λ c. has_role Viral c && has_name name c)

-- the codes of a viral attribute of the result, and its numbers in two structures
abbrev pub places_of : List Component → List Component → Component → ViralPlaces
places_of left right c = record { codes = c.codes; left = viral_called c.name left; right = viral_called c.name right }

-- those of all viral attributes of the result
abbrev pub viral_places : PairOn → List ViralPlaces
viral_places p = map (places_of p.left p.right) (virals p.structure)

-- the value with a number that may be there
abbrev pub value_in : List Value → Option ℕ → Option Value
value_in values place = option_and_then (slice_get values) place

-- of all values of both points: what comes of those at the places
abbrev pub value_of_places : List Value → List Value → ViralPlaces → Value
value_of_places a b places = one_or_both (codes_of places.codes) (value_in a places.left) (value_in b places.right)

-- ---- plans

-- The pair is well typed, and this is what its structures tell.
pub record IsPlan (p : PairOn) (side : Side) (to_partner to_result : List ℕ) (places : List ViralPlaces) : Type 0 where
  pub typed : IsTypedPair p
  pub main_is : side ≡ main_side p
  pub partner_is : to_partner ≡ partner_numbers p
  pub result_is : to_result ≡ result_numbers p
  pub virals_are : places ≡ viral_places p
