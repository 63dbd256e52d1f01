-- Values by their numbers, in place of names.
use Rattle.std.proofs.Common.{◌≡◌, ℕ, zero, suc, ◌+◌, ◌<◌, List, [], ◌∷◌, ◌++◌, map, length, Bool, true, false, ◌&&◌, cond, Option, Some, None, IfSome, option_map, get_or, refl, sym, ap, subst, ◌∙◌, arith, add-one}
use Rattle.std.specs.Prelude.{find, filter_map, slice_get, unwrap_or, zip}
use Rattle.std.specs.Option.{option_map_or}
use Rattle.std.specs.List.{cons_option, position, range_with_len}
use Rattle.std.proofs.lemmas.List.{map-id, length-map}
use Rattle.std.proofs.lemmas.List.FromFn.{fill_by_all}
use Rattle.std.proofs.lemmas.Option.{slice_get-get_or, slice_get-map}
use Rattle.vtl_values.specs.declared.kind.Role.TheVariants.{Measure, Viral}
use Rattle.vtl_values.specs.declared.structure.Component.{Component}
use Rattle.vtl_values.specs.declared.value.Value.{Value}
use Rattle.scalar_meaning.specs.Logic.{holds}
use Rattle.scalar_meaning.specs.Rows.{point_row}
use Rattle.structured_sets.proofs.Lists.{position-cons}
use Rattle.data_set_trees.specs.clauses.Frames.{has_role}
use Rattle.clause_meaning.specs.Clauses.{values_at, values_on}
use Rattle.data_set_trees.specs.declared.tree.Branch.{Branch}
use Rattle.data_set_trees.specs.declared.tree.Branch.TheVariants as branch
use Rattle.data_set_trees.specs.declared.tree.ChoiceMeasure.{ChoiceMeasure}
use Rattle.data_set_trees.specs.Components.{identifiers, virals, has_name}
use Rattle.data_set_trees.specs.checked.Choices.{is_branch, branches}
use Rattle.data_set_trees.specs.checked.Operators as operators
use Rattle.operator_meaning.specs.pairs.Pairs.{value_where, key_between, codes_of, one_or_both, viral_value}
use Rattle.operator_meaning.specs.choices.Choices.{ChoiceOn, choice_on, structure_at, condition, chosen_number, chosen_structure, condition_key, operand_key, is_true_in, value_in, viral_values, chosen_values}
use Rattle.choice_ops.specs.Plans.{numbers_between, key_numbers, places_of, chosen_place, value_with, value_of_places}
use Rattle.choice_ops.specs.declared.plan.KeyNumbers.{KeyNumbers}
use Rattle.choice_ops.specs.declared.values.ViralPlaces.{ViralPlaces}

-- ---- the first that passes

pub none-in : (place : Option ℕ) → None ≡ value_with [] place
none-in None = refl
none-in (Some number) = refl

-- its value is the one with its number
pub value-placed : (passes : Component → Bool) (cs : List Component) (vs : List Value) → value_where passes cs vs ≡ value_with vs (position passes cs)
value-placed passes [] vs = refl
value-placed passes (c ∷ cs) [] = none-in (position passes (c ∷ cs))
value-placed passes (c ∷ cs) (v ∷ vs) = by_test (passes c) (value-placed passes cs vs) ∙ sym (ap (value_with (v ∷ vs)) (position-cons passes c cs))
  where
    among_others : (place : Option ℕ) → value_with vs place ≡ value_with (v ∷ vs) (option_map (λ i. i + 1) place)
    among_others None = refl
    among_others (Some number) = rw add-one refl

    by_test : (b : Bool) → value_where passes cs vs ≡ value_with vs (position passes cs) → option_map (λ (q : Component × Value). q.1) (cond b (Some (c, v)) (find (λ (q : Component × Value). passes q.0) (zip cs vs))) ≡ value_with (v ∷ vs) (cond b (Some 0) (option_map (λ i. i + 1) (position passes cs)))
    by_test true is = refl
    by_test false is = is ∙ among_others (position passes cs)

-- ---- all numbers

pub numbers-are : (numbers : List ℕ) (count : ℕ) → length numbers ≡ count → ((k : ℕ) → k < count → get_or numbers k 0 ≡ k) → numbers ≡ range_with_len 0 count
numbers-are numbers count long each = fill_by_all (λ k. k) numbers count 0 long each ∙ map-id (range_with_len 0 count)

-- all values are those with all numbers
all-later : (v : Value) (vs : List Value) (a n : ℕ) → values_at (range_with_len (suc a) n) (v ∷ vs) ≡ values_at (range_with_len a n) vs
all-later v vs a zero = refl
all-later v vs a (suc n) = ap (cons_option (slice_get vs a)) (ap (λ m. values_at (range_with_len m n) (v ∷ vs)) (omega arith) ∙ all-later v vs (a + 1) n)

pub all-numbered : (vs : List Value) → values_at (range_with_len 0 (length vs)) vs ≡ vs
all-numbered [] = refl
all-numbered (v ∷ vs) = ap (λ (us : List Value). v ∷ us) (all-later v vs 0 (length vs) ∙ all-numbered vs)

-- ---- keys

-- the values of a key by the names of identifiers are those with the numbers of these
key-numbered : (from to : List Component) (key : List Value) → key_between from to key ≡ values_at (numbers_between from to) key
key-numbered from to key = each (identifiers to)
  where
    one : (place : Option ℕ) (numbers : List ℕ) → cons_option (value_with key place) (values_at numbers key) ≡ values_at (cons_option place numbers) key
    one None numbers = refl
    one (Some number) numbers = refl

    each : (cs : List Component) → filter_map (λ c. value_where (has_name c.name) (identifiers from) key) cs ≡ values_at (filter_map (λ c. position (has_name c.name) (identifiers from)) cs) key
    each [] = refl
    each (c ∷ cs) =
        (λ i. cons_option (value-placed (has_name c.name) (identifiers from) key i) (each cs i))
        ∙ one (position (has_name c.name) (identifiers from)) (filter_map (λ d. position (has_name d.name) (identifiers from)) cs)

-- the numbers of the operand that is asked for
numbers-at : (first : List Component) (operands : List (List Component)) (keys : List KeyNumbers) (n : ℕ) (k : KeyNumbers) → keys ≡ map (key_numbers first) operands → n < length operands → k ≡ get_or keys n k → k ≡ key_numbers first (unwrap_or (slice_get operands n) [])
numbers-at first operands keys n k are within at =
    let long : n < length keys = omega (arith, within, length-map operands (key_numbers first), ap length are) in
    let there : slice_get operands n ≡ Some (get_or operands n []) = slice_get-get_or operands n [] within in
    let made : slice_get keys n ≡ option_map (key_numbers first) (slice_get operands n) = ap (λ (ks : List KeyNumbers). slice_get ks n) are ∙ slice_get-map (key_numbers first) operands n in
    let found : slice_get keys n ≡ Some (get_or keys n k) = slice_get-get_or keys n k long in
    let same : Some (get_or keys n k) ≡ Some (key_numbers first (get_or operands n [])) = sym found ∙ made ∙ ap (option_map (key_numbers first)) there in
    let own : get_or keys n k ≡ key_numbers first (get_or operands n []) = cc in
    at ∙ own ∙ sym (ap (λ (o : Option (List Component)). key_numbers first (unwrap_or o [])) there)

module _ (c : ChoiceOn) (keys : List KeyNumbers) (n : ℕ) (k : KeyNumbers) (are : keys ≡ map (key_numbers (condition c)) c.operands) (within : n < length c.operands) (at : k ≡ get_or keys n k) where
  numbers-are-its : k ≡ key_numbers (condition c) (structure_at c n)
  numbers-are-its = numbers-at (condition c) c.operands keys n k are within at

  pub condition-numbered : (key : List Value) → values_at k.to_condition key ≡ condition_key c n key
  condition-numbered key = ap (λ (q : KeyNumbers). values_at q.to_condition key) numbers-are-its ∙ sym (key-numbered (structure_at c n) (condition c) key)

  pub operand-numbered : (key : List Value) → values_at k.from_condition key ≡ operand_key c n key
  operand-numbered key = ap (λ (q : KeyNumbers). values_at q.from_condition key) numbers-are-its ∙ sym (key-numbered (condition c) (structure_at c n) key)

-- ---- the condition, and what it chooses

pub true-placed : (c : ChoiceOn) (test : Option ℕ) (values : List Value) → test ≡ position (has_role Measure) (condition c) → is_true_in c values ≡ option_map_or holds (value_with values test) false
true-placed c test values is = ap (λ (o : Option Value). option_map_or holds o false) (value-placed (has_role Measure) (condition c) values ∙ ap (value_with values) (sym is))

module _ (items : List ChoiceMeasure) (first : List Component) (structure : List Component) where
  abbrev on : Branch → Branch → Option (List Component) → Option (List Component) → ChoiceOn
  on h f s t = choice_on h f items (first ∷ branches s t) structure

  within-branches : (truth : Bool) (h f : Branch) (s t : Option (List Component)) → is_branch h s ≡ true → is_branch f t ≡ true → IfSome (chosen_number (on h f s t) truth) (λ n. n < length (first ∷ branches s t))
  within-branches true branch.DataSet f (Some s) t e i = omega arith
  within-branches true branch.DataSet f None t e i = cc
  within-branches true branch.Scalar f s t e i = tt
  within-branches false h branch.Scalar s t e i = tt
  within-branches false h branch.DataSet s None e i = cc
  within-branches false branch.DataSet branch.DataSet None (Some t) e i = cc
  within-branches false branch.Scalar branch.DataSet (Some s) (Some t) e i = cc
  within-branches false branch.DataSet branch.DataSet (Some s) (Some t) e i = omega arith
  within-branches false branch.Scalar branch.DataSet None (Some t) e i = omega arith

pub chosen-within : (c : ChoiceOn) (truth : Bool) → operators.IsTypedChoice c.holds c.fails c.measures c.operands c.structure → IfSome (chosen_number c truth) (λ n. n < length c.operands)
chosen-within c truth typed =
    subst (λ (os : List (List Component)). IfSome (chosen_number (choice_on c.holds c.fails c.measures os c.structure) truth) (λ n. n < length os)) (sym typed.operands_are)
    (within-branches c.measures typed.condition c.structure truth c.holds c.fails typed.when_holds typed.when_fails typed.holds_is typed.fails_is)

-- ---- viral attributes

-- what comes of the values of viral attributes by their names is what comes of those at their places
virals-placed : (truth : Bool) (c : ChoiceOn) (own chosen : List Value) (vs : List Component) → map (λ v. one_or_both (codes_of v.codes) (viral_value v.name (condition c) own) (viral_value v.name (chosen_structure c truth) chosen)) vs ≡ map (value_of_places truth own chosen) (map (places_of (condition c) (chosen_structure c true) (chosen_structure c false)) vs)
virals-placed truth c own chosen [] = refl
virals-placed truth c own chosen (v ∷ vs) =
    let passes : Component → Bool = λ d. has_role Viral d && has_name v.name d in
    let places : ViralPlaces = places_of (condition c) (chosen_structure c true) (chosen_structure c false) v in
    let same : (b : Bool) → viral_value v.name (chosen_structure c b) chosen ≡ value_with chosen (chosen_place b places) = λ b. elim b as (λ q. viral_value v.name (chosen_structure c q) chosen ≡ value_with chosen (chosen_place q places)) [ true ↦ value-placed passes (chosen_structure c true) chosen | false ↦ value-placed passes (chosen_structure c false) chosen ] in
    λ i. one_or_both (codes_of v.codes) (value-placed passes (condition c) own i) (same truth i) ∷ virals-placed truth c own chosen vs i

-- what comes of two points: their measures, and then these
pub values-made : (c : ChoiceOn) (truth : Bool) (own : List Value) (point : List Value × List Value) (places : List ViralPlaces) (values : List Value) → places ≡ map (places_of (condition c) (chosen_structure c true) (chosen_structure c false)) (virals c.structure) → values_on (point_row point.0 point.1) (map (value_in truth) c.measures) ≡ Some values
    → chosen_values c truth own point ≡ Some (values ++ map (value_of_places truth own (point.0 ++ point.1)) places)
values-made c truth own point places values are worked =
    ap (option_map (λ (vs : List Value). vs ++ viral_values c truth own (point.0 ++ point.1))) worked
    ∙ ap (λ (vs : List Value). Some (values ++ vs)) (virals-placed truth c own (point.0 ++ point.1) (virals c.structure) ∙ ap (map (value_of_places truth own (point.0 ++ point.1))) (sym are))
