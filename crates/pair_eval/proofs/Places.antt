-- Values by their numbers, in place of names.
use Rattle.std.proofs.Common.{◌≡◌, ℕ, zero, suc, ◌+◌, ◌<◌, List, [], ◌∷◌, ◌++◌, map, length, Bool, true, false, ◌&&◌, cond, Option, Some, None, option_map, get_or, refl, sym, ap, ◌∙◌, arith, add-one}
use Rattle.std.specs.Prelude.{find, filter_map, slice_get, zip}
use Rattle.std.specs.List.{cons_option, position, range_with_len}
use Rattle.std.proofs.lemmas.List.{map-id}
use Rattle.std.proofs.lemmas.List.FromFn.{fill_by_all, get_or-range_with_len}
use Rattle.vtl_values.specs.declared.kind.Role.TheVariants.{Viral}
use Rattle.vtl_values.specs.declared.structure.Component.{Component}
use Rattle.vtl_values.specs.declared.value.Value.{Value}
use Rattle.structured_sets.proofs.Lists.{position-cons}
use Rattle.data_set_trees.specs.clauses.Frames.{has_role}
use Rattle.scalar_meaning.specs.Rows.{point_row}
use Rattle.clause_meaning.specs.Clauses.{values_at, worked_values}
use Rattle.data_set_trees.specs.Components.{identifiers, virals, has_name}
use Rattle.operator_meaning.specs.pairs.Pairs.{PairOn, value_where, key_between, codes_of, one_or_both, viral_value, viral_values, pair_values}
use Rattle.pair_eval.specs.Plans.{numbers_between, places_of, viral_places, value_in, value_of_places}

-- ---- the first that passes

-- where there are no values there is none
none-in : (place : Option ℕ) → None ≡ value_in [] place
none-in None = refl
none-in (Some number) = refl

-- the value of the first component that passes is the one with its number
pub value-placed : (passes : Component → Bool) (cs : List Component) (vs : List Value) → value_where passes cs vs ≡ value_in vs (position passes cs)
value-placed passes [] vs = refl
value-placed passes (c ∷ cs) [] = none-in (position passes (c ∷ cs))
value-placed passes (c ∷ cs) (v ∷ vs) = by_test (passes c) (value-placed passes cs vs) ∙ sym (ap (value_in (v ∷ vs)) (position-cons passes c cs))
  where
    among_others : (place : Option ℕ) → value_in vs place ≡ value_in (v ∷ vs) (option_map (λ i. i + 1) place)
    among_others None = refl
    among_others (Some number) = rw add-one refl

    by_test : (b : Bool) → value_where passes cs vs ≡ value_in vs (position passes cs) → option_map (λ (q : Component × Value). q.1) (cond b (Some (c, v)) (find (λ (q : Component × Value). passes q.0) (zip cs vs))) ≡ value_in (v ∷ vs) (cond b (Some 0) (option_map (λ i. i + 1) (position passes cs)))
    by_test true is = refl
    by_test false is = is ∙ among_others (position passes cs)

-- ---- all numbers

-- where each number stands at its own place they are all the numbers
pub numbers-are : (numbers : List ℕ) (count : ℕ) → length numbers ≡ count → ((k : ℕ) → k < count → get_or numbers k 0 ≡ k) → numbers ≡ range_with_len 0 count
numbers-are numbers count long each = fill_by_all (λ k. k) numbers count 0 long each ∙ map-id (range_with_len 0 count)

-- and where they are all, each does
pub number-there : (numbers : List ℕ) (count i : ℕ) → numbers ≡ range_with_len 0 count → i < count → get_or numbers i 0 ≡ i
number-there numbers count i are within = ap (λ ns. get_or ns i 0) are ∙ get_or-range_with_len 0 count i 0 within ∙ omega arith

-- ---- keys

-- the values of a key by the names of identifiers are those with the numbers of these
pub key-numbered : (from to : List Component) (key : List Value) → key_between from to key ≡ values_at (numbers_between from to) key
key-numbered from to key = each (identifiers to)
  where
    one : (place : Option ℕ) (numbers : List ℕ) → cons_option (value_in key place) (values_at numbers key) ≡ values_at (cons_option place numbers) key
    one None numbers = refl
    one (Some number) numbers = refl

    each : (cs : List Component) → filter_map (λ c. value_where (has_name c.name) (identifiers from) key) cs ≡ values_at (filter_map (λ c. position (has_name c.name) (identifiers from)) cs) key
    each [] = refl
    each (c ∷ cs) =
        (λ i. cons_option (value-placed (has_name c.name) (identifiers from) key i) (each cs i))
        ∙ one (position (has_name c.name) (identifiers from)) (filter_map (λ d. position (has_name d.name) (identifiers from)) cs)

-- numbers of values are one more where another value stands before them
all-later : (v : Value) (vs : List Value) (a n : ℕ) → values_at (range_with_len (suc a) n) (v ∷ vs) ≡ values_at (range_with_len a n) vs
all-later v vs a zero = refl
all-later v vs a (suc n) = ap (cons_option (slice_get vs a)) (ap (λ m. values_at (range_with_len m n) (v ∷ vs)) (omega arith) ∙ all-later v vs (a + 1) n)

-- all values are those with all numbers
pub all-numbered : (vs : List Value) → values_at (range_with_len 0 (length vs)) vs ≡ vs
all-numbered [] = refl
all-numbered (v ∷ vs) = ap (λ (us : List Value). v ∷ us) (all-later v vs 0 (length vs) ∙ all-numbered vs)

-- ---- viral attributes

-- what comes of the values of viral attributes by their names is what comes of those at their places
pub virals-placed : (left right : List Component) (a b : List Value) (cs : List Component) → map (λ c. one_or_both (codes_of c.codes) (viral_value c.name left a) (viral_value c.name right b)) cs ≡ map (value_of_places a b) (map (places_of left right) cs)
virals-placed left right a b [] = refl
virals-placed left right a b (c ∷ cs) =
    let passes : Component → Bool = λ d. has_role Viral d && has_name c.name d in
    λ i. one_or_both (codes_of c.codes) (value-placed passes left a i) (value-placed passes right b i) ∷ virals-placed left right a b cs i

-- what comes of two points: the values of the measures, and then those of the viral attributes
pub pair-made : (p : PairOn) (a b values : List Value) → worked_values (point_row a b) p.measures ≡ Some values → pair_values p a b ≡ Some (values ++ map (value_of_places a b) (viral_places p))
pair-made p a b values worked =
    ap (option_map (λ (vs : List Value). vs ++ viral_values p a b)) worked
    ∙ ap (λ (vs : List Value). Some (values ++ vs)) (virals-placed p.left p.right a b (virals p.structure))
