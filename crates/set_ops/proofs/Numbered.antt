-- Values by their numbers, in place of names.
use Rattle.std.proofs.Common.{◌≡◌, ℕ, ◌+◌, List, [], ◌∷◌, Bool, true, false, cond, Option, Some, None, option_map, refl, sym, ap, ◌∙◌, add-one}
use Rattle.std.specs.Prelude.{find, filter_map, slice_get, zip, map, option_and_then}
use Rattle.std.specs.List.{cons_option, position}
use Rattle.std.specs.FinMap.{get}
use Rattle.vtl_values.specs.declared.structure.Component.{Component}
use Rattle.vtl_values.specs.declared.value.Value.{Value}
use Rattle.point_sets.specs.DataSets.{DataSet}
use Rattle.structured_sets.specs.Fitting as fitting
use Rattle.structured_sets.specs.Fitting.{others}
use Rattle.structured_sets.proofs.Lists.{position-cons}
use Rattle.clause_meaning.specs.Clauses.{values_at}
use Rattle.clause_meaning.proofs.ByRole.{of-identifiers}
use Rattle.data_set_trees.specs.Components.{has_name, identifiers}
use Rattle.operator_meaning.specs.pairs.Pairs.{value_where, key_between}
use Rattle.operator_meaning.specs.sets.Sets.{rest_between, read_at}
use Rattle.set_ops.specs.Orders.{numbers_between}
use Rattle.set_ops.specs.Readings.{readings_of, read_points}

abbrev value_in : List Value → Option ℕ → Option Value
value_in vs place = option_and_then (slice_get vs) place

none-in : (place : Option ℕ) → None ≡ value_in [] place
none-in None = refl
none-in (Some number) = refl

-- the value of the first component that passes is the one with its number
value-placed : (passes : Component → Bool) (cs : List Component) (vs : List Value) → value_where passes cs vs ≡ value_in vs (position passes cs)
value-placed passes [] vs = refl
value-placed passes (c ∷ cs) [] = none-in (position passes (c ∷ cs))
value-placed passes (c ∷ cs) (v ∷ vs) = by_test (passes c) (value-placed passes cs vs) ∙ sym (ap (value_in (v ∷ vs)) (position-cons passes c cs))
  where
    among_others : (place : Option ℕ) → value_in vs place ≡ value_in (v ∷ vs) (option_map (λ i. i + 1) place)
    among_others None = refl
    among_others (Some number) = rw add-one refl

    by_test : (b : Bool) → value_where passes cs vs ≡ value_in vs (position passes cs) → option_map (λ (q : Component × Value). q.1) (cond b (Some (c, v)) (find (λ (q : Component × Value). passes q.0) (zip cs vs))) ≡ value_in (v ∷ vs) (cond b (Some 0) (option_map (λ i. i + 1) (position passes cs)))
    by_test true is = refl
    by_test false is = is ∙ among_others (position passes cs)

-- values by names are those with the numbers of these
values-numbered : (cs : List Component) (vs : List Value) (ts : List Component) → filter_map (λ c. value_where (has_name c.name) cs vs) ts ≡ values_at (numbers_between cs ts) vs
values-numbered cs vs [] = refl
values-numbered cs vs (t ∷ ts) =
    (λ i. cons_option (value-placed (has_name t.name) cs vs i) (values-numbered cs vs ts i))
    ∙ one (position (has_name t.name) cs) (numbers_between cs ts)
  where
    one : (place : Option ℕ) (numbers : List ℕ) → cons_option (value_in vs place) (values_at numbers vs) ≡ values_at (cons_option place numbers) vs
    one None numbers = refl
    one (Some number) numbers = refl

-- a key of the one structure for the other one
pub key-numbered : (from to : List Component) (key : List Value) → key_between from to key ≡ values_at (numbers_between (fitting.identifiers from) (fitting.identifiers to)) key
key-numbered from to key = values-numbered (identifiers from) key (identifiers to) ∙ (λ i. values_at (numbers_between (of-identifiers from i) (of-identifiers to i)) key)

rest-numbered : (from to : List Component) (rest : List Value) → rest_between from to rest ≡ values_at (numbers_between (others from) (others to)) rest
rest-numbered from to rest = values-numbered (others from) rest (others to)

-- what is read of the operands is what they have there
pub points-read : (to : List Component) (key : List Value) (ss : List (List Component)) (sets : List DataSet) → read_points (readings_of ss to) sets key ≡ map (λ (q : List Component × DataSet). read_at q.0 to q.1 key) (zip ss sets)
points-read to key [] sets = refl
points-read to key (s ∷ ss) [] = refl
points-read to key (s ∷ ss) (a ∷ sets) =
    λ i. option_map (λ rest. sym (rest-numbered s to rest) i) (get a (sym (key-numbered to s key) i)) ∷ points-read to key ss sets i
