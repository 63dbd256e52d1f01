-- The set operators on the small data sets.
use Rattle.std.proofs.Common.{◌≡◌, List, [], ◌∷◌, map, Bool, true, false, cond, Some, None, refl, sym, ap, ◌∙◌, arith}
use Rattle.std.specs.Ordering.{eq_by_cmp}
use Rattle.std.specs.FinMap.{entries, get, keys, find, from_entries, get-from_entries, same_map}
use Rattle.vtl_values.specs.Order.{key_cmp}
use Rattle.vtl_values.specs.declared.value.Value.{Value}
use Rattle.vtl_values.proofs.Values.{key_cmp-IsTotalOrder, key_cmp-IsAntisymmetric}
use Rattle.data_model.specs.Outcomes.{made}
use Rattle.data_model.proofs.EntryLemmas.{entries-from_entries}
use Rattle.point_sets.specs.DataSets.{DataSet}
use Rattle.clause_meaning.proofs.Worked.{gives-points}
use Rattle.data_set_trees.specs.declared.tree.SetOperation.{SetOperation}
use Rattle.data_set_trees.specs.declared.tree.SetOperation.TheVariants.{Union, Intersect, Setdiff, Symdiff}
use Rattle.operator_meaning.specs.sets.Sets.{set_working, set_meaning}
use Rattle.operator_meaning.specs.sets.Examples.{north, south, count, counted, again, of_both}

abbrev Entries : Type 0
Entries = List (List Value × List Value)

-- ---- points

abbrev north_one : List Value × List Value
north_one = (north ∷ count 1 ∷ [], count 5 ∷ count 7 ∷ [])

abbrev south_one : List Value × List Value
south_one = (south ∷ count 1 ∷ [], count 2 ∷ count 1 ∷ [])

abbrev south_two : List Value × List Value
south_two = (south ∷ count 2 ∷ [], count 3 ∷ count 4 ∷ [])

-- the points of either, in the order in which the operands have them
abbrev any_points : Entries
any_points = north_one ∷ south_two ∷ north_one ∷ south_one ∷ []

-- what stands there twice counts once
once : from_entries {R = key_cmp} any_points ≡ from_entries (north_one ∷ south_two ∷ south_one ∷ [])
once =
    let es : Entries = north_one ∷ south_two ∷ south_one ∷ [] in
    same_map key_cmp-IsTotalOrder key_cmp-IsAntisymmetric (from_entries any_points) (from_entries es)
    (λ q. get-from_entries key_cmp-IsTotalOrder any_points q ∙ by_test (eq_by_cmp key_cmp q north_one.0) (eq_by_cmp key_cmp q south_two.0) (eq_by_cmp key_cmp q south_one.0) ∙ sym (get-from_entries key_cmp-IsTotalOrder es q))
  where
    by_test : (a b c : Bool) → cond a (Some north_one.1) (cond b (Some south_two.1) (cond a (Some north_one.1) (cond c (Some south_one.1) None))) ≡ cond a (Some north_one.1) (cond b (Some south_two.1) (cond c (Some south_one.1) None))
    by_test true b c = refl
    by_test false b c = refl

-- on any data sets with these points
module _ (a b : DataSet) (listed : keys a ≡ (north ∷ count 1 ∷ []) ∷ (south ∷ count 2 ∷ []) ∷ []) (others : keys b ≡ (count 1 ∷ north ∷ []) ∷ (count 1 ∷ south ∷ []) ∷ []) (an : get a (north ∷ count 1 ∷ []) ≡ Some north_one.1) (a_two : get a (south ∷ count 2 ∷ []) ≡ Some south_two.1) (a_one : get a (south ∷ count 1 ∷ []) ≡ None) (bn : get b (count 1 ∷ north ∷ []) ≡ Some (count 8 ∷ count 6 ∷ [])) (b_two : get b (count 2 ∷ south ∷ []) ≡ None) (b_one : get b (count 1 ∷ south ∷ []) ≡ Some (count 1 ∷ count 2 ∷ [])) where
  union-on : set_meaning (of_both Union) (a ∷ b ∷ []) ≡ made (from_entries any_points)
  union-on = gives-points (set_working (of_both Union) (a ∷ b ∷ [])) any_points refl (rw (listed, others) (omega arith)) (rw (listed, others, an, a_two, a_one, b_one) refl)

  intersect-on : set_meaning (of_both Intersect) (a ∷ b ∷ []) ≡ made (from_entries (north_one ∷ north_one ∷ []))
  intersect-on = gives-points (set_working (of_both Intersect) (a ∷ b ∷ [])) (north_one ∷ north_one ∷ []) refl (rw (listed, others) (omega arith)) (rw (listed, others, an, a_two, a_one, bn, b_two) refl)

  setdiff-on : set_meaning (of_both Setdiff) (a ∷ b ∷ []) ≡ made (from_entries (south_two ∷ []))
  setdiff-on = gives-points (set_working (of_both Setdiff) (a ∷ b ∷ [])) (south_two ∷ []) refl (rw (listed, others) (omega arith)) (rw (listed, others, an, a_two, a_one, bn, b_two, b_one) refl)

  symdiff-on : set_meaning (of_both Symdiff) (a ∷ b ∷ []) ≡ made (from_entries (south_two ∷ south_one ∷ []))
  symdiff-on = gives-points (set_working (of_both Symdiff) (a ∷ b ∷ [])) (south_two ∷ south_one ∷ []) refl (rw (listed, others) (omega arith)) (rw (listed, others, an, a_two, a_one, bn, b_two, b_one) refl)

-- ---- the data sets

abbrev all_counted : Entries
all_counted = north_one ∷ south_two ∷ []

abbrev all_again : Entries
all_again = (count 1 ∷ north ∷ [], count 8 ∷ count 6 ∷ []) ∷ (count 1 ∷ south ∷ [], count 1 ∷ count 2 ∷ []) ∷ []

counted_listed : keys counted ≡ (north ∷ count 1 ∷ []) ∷ (south ∷ count 2 ∷ []) ∷ []
counted_listed =
    let all : entries counted ≡ all_counted = entries-from_entries key_cmp-IsTotalOrder key_cmp-IsAntisymmetric all_counted (tt {0}) in
    ap (map (λ (q : List Value × List Value). q.0)) all

again_listed : keys again ≡ (count 1 ∷ north ∷ []) ∷ (count 1 ∷ south ∷ []) ∷ []
again_listed =
    let all : entries again ≡ all_again = entries-from_entries key_cmp-IsTotalOrder key_cmp-IsAntisymmetric all_again (tt {0}) in
    ap (map (λ (q : List Value × List Value). q.0)) all

counted_at : (key : List Value) → get counted key ≡ find key_cmp key all_counted
counted_at = get-from_entries key_cmp-IsTotalOrder all_counted

again_at : (key : List Value) → get again key ≡ find key_cmp key all_again
again_at = get-from_entries key_cmp-IsTotalOrder all_again

abbrev Both : SetOperation → Entries → Type 0
Both operation es = set_meaning (of_both operation) (counted ∷ again ∷ []) ≡ made (from_entries es)

pub union-both : Both Union (north_one ∷ south_two ∷ south_one ∷ [])
union-both = union-on counted again counted_listed again_listed (counted_at north_one.0) (counted_at south_two.0) (counted_at south_one.0) (again_at (count 1 ∷ north ∷ [])) (again_at (count 2 ∷ south ∷ [])) (again_at (count 1 ∷ south ∷ [])) ∙ ap made once

pub intersect-both : Both Intersect (north_one ∷ [])
intersect-both = intersect-on counted again counted_listed again_listed (counted_at north_one.0) (counted_at south_two.0) (counted_at south_one.0) (again_at (count 1 ∷ north ∷ [])) (again_at (count 2 ∷ south ∷ [])) (again_at (count 1 ∷ south ∷ [])) ∙ ap made twice
  where
    by_test : (a : Bool) → cond a (Some north_one.1) (cond a (Some north_one.1) None) ≡ cond a (Some north_one.1) None
    by_test true = refl
    by_test false = refl

    twice : from_entries {R = key_cmp} (north_one ∷ north_one ∷ []) ≡ from_entries (north_one ∷ [])
    twice =
        same_map key_cmp-IsTotalOrder key_cmp-IsAntisymmetric (from_entries (north_one ∷ north_one ∷ [])) (from_entries (north_one ∷ []))
        (λ q. get-from_entries key_cmp-IsTotalOrder (north_one ∷ north_one ∷ []) q ∙ by_test (eq_by_cmp key_cmp q north_one.0) ∙ sym (get-from_entries key_cmp-IsTotalOrder (north_one ∷ []) q))

pub setdiff-both : Both Setdiff (south_two ∷ [])
setdiff-both = setdiff-on counted again counted_listed again_listed (counted_at north_one.0) (counted_at south_two.0) (counted_at south_one.0) (again_at (count 1 ∷ north ∷ [])) (again_at (count 2 ∷ south ∷ [])) (again_at (count 1 ∷ south ∷ []))

pub symdiff-both : Both Symdiff (south_two ∷ south_one ∷ [])
symdiff-both = symdiff-on counted again counted_listed again_listed (counted_at north_one.0) (counted_at south_two.0) (counted_at south_one.0) (again_at (count 1 ∷ north ∷ [])) (again_at (count 2 ∷ south ∷ [])) (again_at (count 1 ∷ south ∷ []))
