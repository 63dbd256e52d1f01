-- `exists_in` on the small data sets.
use Rattle.std.proofs.Common.{◌≡◌, List, [], ◌∷◌, map, Some, true, false, refl, ap, arith}
use Rattle.std.specs.Prelude.{codes}
use Rattle.std.specs.FinMap.{entries, get, keys, from_entries, get-from_entries}
use Rattle.vtl_values.specs.declared.value.Value.{Value}
use Rattle.vtl_values.specs.declared.value.Value.TheVariants.{Null, Truth, Text}
use Rattle.vtl_values.proofs.Values.{key_cmp-IsTotalOrder, key_cmp-IsAntisymmetric}
use Rattle.data_model.specs.Outcomes.{made}
use Rattle.data_model.proofs.EntryLemmas.{entries-from_entries}
use Rattle.point_sets.specs.DataSets.{DataSet}
use Rattle.clause_meaning.proofs.Worked.{gives-points}
use Rattle.operator_meaning.specs.pairs.Examples.{north, south, count, sold, back, price}
use Rattle.operator_meaning.specs.exists.Examples.{priced, unsold}
use Rattle.operator_meaning.specs.exists.Exists.{exists_working, exists_meaning}

abbrev Points : Type 0
Points = List (List Value × List Value)

abbrev all_back : Points
all_back = (count 1 ∷ north ∷ [], count 7 ∷ Text (codes "p") ∷ []) ∷ (count 2 ∷ south ∷ [], count 9 ∷ Text (codes "e") ∷ []) ∷ (count 3 ∷ north ∷ [], count 2 ∷ Null ∷ []) ∷ []

abbrev all_sold : Points
all_sold = (north ∷ count 1 ∷ [], count 5 ∷ Text (codes "e") ∷ []) ∷ (south ∷ count 2 ∷ [], Null ∷ Null ∷ []) ∷ []

abbrev all_prices : Points
all_prices = (north ∷ [], count 2 ∷ []) ∷ []

abbrev with_prices : Points
with_prices = (count 1 ∷ north ∷ [], Truth true ∷ Text (codes "p") ∷ []) ∷ (count 2 ∷ south ∷ [], Truth false ∷ Text (codes "e") ∷ []) ∷ (count 3 ∷ north ∷ [], Truth true ∷ Null ∷ []) ∷ []

abbrev never_sold : Points
never_sold = (count 3 ∷ north ∷ [], Truth false ∷ Null ∷ []) ∷ []

-- on any data sets with these points
module _ (a b : DataSet) (listed : keys a ≡ (count 1 ∷ north ∷ []) ∷ (count 2 ∷ south ∷ []) ∷ (count 3 ∷ north ∷ []) ∷ []) (first : get a (count 1 ∷ north ∷ []) ≡ Some (count 7 ∷ Text (codes "p") ∷ [])) (second : get a (count 2 ∷ south ∷ []) ≡ Some (count 9 ∷ Text (codes "e") ∷ [])) (third : get a (count 3 ∷ north ∷ []) ≡ Some (count 2 ∷ Null ∷ [])) where
  priced-on : keys b ≡ (north ∷ []) ∷ [] → exists_meaning priced a b ≡ made (from_entries with_prices)
  priced-on there = gives-points (exists_working priced a b) with_prices (rw (listed, first, second, third) refl) (rw listed (omega arith)) (rw (listed, there, first, second, third) refl)

  unsold-on : keys b ≡ (north ∷ count 1 ∷ []) ∷ (south ∷ count 2 ∷ []) ∷ [] → exists_meaning unsold a b ≡ made (from_entries never_sold)
  unsold-on there = gives-points (exists_working unsold a b) never_sold (rw (listed, first, second, third) refl) (rw listed (omega arith)) (rw (listed, there, first, second, third) refl)

-- ---- the data sets

back_listed : keys back ≡ (count 1 ∷ north ∷ []) ∷ (count 2 ∷ south ∷ []) ∷ (count 3 ∷ north ∷ []) ∷ []
back_listed =
    let all : entries back ≡ all_back = entries-from_entries key_cmp-IsTotalOrder key_cmp-IsAntisymmetric all_back (tt {0}) in
    ap (map (λ (q : List Value × List Value). q.0)) all

sold_listed : keys sold ≡ (north ∷ count 1 ∷ []) ∷ (south ∷ count 2 ∷ []) ∷ []
sold_listed =
    let all : entries sold ≡ all_sold = entries-from_entries key_cmp-IsTotalOrder key_cmp-IsAntisymmetric all_sold (tt {0}) in
    ap (map (λ (q : List Value × List Value). q.0)) all

prices_listed : keys (price 2) ≡ (north ∷ []) ∷ []
prices_listed =
    let all : entries (price 2) ≡ all_prices = entries-from_entries key_cmp-IsTotalOrder key_cmp-IsAntisymmetric all_prices (tt {0}) in
    ap (map (λ (q : List Value × List Value). q.0)) all

pub priced-is : exists_meaning priced back (price 2) ≡ made (from_entries ((count 1 ∷ north ∷ [], Truth true ∷ Text (codes "p") ∷ []) ∷ (count 2 ∷ south ∷ [], Truth false ∷ Text (codes "e") ∷ []) ∷ (count 3 ∷ north ∷ [], Truth true ∷ Null ∷ []) ∷ []))
priced-is =
    priced-on back (price 2) back_listed
    (get-from_entries key_cmp-IsTotalOrder all_back (count 1 ∷ north ∷ [])) (get-from_entries key_cmp-IsTotalOrder all_back (count 2 ∷ south ∷ [])) (get-from_entries key_cmp-IsTotalOrder all_back (count 3 ∷ north ∷ []))
    prices_listed

pub unsold-is : exists_meaning unsold back sold ≡ made (from_entries ((count 3 ∷ north ∷ [], Truth false ∷ Null ∷ []) ∷ []))
unsold-is =
    unsold-on back sold back_listed
    (get-from_entries key_cmp-IsTotalOrder all_back (count 1 ∷ north ∷ [])) (get-from_entries key_cmp-IsTotalOrder all_back (count 2 ∷ south ∷ [])) (get-from_entries key_cmp-IsTotalOrder all_back (count 3 ∷ north ∷ []))
    sold_listed
