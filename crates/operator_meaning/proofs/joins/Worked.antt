-- The four joins on the small data sets.
use Rattle.std.proofs.Common.{◌≡◌, List, [], ◌∷◌, map, length, Bool, true, false, cond, Some, None, option_map, refl, sym, ap, ◌∙◌, arith}
use Rattle.std.specs.Prelude.{filter_map}
use Rattle.std.specs.List.{cons_option}
use Rattle.std.specs.Ordering.{eq_by_cmp}
use Rattle.std.specs.FinMap.{empty, entries, get, keys, find, from_entries, get-from_entries, get-empty, len-empty, len-entries, same_map}
use Rattle.std.proofs.lemmas.List.{length-map}
use Rattle.vtl_values.specs.Order.{key_cmp}
use Rattle.vtl_values.specs.declared.value.Value.{Value}
use Rattle.vtl_values.specs.declared.value.Value.TheVariants.{Null}
use Rattle.vtl_values.proofs.Values.{key_cmp-IsTotalOrder, key_cmp-IsAntisymmetric}
use Rattle.vtl_syntax.specs.declared.words.JoinFunction.TheVariants.{Inner, Left, Full, Cross}
use Rattle.data_model.specs.Outcomes.{made}
use Rattle.data_model.proofs.EntryLemmas.{entries-from_entries}
use Rattle.point_sets.specs.DataSets.{DataSet}
use Rattle.clause_meaning.specs.Workings.{Working}
use Rattle.clause_meaning.proofs.Worked.{gives-points}
use Rattle.operator_meaning.specs.joins.Joins.{join_keys, joined_point, join_working, join_meaning}
use Rattle.operator_meaning.specs.joins.Examples.{north, south, west, final, provisional, count, counted, built, priced, with_homes, with_prices}

abbrev Entries : Type 0
Entries = List (List Value × List Value)

-- ---- points

abbrev of_north : List Value × List Value
of_north = (north ∷ [], count 5 ∷ count 2 ∷ provisional ∷ [])

abbrev of_south : List Value × List Value
of_south = (south ∷ [], count 3 ∷ Null ∷ final ∷ [])

abbrev of_west : List Value × List Value
of_west = (west ∷ [], Null ∷ count 4 ∷ Null ∷ [])

abbrev with_one : List Value × List Value
with_one = (north ∷ count 1 ∷ [], count 5 ∷ count 9 ∷ final ∷ [])

abbrev padded : Entries
padded = (north ∷ [], count 5 ∷ Null ∷ final ∷ []) ∷ of_south ∷ []

abbrev each_price : Entries
each_price =
    (north ∷ count 1 ∷ north ∷ [], count 5 ∷ count 9 ∷ final ∷ []) ∷ (north ∷ count 2 ∷ west ∷ [], count 5 ∷ count 8 ∷ final ∷ [])
    ∷ (south ∷ count 1 ∷ north ∷ [], count 3 ∷ count 9 ∷ final ∷ []) ∷ (south ∷ count 2 ∷ west ∷ [], count 3 ∷ count 8 ∷ final ∷ []) ∷ []

-- the keys of people and homes
abbrev areas : List (List Value)
areas = (north ∷ []) ∷ (south ∷ []) ∷ (north ∷ []) ∷ (west ∷ []) ∷ []

-- on any data sets with these points
module _ (a b : DataSet) (listed : keys a ≡ (north ∷ []) ∷ (south ∷ []) ∷ []) (an : get a (north ∷ []) ≡ Some (count 5 ∷ final ∷ [])) (a_south : get a (south ∷ []) ≡ Some (count 3 ∷ final ∷ [])) (a_west : get a (west ∷ []) ≡ None) where
  module _ (others : keys b ≡ (count 1 ∷ north ∷ []) ∷ (count 2 ∷ west ∷ []) ∷ []) (one : get b (count 1 ∷ north ∷ []) ≡ Some (count 9 ∷ [])) (two : get b (count 2 ∷ west ∷ []) ≡ Some (count 8 ∷ [])) where
    inner-on : join_meaning (with_prices Inner) (a ∷ b ∷ []) ≡ made (from_entries (with_one ∷ []))
    inner-on = gives-points (join_working (with_prices Inner) (a ∷ b ∷ [])) (with_one ∷ []) refl (rw others (omega arith)) (rw (others, an, a_west, one) refl)

    cross-on : join_meaning (with_prices Cross) (a ∷ b ∷ []) ≡ made (from_entries each_price)
    cross-on = gives-points (join_working (with_prices Cross) (a ∷ b ∷ [])) each_price refl (rw (listed, others) (omega arith)) (rw (listed, others, an, a_south, one, two) refl)

  padded-on : keys b ≡ [] → get b (north ∷ []) ≡ None → get b (south ∷ []) ≡ None → join_meaning (with_homes Left) (a ∷ b ∷ []) ≡ made (from_entries padded)
  padded-on none bn b_south = gives-points (join_working (with_homes Left) (a ∷ b ∷ [])) padded refl (rw (listed, none) (omega arith)) (rw (listed, none, an, a_south, bn, b_south) refl)

  module _ (others : keys b ≡ (north ∷ []) ∷ (west ∷ []) ∷ []) (bn : get b (north ∷ []) ≡ Some (count 2 ∷ provisional ∷ [])) (b_south : get b (south ∷ []) ≡ None) (b_west : get b (west ∷ []) ≡ Some (count 4 ∷ Null ∷ [])) where
    left-north : (join_working (with_homes Left) (a ∷ b ∷ [])).value (north ∷ []) ≡ Some of_north.1
    left-north = λ i. joined_point (with_homes Left) (an i ∷ bn i ∷ [])

    left-south : (join_working (with_homes Left) (a ∷ b ∷ [])).value (south ∷ []) ≡ Some of_south.1
    left-south = λ i. joined_point (with_homes Left) (a_south i ∷ b_south i ∷ [])

    left-west : (join_working (with_homes Left) (a ∷ b ∷ [])).value (west ∷ []) ≡ None
    left-west = λ i. joined_point (with_homes Left) (a_west i ∷ b_west i ∷ [])

    full-north : (join_working (with_homes Full) (a ∷ b ∷ [])).value (north ∷ []) ≡ Some of_north.1
    full-north = λ i. joined_point (with_homes Full) (an i ∷ bn i ∷ [])

    full-south : (join_working (with_homes Full) (a ∷ b ∷ [])).value (south ∷ []) ≡ Some of_south.1
    full-south = λ i. joined_point (with_homes Full) (a_south i ∷ b_south i ∷ [])

    full-west : (join_working (with_homes Full) (a ∷ b ∷ [])).value (west ∷ []) ≡ Some of_west.1
    full-west = λ i. joined_point (with_homes Full) (a_west i ∷ b_west i ∷ [])

    left-keys : join_keys (with_homes Left) (a ∷ b ∷ []) ≡ areas
    left-keys = rw (listed, others) refl

    full-keys : join_keys (with_homes Full) (a ∷ b ∷ []) ≡ areas
    full-keys = rw (listed, others) refl

    left-on : join_meaning (with_homes Left) (a ∷ b ∷ []) ≡ made (from_entries (of_north ∷ of_south ∷ of_north ∷ []))
    left-on =
        let w : Working = join_working (with_homes Left) (a ∷ b ∷ []) in
        gives-points w (of_north ∷ of_south ∷ of_north ∷ []) refl (rw left-keys (omega arith))
        (ap (filter_map (λ k. option_map (λ x. (k, x)) (w.value k))) left-keys
        ∙ (λ i. cons_option (option_map (λ x. (north ∷ [], x)) (left-north i)) (cons_option (option_map (λ x. (south ∷ [], x)) (left-south i)) (cons_option (option_map (λ x. (north ∷ [], x)) (left-north i)) (cons_option (option_map (λ x. (west ∷ [], x)) (left-west i)) [])))))

    full-on : join_meaning (with_homes Full) (a ∷ b ∷ []) ≡ made (from_entries (of_north ∷ of_south ∷ of_north ∷ of_west ∷ []))
    full-on =
        let w : Working = join_working (with_homes Full) (a ∷ b ∷ []) in
        gives-points w (of_north ∷ of_south ∷ of_north ∷ of_west ∷ []) refl (rw full-keys (omega arith))
        (ap (filter_map (λ k. option_map (λ x. (k, x)) (w.value k))) full-keys
        ∙ (λ i. cons_option (option_map (λ x. (north ∷ [], x)) (full-north i)) (cons_option (option_map (λ x. (south ∷ [], x)) (full-south i)) (cons_option (option_map (λ x. (north ∷ [], x)) (full-north i)) (cons_option (option_map (λ x. (west ∷ [], x)) (full-west i)) [])))))

-- ---- what stands there twice counts once

abbrev Points : Entries → Entries → Type 0
Points xs ys = from_entries {R = key_cmp} xs ≡ from_entries ys

same-points : (xs ys : Entries) → ((key : List Value) → find key_cmp key xs ≡ find key_cmp key ys) → Points xs ys
same-points xs ys same =
    same_map key_cmp-IsTotalOrder key_cmp-IsAntisymmetric (from_entries xs) (from_entries ys)
    (λ key. get-from_entries key_cmp-IsTotalOrder xs key ∙ same key ∙ sym (get-from_entries key_cmp-IsTotalOrder ys key))

once : (rest : Entries) → Points (of_north ∷ of_south ∷ of_north ∷ rest) (of_north ∷ of_south ∷ rest)
once rest = same-points (of_north ∷ of_south ∷ of_north ∷ rest) (of_north ∷ of_south ∷ rest) (λ key. by_test (eq_by_cmp key_cmp key of_north.0) (eq_by_cmp key_cmp key of_south.0) key)
  where
    by_test : (a b : Bool) (key : List Value) → cond a (Some of_north.1) (cond b (Some of_south.1) (cond a (Some of_north.1) (find key_cmp key rest))) ≡ cond a (Some of_north.1) (cond b (Some of_south.1) (find key_cmp key rest))
    by_test true b key = refl
    by_test false b key = refl

-- ---- the data sets

abbrev all_counted : Entries
all_counted = (north ∷ [], count 5 ∷ final ∷ []) ∷ (south ∷ [], count 3 ∷ final ∷ []) ∷ []

abbrev all_built : Entries
all_built = (north ∷ [], count 2 ∷ provisional ∷ []) ∷ (west ∷ [], count 4 ∷ Null ∷ []) ∷ []

abbrev all_priced : Entries
all_priced = (count 1 ∷ north ∷ [], count 9 ∷ []) ∷ (count 2 ∷ west ∷ [], count 8 ∷ []) ∷ []

counted_listed : keys counted ≡ (north ∷ []) ∷ (south ∷ []) ∷ []
counted_listed =
    let all : entries counted ≡ all_counted = entries-from_entries key_cmp-IsTotalOrder key_cmp-IsAntisymmetric all_counted (tt {0}) in
    ap (map (λ (q : List Value × List Value). q.0)) all

built_listed : keys built ≡ (north ∷ []) ∷ (west ∷ []) ∷ []
built_listed =
    let all : entries built ≡ all_built = entries-from_entries key_cmp-IsTotalOrder key_cmp-IsAntisymmetric all_built (tt {0}) in
    ap (map (λ (q : List Value × List Value). q.0)) all

priced_listed : keys priced ≡ (count 1 ∷ north ∷ []) ∷ (count 2 ∷ west ∷ []) ∷ []
priced_listed =
    let all : entries priced ≡ all_priced = entries-from_entries key_cmp-IsTotalOrder key_cmp-IsAntisymmetric all_priced (tt {0}) in
    ap (map (λ (q : List Value × List Value). q.0)) all

no-keys : (ks : List (List Value)) → length ks ≡ 0 → ks ≡ []
no-keys [] none = refl
no-keys (k ∷ ks) none = absurd (omega (arith, none))

keys-empty : keys (empty {X = List Value} {R = key_cmp}) ≡ []
keys-empty =
    let none : DataSet = empty in
    no-keys (keys none) (length-map (entries none) (λ (q : List Value × List Value). q.0) ∙ sym (len-entries none) ∙ len-empty key_cmp (List Value))

counted_at : (key : List Value) → get counted key ≡ find key_cmp key all_counted
counted_at = get-from_entries key_cmp-IsTotalOrder all_counted

built_at : (key : List Value) → get built key ≡ find key_cmp key all_built
built_at = get-from_entries key_cmp-IsTotalOrder all_built

priced_at : (key : List Value) → get priced key ≡ find key_cmp key all_priced
priced_at = get-from_entries key_cmp-IsTotalOrder all_priced

pub inner-is : join_meaning (with_prices Inner) (counted ∷ priced ∷ []) ≡ made (from_entries (with_one ∷ []))
inner-is = inner-on counted priced counted_listed (counted_at (north ∷ [])) (counted_at (south ∷ [])) (counted_at (west ∷ [])) priced_listed (priced_at (count 1 ∷ north ∷ [])) (priced_at (count 2 ∷ west ∷ []))

pub cross-is : join_meaning (with_prices Cross) (counted ∷ priced ∷ []) ≡ made (from_entries each_price)
cross-is = cross-on counted priced counted_listed (counted_at (north ∷ [])) (counted_at (south ∷ [])) (counted_at (west ∷ [])) priced_listed (priced_at (count 1 ∷ north ∷ [])) (priced_at (count 2 ∷ west ∷ []))

pub padded-is : join_meaning (with_homes Left) (counted ∷ empty ∷ []) ≡ made (from_entries padded)
padded-is = padded-on counted empty counted_listed (counted_at (north ∷ [])) (counted_at (south ∷ [])) (counted_at (west ∷ [])) keys-empty (get-empty key_cmp (north ∷ [])) (get-empty key_cmp (south ∷ []))

pub left-is : join_meaning (with_homes Left) (counted ∷ built ∷ []) ≡ made (from_entries (of_north ∷ of_south ∷ []))
left-is = left-on counted built counted_listed (counted_at (north ∷ [])) (counted_at (south ∷ [])) (counted_at (west ∷ [])) built_listed (built_at (north ∷ [])) (built_at (south ∷ [])) (built_at (west ∷ [])) ∙ ap made (once [])

pub full-is : join_meaning (with_homes Full) (counted ∷ built ∷ []) ≡ made (from_entries (of_north ∷ of_south ∷ of_west ∷ []))
full-is = full-on counted built counted_listed (counted_at (north ∷ [])) (counted_at (south ∷ [])) (counted_at (west ∷ [])) built_listed (built_at (north ∷ [])) (built_at (south ∷ [])) (built_at (west ∷ [])) ∙ ap made (once (of_west ∷ []))
