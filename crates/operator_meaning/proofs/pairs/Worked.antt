-- Pairs on the small data sets.
use Rattle.std.proofs.Common.{◌≡◌, ℕ, List, [], ◌∷◌, map, Option, Some, None, refl, sym, ap, ◌∙◌, arith}
use Rattle.std.specs.Prelude.{codes}
use Rattle.std.specs.FinMap.{entries, get, keys, from_entries, get-from_entries}
use Rattle.vtl_values.specs.declared.value.Value.{Value}
use Rattle.vtl_values.specs.declared.value.Value.TheVariants.{Null, Text}
use Rattle.vtl_values.proofs.Values.{key_cmp-IsTotalOrder, key_cmp-IsAntisymmetric}
use Rattle.data_model.specs.Outcomes.{made, range_at}
use Rattle.data_model.proofs.EntryLemmas.{entries-from_entries}
use Rattle.point_sets.specs.DataSets.{DataSet}
use Rattle.scalar_trees.specs.declared.operators.BinaryOperator.{BinaryOperator}
use Rattle.scalar_trees.specs.declared.operators.BinaryOperator.TheVariants as binary
use Rattle.scalar_trees.specs.declared.tree.CheckedExpr.{CheckedExpr, fold-roll-CheckedExpr, roll-CheckedExpr, map-CheckedExpr}
use Rattle.scalar_trees.specs.declared.tree.CheckedExpr.TheVariants as expr
use Rattle.scalar_trees.specs.declared.tree.CheckedExpr.TheOpen.{CheckedExpr-F}
use Rattle.scalar_meaning.specs.Numbers.{integer_of}
use Rattle.scalar_meaning.specs.Operators.{binary_value}
use Rattle.scalar_meaning.specs.Rows.{Row, point_row}
use Rattle.scalar_meaning.specs.Scalars.{meaning_step, meaning}
use Rattle.clause_meaning.proofs.Worked.{gives-points, gives-range}
use Rattle.operator_meaning.specs.pairs.Pairs.{pair_working, pair_meaning}
use Rattle.operator_meaning.specs.pairs.Examples.{north, south, count, sold, back, price, together, worth}

-- ---- expressions

rolled : (row : Row) (x : CheckedExpr-F CheckedExpr) {e : CheckedExpr} → roll-CheckedExpr x ≡ e → meaning row e ≡ meaning_step row (map-CheckedExpr CheckedExpr (Option Value) (meaning row) x)
rolled row x is = ap (meaning row) (sym is) ∙ fold-roll-CheckedExpr (Option Value) (meaning_step row) x

component-is : (row : Row) (n : ℕ) → meaning row (expr.Component n) ≡ Some (row.component n)
component-is row n = rolled row (CheckedExpr-F.Component n) (expr.rolls-Component n)

-- an operator on two components
binary-is : (row : Row) (o : BinaryOperator) (m n : ℕ) → meaning row (expr.Binary o (expr.Component m) (expr.Component n)) ≡ binary_value o (row.component m) (row.component n)
binary-is row o m n = rolled row (CheckedExpr-F.Binary o (expr.Component m) (expr.Component n)) (expr.rolls-Binary o (expr.Component m) (expr.Component n)) ∙ rw (component-is row m, component-is row n) refl

-- ---- points

abbrev p : Value
p = Text (codes "p")

abbrev e : Value
e = Text (codes "e")

abbrev sold_north : List Value
sold_north = count 5 ∷ e ∷ []

abbrev sold_south : List Value
sold_south = Null ∷ Null ∷ []

abbrev back_north : List Value
back_north = count 7 ∷ p ∷ []

abbrev back_south : List Value
back_south = count 9 ∷ e ∷ []

abbrev back_later : List Value
back_later = count 2 ∷ Null ∷ []

abbrev north_row : Row
north_row = point_row (north ∷ count 1 ∷ sold_north) (count 1 ∷ north ∷ back_north)

abbrev south_row : Row
south_row = point_row (south ∷ count 2 ∷ sold_south) (count 2 ∷ south ∷ back_south)

abbrev worth_row : ℕ → Row
worth_row n = point_row (north ∷ count n ∷ []) (count 1 ∷ north ∷ back_north)

abbrev later_row : ℕ → Row
later_row n = point_row (north ∷ count n ∷ []) (count 3 ∷ north ∷ back_later)

abbrev sum : CheckedExpr
sum = expr.Binary binary.Plus (expr.Component 2) (expr.Component 6)

abbrev product : CheckedExpr
product = expr.Binary binary.Times (expr.Component 1) (expr.Component 4)

sum_north : meaning north_row sum ≡ Some (count 12)
unfolding integer_of
sum_north = rw (binary-is north_row binary.Plus 2 6) refl

sum_south : meaning south_row sum ≡ Some Null
unfolding integer_of
sum_south = rw (binary-is south_row binary.Plus 2 6) refl

product_north : meaning (worth_row 2) product ≡ Some (count 14)
unfolding integer_of
product_north = rw (binary-is (worth_row 2) binary.Times 1 4) refl

product_later : meaning (later_row 2) product ≡ Some (count 4)
unfolding integer_of
product_later = rw (binary-is (later_row 2) binary.Times 1 4) refl

too_much : meaning (worth_row 900000000000000) product ≡ None
unfolding integer_of
too_much = rw (binary-is (worth_row 900000000000000) binary.Times 1 4) refl

too_much_later : meaning (later_row 900000000000000) product ≡ None
unfolding integer_of
too_much_later = rw (binary-is (later_row 900000000000000) binary.Times 1 4) refl

-- ---- on any data sets with these points

abbrev points_together : List (List Value × List Value)
points_together = (north ∷ count 1 ∷ [], count 12 ∷ p ∷ []) ∷ (south ∷ count 2 ∷ [], Null ∷ e ∷ []) ∷ []

abbrev points_worth : List (List Value × List Value)
points_worth = (north ∷ count 1 ∷ [], count 14 ∷ p ∷ []) ∷ (north ∷ count 3 ∷ [], count 4 ∷ Null ∷ []) ∷ []

module _ (a b : DataSet) (listed : keys a ≡ (north ∷ count 1 ∷ []) ∷ (south ∷ count 2 ∷ []) ∷ []) (an : get a (north ∷ count 1 ∷ []) ≡ Some sold_north) (other : get a (south ∷ count 2 ∷ []) ≡ Some sold_south) (bn : get b (count 1 ∷ north ∷ []) ≡ Some back_north) (bs : get b (count 2 ∷ south ∷ []) ≡ Some back_south) where
  together-on : pair_meaning together a b ≡ made (from_entries points_together)
  together-on = gives-points (pair_working together a b) points_together (rw (listed, an, other, bn, bs, sum_north, sum_south) refl) (rw listed (omega arith)) (rw (listed, an, other, bn, bs, sum_north, sum_south) refl)

module _ (n : ℕ) (a b : DataSet) (listed : keys b ≡ (count 1 ∷ north ∷ []) ∷ (count 2 ∷ south ∷ []) ∷ (count 3 ∷ north ∷ []) ∷ []) (an : get a (north ∷ []) ≡ Some (count n ∷ [])) (other : get a (south ∷ []) ≡ None) (bn : get b (count 1 ∷ north ∷ []) ≡ Some back_north) (bs : get b (count 2 ∷ south ∷ []) ≡ Some back_south) (bl : get b (count 3 ∷ north ∷ []) ≡ Some back_later) where
  worth-on : meaning (worth_row n) product ≡ Some (count 14) → meaning (later_row n) product ≡ Some (count 4) → pair_meaning worth a b ≡ made (from_entries points_worth)
  worth-on first later = gives-points (pair_working worth a b) points_worth (rw (listed, an, other, bn, bl, first, later) refl) (rw listed (omega arith)) (rw (listed, an, other, bn, bl, first, later) refl)

  range-on : meaning (worth_row n) product ≡ None → meaning (later_row n) product ≡ None → pair_meaning worth a b ≡ range_at (north ∷ count 1 ∷ [])
  range-on first later = gives-range (pair_working worth a b) (north ∷ count 1 ∷ []) (rw (listed, an, other, bn, bl, first, later) refl)

-- ---- the data sets

abbrev all_sold : List (List Value × List Value)
all_sold = (north ∷ count 1 ∷ [], sold_north) ∷ (south ∷ count 2 ∷ [], sold_south) ∷ []

abbrev all_back : List (List Value × List Value)
all_back = (count 1 ∷ north ∷ [], back_north) ∷ (count 2 ∷ south ∷ [], back_south) ∷ (count 3 ∷ north ∷ [], back_later) ∷ []

sold_listed : keys sold ≡ (north ∷ count 1 ∷ []) ∷ (south ∷ count 2 ∷ []) ∷ []
sold_listed =
    let all : entries sold ≡ all_sold = entries-from_entries key_cmp-IsTotalOrder key_cmp-IsAntisymmetric all_sold (tt {0}) in
    ap (map (λ (q : List Value × List Value). q.0)) all

back_listed : keys back ≡ (count 1 ∷ north ∷ []) ∷ (count 2 ∷ south ∷ []) ∷ (count 3 ∷ north ∷ []) ∷ []
back_listed =
    let all : entries back ≡ all_back = entries-from_entries key_cmp-IsTotalOrder key_cmp-IsAntisymmetric all_back (tt {0}) in
    ap (map (λ (q : List Value × List Value). q.0)) all

pub together-is : pair_meaning together sold back ≡ made (from_entries ((north ∷ count 1 ∷ [], count 12 ∷ Text (codes "p") ∷ []) ∷ (south ∷ count 2 ∷ [], Null ∷ Text (codes "e") ∷ []) ∷ []))
together-is =
    together-on sold back sold_listed
    (get-from_entries key_cmp-IsTotalOrder all_sold (north ∷ count 1 ∷ [])) (get-from_entries key_cmp-IsTotalOrder all_sold (south ∷ count 2 ∷ []))
    (get-from_entries key_cmp-IsTotalOrder all_back (count 1 ∷ north ∷ [])) (get-from_entries key_cmp-IsTotalOrder all_back (count 2 ∷ south ∷ []))

module _ (n : ℕ) where
  price_north : get (price n) (north ∷ []) ≡ Some (count n ∷ [])
  price_north = get-from_entries key_cmp-IsTotalOrder ((north ∷ [], count n ∷ []) ∷ []) (north ∷ [])

  price_south : get (price n) (south ∷ []) ≡ None
  price_south = get-from_entries key_cmp-IsTotalOrder ((north ∷ [], count n ∷ []) ∷ []) (south ∷ [])

back_at_north : get back (count 1 ∷ north ∷ []) ≡ Some back_north
back_at_north = get-from_entries key_cmp-IsTotalOrder all_back (count 1 ∷ north ∷ [])

back_at_south : get back (count 2 ∷ south ∷ []) ≡ Some back_south
back_at_south = get-from_entries key_cmp-IsTotalOrder all_back (count 2 ∷ south ∷ [])

back_at_later : get back (count 3 ∷ north ∷ []) ≡ Some back_later
back_at_later = get-from_entries key_cmp-IsTotalOrder all_back (count 3 ∷ north ∷ [])

pub worth-is : pair_meaning worth (price 2) back ≡ made (from_entries ((north ∷ count 1 ∷ [], count 14 ∷ Text (codes "p") ∷ []) ∷ (north ∷ count 3 ∷ [], count 4 ∷ Null ∷ []) ∷ []))
worth-is = worth-on 2 (price 2) back back_listed (price_north 2) (price_south 2) back_at_north back_at_south back_at_later product_north product_later

pub range-is : pair_meaning worth (price 900000000000000) back ≡ range_at (north ∷ count 1 ∷ [])
range-is = range-on 900000000000000 (price 900000000000000) back back_listed (price_north 900000000000000) (price_south 900000000000000) back_at_north back_at_south back_at_later too_much too_much_later
