-- Conditionals on the small data sets.
use Rattle.std.proofs.Common.{◌≡◌, ℕ, List, [], ◌∷◌, map, true, false, Option, Some, None, refl, sym, ap, ◌∙◌, arith}
use Rattle.std.specs.Prelude.{codes}
use Rattle.std.specs.FinMap.{entries, get, keys, from_entries, get-from_entries}
use Rattle.vtl_values.specs.declared.value.Value.{Value}
use Rattle.vtl_values.specs.declared.value.Value.TheVariants.{Null, Truth, Text}
use Rattle.vtl_values.proofs.Values.{key_cmp-IsTotalOrder, key_cmp-IsAntisymmetric}
use Rattle.data_model.specs.Outcomes.{made, range_at}
use Rattle.data_model.proofs.EntryLemmas.{entries-from_entries}
use Rattle.point_sets.specs.DataSets.{DataSet}
use Rattle.scalar_trees.specs.declared.operators.BinaryOperator.{BinaryOperator}
use Rattle.scalar_trees.specs.declared.tree.CheckedExpr.{CheckedExpr, fold-roll-CheckedExpr, roll-CheckedExpr, map-CheckedExpr}
use Rattle.scalar_trees.specs.declared.tree.CheckedExpr.TheVariants as expr
use Rattle.scalar_trees.specs.declared.tree.CheckedExpr.TheOpen.{CheckedExpr-F}
use Rattle.scalar_meaning.specs.Numbers.{integer_of}
use Rattle.scalar_meaning.specs.Operators.{binary_value}
use Rattle.scalar_meaning.specs.Rows.{Row, point_row}
use Rattle.scalar_meaning.specs.Scalars.{meaning_step, meaning}
use Rattle.clause_meaning.proofs.Worked.{gives-points, gives-range}
use Rattle.operator_meaning.specs.pairs.Examples.{north, south, count, sold, back}
use Rattle.operator_meaning.specs.choices.Choices.{choice_working, choice_meaning}
use Rattle.operator_meaning.specs.choices.Examples.{asked, known_or_sold, known_or, zero_written, too_much}

-- ---- expressions

rolled : (row : Row) (x : CheckedExpr-F CheckedExpr) {e : CheckedExpr} → roll-CheckedExpr x ≡ e → meaning row e ≡ meaning_step row (map-CheckedExpr CheckedExpr (Option Value) (meaning row) x)
rolled row x is = ap (meaning row) (sym is) ∙ fold-roll-CheckedExpr (Option Value) (meaning_step row) x

component-is : (row : Row) (n : ℕ) → meaning row (expr.Component n) ≡ Some (row.component n)
component-is row n = rolled row (CheckedExpr-F.Component n) (expr.rolls-Component n)

literal-is : (row : Row) (v : Value) → meaning row (expr.Literal v) ≡ Some v
literal-is row v = rolled row (CheckedExpr-F.Literal v) (expr.rolls-Literal v)

binary-is : (row : Row) (o : BinaryOperator) (v w : Value) → meaning row (expr.Binary o (expr.Literal v) (expr.Literal w)) ≡ binary_value o v w
binary-is row o v w = rolled row (CheckedExpr-F.Binary o (expr.Literal v) (expr.Literal w)) (expr.rolls-Binary o (expr.Literal v) (expr.Literal w)) ∙ rw (literal-is row v, literal-is row w) refl

-- ---- points

abbrev p : Value
p = Text (codes "p")

abbrev e : Value
e = Text (codes "e")

abbrev known : List Value
known = Truth true ∷ e ∷ []

abbrev unknown : List Value
unknown = Truth false ∷ Null ∷ []

abbrev unasked : List Value
unasked = Null ∷ e ∷ []

abbrev back_north : List Value
back_north = count 7 ∷ p ∷ []

abbrev sold_south : List Value
sold_south = Null ∷ Null ∷ []

abbrev back_row : Row
back_row = point_row (count 1 ∷ north ∷ []) back_north

abbrev sold_row : Row
sold_row = point_row (south ∷ count 2 ∷ []) sold_south

number_back : meaning back_row (expr.Component 2) ≡ Some (count 7)
number_back = component-is back_row 2

number_sold : meaning sold_row (expr.Component 2) ≡ Some Null
number_sold = component-is sold_row 2

abbrev no_row : Row
no_row = point_row [] []

zero_is : meaning no_row zero_written ≡ Some (count 0)
zero_is = literal-is no_row (count 0)

nothing_is : meaning no_row too_much ≡ None
unfolding integer_of
nothing_is = rw (binary-is no_row _ _ _) refl

-- ---- on any data sets with these points

abbrev points_known : List (List Value × List Value)
points_known = (north ∷ count 1 ∷ [], count 7 ∷ p ∷ []) ∷ (south ∷ count 2 ∷ [], Null ∷ e ∷ []) ∷ []

abbrev points_zero : List (List Value × List Value)
points_zero = (north ∷ count 1 ∷ [], count 7 ∷ p ∷ []) ∷ (north ∷ count 3 ∷ [], count 0 ∷ Null ∷ []) ∷ (south ∷ count 2 ∷ [], count 0 ∷ e ∷ []) ∷ []

module _ (a b s : DataSet) (listed : keys a ≡ (north ∷ count 1 ∷ []) ∷ (north ∷ count 3 ∷ []) ∷ (south ∷ count 2 ∷ []) ∷ []) (first : get a (north ∷ count 1 ∷ []) ≡ Some known) (second : get a (north ∷ count 3 ∷ []) ≡ Some unknown) (third : get a (south ∷ count 2 ∷ []) ≡ Some unasked) (bn : get b (count 1 ∷ north ∷ []) ≡ Some back_north) where
  known-on : get s (north ∷ count 3 ∷ []) ≡ None → get s (south ∷ count 2 ∷ []) ≡ Some sold_south → choice_meaning known_or_sold (a ∷ b ∷ s ∷ []) ≡ made (from_entries points_known)
  known-on none there = gives-points (choice_working known_or_sold (a ∷ b ∷ s ∷ [])) points_known (rw (listed, first, second, third, bn, none, there, number_back, number_sold) refl) (rw listed (omega arith)) (rw (listed, first, second, third, bn, none, there, number_back, number_sold) refl)

  zero-on : choice_meaning (known_or zero_written) (a ∷ b ∷ []) ≡ made (from_entries points_zero)
  zero-on = gives-points (choice_working (known_or zero_written) (a ∷ b ∷ [])) points_zero (rw (listed, first, second, third, bn, number_back, zero_is) refl) (rw listed (omega arith)) (rw (listed, first, second, third, bn, number_back, zero_is) refl)

  range-on : choice_meaning (known_or too_much) (a ∷ b ∷ []) ≡ range_at (north ∷ count 3 ∷ [])
  range-on = gives-range (choice_working (known_or too_much) (a ∷ b ∷ [])) (north ∷ count 3 ∷ []) (rw (listed, first, second, third, bn, number_back, nothing_is) refl)

-- ---- the data sets

abbrev all_asked : List (List Value × List Value)
all_asked = (north ∷ count 1 ∷ [], known) ∷ (north ∷ count 3 ∷ [], unknown) ∷ (south ∷ count 2 ∷ [], unasked) ∷ []

abbrev all_sold : List (List Value × List Value)
all_sold = (north ∷ count 1 ∷ [], count 5 ∷ e ∷ []) ∷ (south ∷ count 2 ∷ [], sold_south) ∷ []

abbrev all_back : List (List Value × List Value)
all_back = (count 1 ∷ north ∷ [], back_north) ∷ (count 2 ∷ south ∷ [], count 9 ∷ e ∷ []) ∷ (count 3 ∷ north ∷ [], count 2 ∷ Null ∷ []) ∷ []

asked_listed : keys asked ≡ (north ∷ count 1 ∷ []) ∷ (north ∷ count 3 ∷ []) ∷ (south ∷ count 2 ∷ []) ∷ []
asked_listed =
    let all : entries asked ≡ all_asked = entries-from_entries key_cmp-IsTotalOrder key_cmp-IsAntisymmetric all_asked (tt {0}) in
    ap (map (λ (q : List Value × List Value). q.0)) all

pub known-is : choice_meaning known_or_sold (asked ∷ back ∷ sold ∷ []) ≡ made (from_entries points_known)
known-is =
    known-on asked back sold asked_listed
    (get-from_entries key_cmp-IsTotalOrder all_asked (north ∷ count 1 ∷ [])) (get-from_entries key_cmp-IsTotalOrder all_asked (north ∷ count 3 ∷ [])) (get-from_entries key_cmp-IsTotalOrder all_asked (south ∷ count 2 ∷ []))
    (get-from_entries key_cmp-IsTotalOrder all_back (count 1 ∷ north ∷ []))
    (get-from_entries key_cmp-IsTotalOrder all_sold (north ∷ count 3 ∷ [])) (get-from_entries key_cmp-IsTotalOrder all_sold (south ∷ count 2 ∷ []))

pub zero-is : choice_meaning (known_or zero_written) (asked ∷ back ∷ []) ≡ made (from_entries points_zero)
zero-is =
    zero-on asked back sold asked_listed
    (get-from_entries key_cmp-IsTotalOrder all_asked (north ∷ count 1 ∷ [])) (get-from_entries key_cmp-IsTotalOrder all_asked (north ∷ count 3 ∷ [])) (get-from_entries key_cmp-IsTotalOrder all_asked (south ∷ count 2 ∷ []))
    (get-from_entries key_cmp-IsTotalOrder all_back (count 1 ∷ north ∷ []))

pub range-is : choice_meaning (known_or too_much) (asked ∷ back ∷ []) ≡ range_at (north ∷ count 3 ∷ [])
range-is =
    range-on asked back sold asked_listed
    (get-from_entries key_cmp-IsTotalOrder all_asked (north ∷ count 1 ∷ [])) (get-from_entries key_cmp-IsTotalOrder all_asked (north ∷ count 3 ∷ [])) (get-from_entries key_cmp-IsTotalOrder all_asked (south ∷ count 2 ∷ []))
    (get-from_entries key_cmp-IsTotalOrder all_back (count 1 ∷ north ∷ []))
