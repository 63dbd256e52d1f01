-- Aggregates on the small data sets.
use Rattle.std.proofs.Common.{◌≡◌, List, [], ◌∷◌, ◌++◌, map, ℕ, pos, negsuc, Bool, true, false, cond, Option, Some, refl, sym, ap, ◌∙◌, arith}
use Rattle.std.specs.Prelude.{codes}
use Rattle.std.specs.Ordering.{eq_by_cmp}
use Rattle.std.specs.FinMap.{entries, find, from_entries, get-from_entries, same_map}
use Rattle.vtl_values.specs.declared.value.Value.{Value}
use Rattle.vtl_values.specs.declared.value.Value.TheVariants.{Truth, Integer, Text}
use Rattle.vtl_values.specs.Order.{key_cmp}
use Rattle.vtl_values.proofs.Values.{key_cmp-IsTotalOrder, key_cmp-IsAntisymmetric}
use Rattle.vtl_syntax.specs.declared.words.AggregateFunction.{AggregateFunction}
use Rattle.vtl_syntax.specs.declared.words.AggregateFunction.TheVariants.{Sum}
use Rattle.vtl_decimals.specs.Arithmetic.{number_of}
use Rattle.data_model.specs.Outcomes.{made}
use Rattle.data_model.proofs.EntryLemmas.{entries-from_entries}
use Rattle.point_sets.specs.DataSets.{DataSet}
use Rattle.scalar_trees.specs.declared.operators.BinaryOperator.TheVariants as binary
use Rattle.scalar_trees.specs.declared.tree.CheckedExpr.{CheckedExpr, fold-roll-CheckedExpr, roll-CheckedExpr, map-CheckedExpr}
use Rattle.scalar_trees.specs.declared.tree.CheckedExpr.TheVariants as expr
use Rattle.scalar_trees.specs.declared.tree.CheckedExpr.TheOpen.{CheckedExpr-F}
use Rattle.scalar_meaning.specs.Operators.{binary_value}
use Rattle.scalar_meaning.specs.Rows.{Row}
use Rattle.scalar_meaning.specs.Scalars.{meaning_step, meaning}
use Rattle.clause_meaning.proofs.Worked.{gives-points}
use Rattle.operator_meaning.specs.aggregates.Aggregates.{aggregate_meaning, aggregate_working, groups_of, item_values}
use Rattle.operator_meaning.specs.aggregates.Examples.{plain, with_status, group_g, group_h, point_of_g, point_of_h, number, counted, marked, great, several, by_group, of_several}
use Rattle.operator_meaning.specs.aggregates.Groups.{group_at, group_row}

abbrev Entries : Type 0
Entries = List (List Value × List Value)

-- a point that is listed twice counts once
once : (e : List Value × List Value) (es : Entries) → from_entries {R = key_cmp} (e ∷ e ∷ es) ≡ from_entries (e ∷ es)
once e es =
    same_map key_cmp-IsTotalOrder key_cmp-IsAntisymmetric (from_entries (e ∷ e ∷ es)) (from_entries (e ∷ es))
    (λ q. get-from_entries key_cmp-IsTotalOrder (e ∷ e ∷ es) q ∙ by_test (eq_by_cmp key_cmp q e.0) (find key_cmp q es) ∙ sym (get-from_entries key_cmp-IsTotalOrder (e ∷ es) q))
  where
    by_test : (b : Bool) (o : Option (List Value)) → cond b (Some e.1) (cond b (Some e.1) o) ≡ cond b (Some e.1) o
    by_test true o = refl
    by_test false o = refl

-- ---- expressions

rolled : (row : Row) (x : CheckedExpr-F CheckedExpr) {e : CheckedExpr} → roll-CheckedExpr x ≡ e → meaning row e ≡ meaning_step row (map-CheckedExpr CheckedExpr (Option Value) (meaning row) x)
rolled row x is = ap (meaning row) (sym is) ∙ fold-roll-CheckedExpr (Option Value) (meaning_step row) x

aggregate-is : (row : Row) (f : AggregateFunction) (n : ℕ) → meaning row (expr.Aggregate f n) ≡ row.aggregated f n
aggregate-is row f n = rolled row (CheckedExpr-F.Aggregate f n) (expr.rolls-Aggregate f n)

count-is : (row : Row) → meaning row expr.CountAll ≡ Some row.counted
count-is row = rolled row CheckedExpr-F.CountAll expr.rolls-CountAll

literal-is : (row : Row) (v : Value) → meaning row (expr.Literal v) ≡ Some v
literal-is row v = rolled row (CheckedExpr-F.Literal v) (expr.rolls-Literal v)

several-is : (row : Row) → meaning row several ≡ binary_value binary.Greater row.counted (Integer (pos 1))
several-is row = rolled row (CheckedExpr-F.Binary binary.Greater expr.CountAll (expr.Literal (Integer (pos 1)))) (expr.rolls-Binary binary.Greater expr.CountAll (expr.Literal (Integer (pos 1)))) ∙ rw (count-is row, literal-is row (Integer (pos 1))) refl

-- ---- groups

-- each point with all its values
abbrev whole : Entries → List (List Value)
whole es = map (λ (e : List Value × List Value). e.0 ++ e.1) es

-- what is worked out on the group g of these points
abbrev row_of : Entries → Row
row_of es = group_row (0 ∷ []) group_g (whole es)

-- ---- a group of several points, and one of one

abbrev two : Entries
two = (point_of_g 1, number (pos 5) ∷ []) ∷ (point_of_g 2, number (pos 6) ∷ []) ∷ []

abbrev one : Entries
one = (point_of_h 1, number (pos 7) ∷ []) ∷ []

abbrev one_row : Row
one_row = group_row (0 ∷ []) group_h (whole one)

two-sum : item_values (row_of two) (of_several plain).items ≡ Some (number (pos 11) ∷ [])
unfolding number_of
two-sum = rw (aggregate-is (row_of two) Sum 2) refl

one-sum : item_values one_row (of_several plain).items ≡ Some (number (pos 7) ∷ [])
unfolding number_of
one-sum = rw (aggregate-is one_row Sum 2) refl

two-stays : meaning (row_of two) several ≡ Some (Truth true)
two-stays = several-is (row_of two)

one-goes : meaning one_row several ≡ Some (Truth false)
one-goes = several-is one_row

abbrev eleven : List Value × List Value
eleven = (group_g, number (pos 11) ∷ [])

-- on any data set with these points
counted-on : (x : DataSet) → entries x ≡ two ++ one → aggregate_meaning (of_several plain) plain x ≡ made (from_entries (eleven ∷ eleven ∷ []))
counted-on x listed =
    let groups : groups_of (of_several plain) x ≡ group_g ∷ group_g ∷ group_h ∷ [] = rw listed refl in
    let in_g : group_at (0 ∷ []) x group_g ≡ Some (whole two) = rw listed refl in
    let in_h : group_at (0 ∷ []) x group_h ≡ Some (whole one) = rw listed refl in
    gives-points (aggregate_working (of_several plain) plain x) (eleven ∷ eleven ∷ [])
    (rw (groups, in_g, in_h, two-sum, one-sum, two-stays, one-goes) refl) (rw groups (omega arith)) (rw (groups, in_g, in_h, two-sum, two-stays, one-goes) refl)

pub several-counted : aggregate_meaning (of_several plain) plain counted ≡ made (from_entries ((group_g, number (pos 11) ∷ []) ∷ []))
several-counted = counted-on counted (entries-from_entries key_cmp-IsTotalOrder key_cmp-IsAntisymmetric (two ++ one) (tt {0})) ∙ ap made (once eleven [])

-- ---- a group with a status

abbrev with_marks : Entries
with_marks = (point_of_g 1, number (pos 10) ∷ Text (codes "P") ∷ []) ∷ (point_of_g 2, number (pos 20) ∷ Text (codes "E") ∷ []) ∷ []

marked-sum : item_values (row_of with_marks) (by_group with_status).items ≡ Some (number (pos 30) ∷ [])
unfolding number_of
marked-sum = rw (aggregate-is (row_of with_marks) Sum 2) refl

abbrev thirty : List Value × List Value
thirty = (group_g, number (pos 30) ∷ Text (codes "E") ∷ [])

marked-on : (x : DataSet) → entries x ≡ with_marks → aggregate_meaning (by_group with_status) with_status x ≡ made (from_entries (thirty ∷ thirty ∷ []))
marked-on x listed =
    let groups : groups_of (by_group with_status) x ≡ group_g ∷ group_g ∷ [] = rw listed refl in
    let in_g : group_at (0 ∷ []) x group_g ≡ Some (whole with_marks) = rw listed refl in
    gives-points (aggregate_working (by_group with_status) with_status x) (thirty ∷ thirty ∷ []) (rw (groups, in_g, marked-sum) refl) (rw groups (omega arith)) (rw (groups, in_g, marked-sum) refl)

pub sum-marked : aggregate_meaning (by_group with_status) with_status marked ≡ made (from_entries ((group_g, number (pos 30) ∷ Text (codes "E") ∷ []) ∷ []))
sum-marked = marked-on marked (entries-from_entries key_cmp-IsTotalOrder key_cmp-IsAntisymmetric with_marks (tt {0})) ∙ ap made (once thirty [])

-- ---- a group of great numbers

abbrev three : Entries
three = (point_of_g 1, number (pos 900000000000000) ∷ []) ∷ (point_of_g 2, number (pos 900000000000000) ∷ []) ∷ (point_of_g 3, number (negsuc 899999999999999) ∷ []) ∷ []

great-sum : item_values (row_of three) (by_group plain).items ≡ Some (number (pos 900000000000000) ∷ [])
unfolding number_of
great-sum = rw (aggregate-is (row_of three) Sum 2) refl

abbrev great_one : List Value × List Value
great_one = (group_g, number (pos 900000000000000) ∷ [])

great-on : (x : DataSet) → entries x ≡ three → aggregate_meaning (by_group plain) plain x ≡ made (from_entries (great_one ∷ great_one ∷ great_one ∷ []))
great-on x listed =
    let groups : groups_of (by_group plain) x ≡ group_g ∷ group_g ∷ group_g ∷ [] = rw listed refl in
    let in_g : group_at (0 ∷ []) x group_g ≡ Some (whole three) = rw listed refl in
    gives-points (aggregate_working (by_group plain) plain x) (great_one ∷ great_one ∷ great_one ∷ []) (rw (groups, in_g, great-sum) refl) (rw groups (omega arith)) (rw (groups, in_g, great-sum) refl)

pub sum-great : aggregate_meaning (by_group plain) plain great ≡ made (from_entries ((group_g, number (pos 900000000000000) ∷ []) ∷ []))
sum-great = great-on great (entries-from_entries key_cmp-IsTotalOrder key_cmp-IsAntisymmetric three (tt {0})) ∙ ap made (once great_one (great_one ∷ []) ∙ once great_one [])
