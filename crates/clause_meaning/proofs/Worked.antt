-- Clauses on the small data set.
use Rattle.std.proofs.Common.{◌≡◌, ◌≤◌, ℕ, pos, List, [], ◌∷◌, map, length, true, Option, Some, None, option_map, refl, sym, ap, ◌∙◌, inl, inr, arith, nat_le}
use Rattle.std.specs.Prelude.{filter_map, codes}
use Rattle.std.proofs.lemmas.Bool.{cases_Bool}
use Rattle.std.proofs.lemmas.Bool.Decides.{nat_tests}
use Rattle.std.specs.FinMap.{entries, get, keys, len, from_entries, get-from_entries}
use Rattle.vtl_values.specs.declared.value.Value.{Value}
use Rattle.vtl_values.specs.declared.value.Value.TheVariants.{Null, Truth, Integer, Text}
use Rattle.vtl_values.specs.Order.{key_cmp}
use Rattle.vtl_values.proofs.Values.{key_cmp-IsTotalOrder, key_cmp-IsAntisymmetric}
use Rattle.data_model.specs.Maps.{made_at}
use Rattle.data_model.specs.Outcomes.{least, outcome, made, range_at}
use Rattle.data_model.specs.declared.TheConstants.{POINT_LIMIT}
use Rattle.data_model.proofs.MapLemmas.{len-made_at}
use Rattle.data_model.proofs.EntryLemmas.{entries-from_entries}
use Rattle.point_sets.specs.DataSets.{DataSet}
use Rattle.scalar_trees.specs.declared.operators.BinaryOperator.{BinaryOperator}
use Rattle.scalar_trees.specs.declared.operators.BinaryOperator.TheVariants as binary
use Rattle.scalar_trees.specs.declared.tree.CheckedExpr.{CheckedExpr, fold-roll-CheckedExpr, roll-CheckedExpr, map-CheckedExpr}
use Rattle.scalar_trees.specs.declared.tree.CheckedExpr.TheVariants as expr
use Rattle.scalar_trees.specs.declared.tree.CheckedExpr.TheOpen.{CheckedExpr-F}
use Rattle.scalar_meaning.specs.Numbers.{integer_of}
use Rattle.scalar_meaning.specs.Operators.{binary_value}
use Rattle.scalar_meaning.specs.Rows.{Row, point_row}
use Rattle.scalar_meaning.specs.Scalars.{meaning_step, meaning}
use Rattle.data_set_trees.specs.declared.clauses.clause.CheckedClause.TheVariants as clause
use Rattle.clause_meaning.specs.Workings.{Working, outcome_of}
use Rattle.clause_meaning.specs.Clauses.{item_values, worked_values, working_of, clause_meaning}
use Rattle.clause_meaning.specs.Examples.{frame, people, north, south, counts, many_men, year_one, moved, multiplied, boys, doubled, women, by_sex}

few : (n : ℕ) → n ≤ POINT_LIMIT → nat_le n POINT_LIMIT ≡ true
few n h = elim (cases_Bool (nat_le n POINT_LIMIT)) [
  | inl yes' ↦ yes'
  | inr no' ↦ absurd (grind (arith, nat_tests, no', h))
]

-- the points that a working has at its keys
abbrev pub points_of : Working → List (List Value × List Value)
points_of w = filter_map (λ k. option_map (λ x. (k, x)) (w.value k)) w.keys

-- an operator that is nowhere out of range gives them
pub gives-points : (w : Working) (es : List (List Value × List Value)) → least key_cmp w.beyond w.evaluated ≡ None → length w.keys ≤ POINT_LIMIT → points_of w ≡ es → outcome_of w ≡ made (from_entries es)
unfolding outcome made_at
gives-points w es in_range short has =
    let bound : len (from_entries {R = key_cmp} (points_of w)) ≤ length w.keys = len-made_at key_cmp-IsTotalOrder w.keys w.value in
    let small : nat_le (len (from_entries {R = key_cmp} (points_of w))) POINT_LIMIT ≡ true = few _ (omega (arith, bound, short)) in
    rw (in_range, small) (ap (λ es. made (from_entries {R = key_cmp} es)) has)

pub gives-range : (w : Working) (k : List Value) → least key_cmp w.beyond w.evaluated ≡ Some k → outcome_of w ≡ range_at k
unfolding outcome
gives-range w k h = rw h refl

-- ---- expressions

rolled : (row : Row) (x : CheckedExpr-F CheckedExpr) {e : CheckedExpr} → roll-CheckedExpr x ≡ e → meaning row e ≡ meaning_step row (map-CheckedExpr CheckedExpr (Option Value) (meaning row) x)
rolled row x is = ap (meaning row) (sym is) ∙ fold-roll-CheckedExpr (Option Value) (meaning_step row) x

component-is : (row : Row) (n : ℕ) → meaning row (expr.Component n) ≡ Some (row.component n)
component-is row n = rolled row (CheckedExpr-F.Component n) (expr.rolls-Component n)

literal-is : (row : Row) (v : Value) → meaning row (expr.Literal v) ≡ Some v
literal-is row v = rolled row (CheckedExpr-F.Literal v) (expr.rolls-Literal v)

-- an operator on a component and a literal
binary-is : (row : Row) (o : BinaryOperator) (n : ℕ) (v : Value) → meaning row (expr.Binary o (expr.Component n) (expr.Literal v)) ≡ binary_value o (row.component n) v
binary-is row o n v = rolled row (CheckedExpr-F.Binary o (expr.Component n) (expr.Literal v)) (expr.rolls-Binary o (expr.Component n) (expr.Literal v)) ∙ rw (component-is row n, literal-is row v) refl

-- ---- the data set

abbrev north_counts : List Value
north_counts = Integer (pos 5) ∷ Integer (pos 7) ∷ Text (codes "p") ∷ []

abbrev south_counts : List Value
south_counts = Null ∷ Integer (pos 9) ∷ Null ∷ []

abbrev north_row : Row
north_row = point_row north north_counts

abbrev south_row : Row
south_row = point_row south south_counts

two_keys : keys people ≡ north ∷ south ∷ []
two_keys =
    let all : entries people ≡ counts = entries-from_entries key_cmp-IsTotalOrder key_cmp-IsAntisymmetric counts (tt {0}) in
    ap (map (λ (e : List Value × List Value). e.0)) all

in_north : get people north ≡ Some north_counts
in_north = get-from_entries key_cmp-IsTotalOrder counts north

in_south : get people south ≡ Some south_counts
in_south = get-from_entries key_cmp-IsTotalOrder counts south

-- the expressions on its points
men_in_north : meaning north_row many_men ≡ Some (Truth true)
men_in_north = binary-is north_row binary.Greater 2 (Integer (pos 4))

men_in_south : meaning south_row many_men ≡ Some Null
men_in_south = binary-is south_row binary.Greater 2 (Integer (pos 4))

moved-is : (row : Row) → item_values row moved ≡ Some (row.component 3 ∷ row.component 2 ∷ [])
moved-is row = rw (component-is row 3, component-is row 2) refl

multiplied_in_north : item_values north_row multiplied ≡ Some (Integer (pos 840000000000000) ∷ [])
unfolding integer_of
multiplied_in_north = rw (binary-is north_row binary.Times 3 (Integer (pos 120000000000000))) refl

multiplied_in_south : item_values south_row multiplied ≡ None
unfolding integer_of
multiplied_in_south = rw (binary-is south_row binary.Times 3 (Integer (pos 120000000000000))) refl

doubled_in_north : worked_values north_row doubled ≡ Some (Integer (pos 10) ∷ Integer (pos 14) ∷ [])
unfolding integer_of
doubled_in_north = rw (binary-is north_row binary.Times 2 (Integer (pos 2)), binary-is north_row binary.Times 3 (Integer (pos 2))) refl

doubled_in_south : worked_values south_row doubled ≡ Some (Null ∷ Integer (pos 18) ∷ [])
unfolding integer_of
doubled_in_south = rw (binary-is south_row binary.Times 2 (Integer (pos 2)), binary-is south_row binary.Times 3 (Integer (pos 2))) refl

-- ---- clauses

-- what comes of them
abbrev chosen : List (List Value × List Value)
chosen = (north, north_counts) ∷ []

abbrev without_year : List (List Value × List Value)
without_year = (Text (codes "n") ∷ [], north_counts) ∷ []

abbrev worked : List (List Value × List Value)
worked = (north, Integer (pos 7) ∷ Integer (pos 7) ∷ Integer (pos 5) ∷ Text (codes "p") ∷ []) ∷ (south, Integer (pos 9) ∷ Integer (pos 9) ∷ Null ∷ Null ∷ []) ∷ []

abbrev twice : List (List Value × List Value)
twice = (north, Integer (pos 10) ∷ Integer (pos 14) ∷ Text (codes "p") ∷ []) ∷ (south, Null ∷ Integer (pos 18) ∷ Null ∷ []) ∷ []

-- on any data set with these points
module _ (a : DataSet) (listed : keys a ≡ north ∷ south ∷ []) (first : get a north ≡ Some north_counts) (second : get a south ≡ Some south_counts) where
  filter-on : clause_meaning (clause.Filter many_men) frame a ≡ made (from_entries chosen)
  filter-on = gives-points (working_of (clause.Filter many_men) frame a) chosen (rw (listed, first, second, men_in_north, men_in_south) refl) (rw listed (omega arith)) (rw (listed, first, second, men_in_north, men_in_south) refl)

  sub-on : clause_meaning (clause.Sub year_one) frame a ≡ made (from_entries without_year)
  sub-on = gives-points (working_of (clause.Sub year_one) frame a) without_year (rw listed refl) (rw listed (omega arith)) (rw (listed, first) refl)

  calc-on : clause_meaning (clause.Calc moved) frame a ≡ made (from_entries worked)
  calc-on = gives-points (working_of (clause.Calc moved) frame a) worked (rw (listed, first, second, moved-is north_row, moved-is south_row) refl) (rw listed (omega arith)) (rw (listed, first, second, moved-is north_row, moved-is south_row) refl)

  calc-range-on : clause_meaning (clause.Calc multiplied) frame a ≡ range_at south
  calc-range-on = gives-range (working_of (clause.Calc multiplied) frame a) south (rw (listed, first, second, multiplied_in_north, multiplied_in_south) refl)

  keep-on : clause_meaning (clause.Keep (3 ∷ [])) frame a ≡ made (from_entries women)
  keep-on = gives-points (working_of (clause.Keep (3 ∷ [])) frame a) women (rw (listed, first, second) refl) (rw listed (omega arith)) (rw (listed, first, second) refl)

  drop-on : clause_meaning (clause.Drop (2 ∷ [])) frame a ≡ made (from_entries women)
  drop-on = gives-points (working_of (clause.Drop (2 ∷ [])) frame a) women (rw (listed, first, second) refl) (rw listed (omega arith)) (rw (listed, first, second) refl)

  rename-on : clause_meaning (clause.Rename boys) frame a ≡ made (from_entries counts)
  rename-on = gives-points (working_of (clause.Rename boys) frame a) counts (rw (listed, first, second) refl) (rw listed (omega arith)) (rw (listed, first, second) refl)

  unpivot-on : clause_meaning (clause.Unpivot (codes "sex") (codes "count")) frame a ≡ made (from_entries by_sex)
  unpivot-on = gives-points (working_of (clause.Unpivot (codes "sex") (codes "count")) frame a) by_sex (rw listed refl) (rw listed (omega arith)) (rw (listed, first, second) refl)

  measures-on : clause_meaning (clause.Measures doubled) frame a ≡ made (from_entries twice)
  measures-on = gives-points (working_of (clause.Measures doubled) frame a) twice (rw (listed, first, second, doubled_in_north, doubled_in_south) refl) (rw listed (omega arith)) (rw (listed, first, second, doubled_in_north, doubled_in_south) refl)

-- on the data set
pub filter-people : clause_meaning (clause.Filter many_men) frame people ≡ made (from_entries ((north, Integer (pos 5) ∷ Integer (pos 7) ∷ Text (codes "p") ∷ []) ∷ []))
filter-people = filter-on people two_keys in_north in_south

pub sub-people : clause_meaning (clause.Sub year_one) frame people ≡ made (from_entries ((Text (codes "n") ∷ [], Integer (pos 5) ∷ Integer (pos 7) ∷ Text (codes "p") ∷ []) ∷ []))
sub-people = sub-on people two_keys in_north in_south

pub calc-people : clause_meaning (clause.Calc moved) frame people ≡ made (from_entries ((north, Integer (pos 7) ∷ Integer (pos 7) ∷ Integer (pos 5) ∷ Text (codes "p") ∷ []) ∷ (south, Integer (pos 9) ∷ Integer (pos 9) ∷ Null ∷ Null ∷ []) ∷ []))
calc-people = calc-on people two_keys in_north in_south

pub calc-range-people : clause_meaning (clause.Calc multiplied) frame people ≡ range_at south
calc-range-people = calc-range-on people two_keys in_north in_south

pub keep-people : clause_meaning (clause.Keep (3 ∷ [])) frame people ≡ made (from_entries women)
keep-people = keep-on people two_keys in_north in_south

pub drop-people : clause_meaning (clause.Drop (2 ∷ [])) frame people ≡ made (from_entries women)
drop-people = drop-on people two_keys in_north in_south

pub rename-people : clause_meaning (clause.Rename boys) frame people ≡ made people
rename-people = rename-on people two_keys in_north in_south

pub unpivot-people : clause_meaning (clause.Unpivot (codes "sex") (codes "count")) frame people ≡ made (from_entries by_sex)
unpivot-people = unpivot-on people two_keys in_north in_south

pub measures-people : clause_meaning (clause.Measures doubled) frame people ≡ made (from_entries ((north, Integer (pos 10) ∷ Integer (pos 14) ∷ Text (codes "p") ∷ []) ∷ (south, Null ∷ Integer (pos 18) ∷ Null ∷ []) ∷ []))
measures-people = measures-on people two_keys in_north in_south
