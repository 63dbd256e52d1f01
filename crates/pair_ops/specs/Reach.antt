-- How many steps the rules of operators on pairs may take (docs/layers.md, "pair_ops").
use Rattle.std.specs.Prelude.{ℕ, ◌+◌, ◌*◌, List, [], ◌++◌, map, filter, length, slice_index_or, Bool, not, ◌||◌, is_some, nat_eq}
use Rattle.std.specs.Option.{option_map, unwrap_or}
use Rattle.std.specs.List.{count_by, find, list_all, sum_by, zip}
use Rattle.std.specs.FinMap.{empty, entries, keys}
use Rattle.std.specs.Ordering.{eq_by_cmp}
use Rattle.vtl_values.specs.declared.structure.Component.{Component}
use Rattle.vtl_values.specs.declared.value.Value.{Value}
use Rattle.vtl_values.specs.Order.{value_cmp}
use Rattle.vtl_values.specs.Texts.{same_text}
use Rattle.point_sets.specs.Changes.{Changes}
use Rattle.point_sets.specs.DataSets.{DataSet}
use Rattle.structured_sets.specs.Fitting.{identifiers}
use Rattle.held_index.specs.Holdings.{Holding}
use Rattle.held_index.specs.Reach.{changes_in}

-- a value, and the name of its identifier
abbrev pub NamedValue : Type 0
NamedValue = List ℕ × Value

-- the values of a key with the names of their identifiers
abbrev pub named_values : List Component → List Value → List NamedValue
named_values components key = zip (map (λ c. c.name) (identifiers components)) key

-- whether the two have no identifier in common, or the same value of it
abbrev pub agrees : NamedValue → NamedValue → Bool
agrees a b = not (same_text a.0 b.0) || eq_by_cmp value_cmp a.1 b.1

-- whether two keys agree on all identifiers that they have in common
abbrev pub agree : List NamedValue → List NamedValue → Bool
agree key other = list_all (λ a. list_all (agrees a) other) key

-- what is held of the operand of this number
abbrev pub held_of : ℕ → List Holding → DataSet
held_of n held = unwrap_or (option_map (λ h. h.content) (find (λ h. nat_eq h.want.operand n) held)) empty

-- the keys of the points that a data set has before a change or after it: those that it had, and those that come
abbrev pub met_keys : DataSet → Changes → List (List Value)
met_keys old change = keys old ++ map (λ e. e.0) (filter (λ e. is_some e.1.1) (entries change))

-- how often a key that changes, in an operand of this structure, agrees with one of these points
abbrev pub pairs_with : List (List NamedValue) → List Component → Changes → ℕ
pairs_with points structure change = sum_by (λ key. count_by (agree (named_values structure key)) points) (keys change)

-- the points of the main operand before the news and after them
abbrev pub main_points : List (List Component) → ℕ → List Holding → List Changes → List (List NamedValue)
main_points structures main held news = map (named_values (slice_index_or structures main [])) (met_keys (held_of main held) (slice_index_or news main empty))

-- how often a change of any operand agrees with a point of the main operand
abbrev pub pairs_in : List (List Component) → ℕ → List Holding → List Changes → ℕ
pairs_in structures main held news = sum_by (λ p. pairs_with (main_points structures main held news) p.0 p.1) (zip structures news)

-- the reach of an operator on operands of these structures, whose points are found by the identifiers in common; the main operand gives the result's keys
abbrev pub matching_reach : List (List Component) → ℕ → List Holding → List Changes → ℕ
matching_reach structures main held news = (2 * length structures + 2) * (changes_in news + pairs_in structures main held news)
