-- What a clause gives on a data set (VTL 2.0 Reference Manual, clause operators; docs/language.md, "Clauses"). A point is
-- its key and the other values; one after the other they are the values of the frame's components, by number.
use Rattle.std.specs.Prelude.{ℕ, pred, Bool, true, false, not, ◌&&◌, ◌++◌, List, [], ◌∷◌, map, length, take, zip, fold, filter, find, filter_map, flat_map, slice_get, slice_set, Option, Some, None, option_map, option_and_then, is_none}
use Rattle.std.specs.Bool.{then_some}
use Rattle.std.specs.Option.{option_map_or, option_zip}
use Rattle.std.specs.List.{list_all, last_or}
use Rattle.std.specs.Ordering.{is_eq, eq_by_cmp}
use Rattle.std.specs.FinMap.{get, keys}
use Rattle.vtl_values.specs.declared.kind.Role.TheVariants.{Measure, Attribute, Viral}
use Rattle.vtl_values.specs.declared.structure.Component.{Component}
use Rattle.vtl_values.specs.declared.value.Value.{Value}
use Rattle.vtl_values.specs.declared.value.Value.TheVariants.{Text}
use Rattle.vtl_values.specs.Order.{value_cmp, key_cmp}
use Rattle.data_model.specs.Maps.{if_passes}
use Rattle.data_model.specs.Outcomes.{Outcome}
use Rattle.point_sets.specs.DataSets.{DataSet}
use Rattle.structured_sets.specs.Fitting.{is_identifier}
use Rattle.scalar_trees.specs.declared.tree.CheckedExpr.{CheckedExpr}
use Rattle.scalar_trees.specs.Kinds.{number_value}
use Rattle.scalar_meaning.specs.Comparisons.{is_null}
use Rattle.scalar_meaning.specs.Logic.{holds}
use Rattle.scalar_meaning.specs.Rows.{Row, point_row}
use Rattle.scalar_meaning.specs.Scalars.{meaning}
use Rattle.data_set_trees.specs.declared.clauses.frame.Frame.{Frame}
use Rattle.data_set_trees.specs.declared.clauses.clause.CheckedClause.{CheckedClause}
use Rattle.data_set_trees.specs.declared.clauses.clause.CheckedClause.TheVariants as clause
use Rattle.data_set_trees.specs.declared.clauses.clause.CheckedItem.{CheckedItem}
use Rattle.data_set_trees.specs.declared.clauses.clause.CheckedMeasure.{CheckedMeasure}
use Rattle.data_set_trees.specs.declared.clauses.clause.CheckedSubItem.{CheckedSubItem}
use Rattle.data_set_trees.specs.declared.clauses.clause.Target.{Target}
use Rattle.data_set_trees.specs.declared.clauses.clause.Target.TheVariants.{Old, New}
use Rattle.data_set_trees.specs.clauses.Frames.{has_role, numbers_from, numbers_of}
use Rattle.data_set_trees.specs.clauses.After.{calculated, is_kept, is_left}
use Rattle.clause_meaning.specs.Workings.{Working, outcome_of, point_by_point, never}

-- the values of the components with these numbers
abbrev pub values_at : List ℕ → List Value → List Value
values_at numbers values = filter_map (slice_get values) numbers

-- ---- filter

-- the condition is true, and neither false nor null
abbrev pub is_true_at : CheckedExpr → List Value → List Value → Bool
is_true_at condition key rest = option_map_or holds (meaning (point_row key rest) condition) false

-- the points at which the condition is true; out of range where the condition is
abbrev pub filter_working : CheckedExpr → DataSet → Working
filter_working condition a = point_by_point (λ key rest. is_none (meaning (point_row key rest) condition)) (λ key rest. then_some (is_true_at condition key rest) rest) a

-- ---- calc

-- the values of all expressions on a row, none where one is out of range
abbrev pub values_on : Row → List CheckedExpr → Option (List Value)
values_on row [] = Some []
values_on row (e ∷ es) = option_map (λ p. p.0 ∷ p.1) (option_zip (meaning row e) (values_on row es))

-- the values of all items on a row, none where one is out of range
abbrev pub item_values : Row → List CheckedItem → Option (List Value)
item_values row items = values_on row (map (λ i. i.value) items)

-- the value of a target is that of its component; where the component is new it comes after all others
abbrev pub put_value : Target → Value → List Value → List Value
put_value (Old number) v values = slice_set values number v
put_value (New name) v values = values ++ v ∷ []

abbrev pub put_values : List CheckedItem → List Value → List Value → List Value
put_values items vs values = fold (λ done p. put_value p.0.target p.1 done) values (zip items vs)

-- the numbers of measures, then of attributes and viral attributes
abbrev pub numbers_of_others : List Component → List ℕ
numbers_of_others cs = (numbers_of Measure cs ++ numbers_of Attribute cs) ++ numbers_of Viral cs

-- a point's other values, where its items have values: each target's in its place, and then by role
abbrev pub calculated_values : List CheckedItem → Frame → List Value → List Value → List Value
calculated_values items frame values vs = values_at (numbers_of_others (calculated items frame).components) (put_values items vs values)

-- each point with its items worked out on the point as it was; out of range where an item is
abbrev pub calc_working : List CheckedItem → Frame → DataSet → Working
calc_working items frame a = point_by_point (λ key rest. is_none (item_values (point_row key rest) items)) (λ key rest. option_map (calculated_values items frame (key ++ rest)) (item_values (point_row key rest) items)) a

-- ---- keep, drop and rename

-- a point's values of the components that pass and are no identifiers, in their order
abbrev pub others_where : (ℕ → Component → Bool) → Frame → List Value → List Value → List Value
others_where passes frame key rest = values_at (numbers_from (λ number c. not (is_identifier c) && passes number c) 0 frame.components) (key ++ rest)

-- each point with the values of the components that stay
abbrev pub staying_working : (ℕ → Component → Bool) → Frame → DataSet → Working
staying_working passes frame a = point_by_point never (λ key rest. Some (others_where passes frame key rest)) a

-- each point with all its values
abbrev pub rename_working : DataSet → Working
rename_working a = point_by_point never (λ key rest. Some rest) a

-- ---- sub

-- equal values, where integers are numbers
abbrev pub is_equal : Value → Value → Bool
is_equal a b = is_eq (value_cmp (number_value a) (number_value b))

abbrev pub has_value : List Value → CheckedSubItem → Bool
has_value key item = option_map_or (is_equal item.value) (slice_get key item.component) false

-- the identifiers that are named have these values
abbrev pub has_values : List CheckedSubItem → List Value → Bool
has_values items key = list_all (has_value key) items

-- a key without the identifiers that are named
abbrev pub key_left : List CheckedSubItem → Frame → List Value → List Value
key_left items frame key = values_at (numbers_from (λ number c. is_identifier c && is_left (map (λ i. i.component) items) number c) 0 frame.components) key

-- the identifiers that are named have the values, and without them the key is the other one
abbrev pub comes_to : List CheckedSubItem → Frame → List Value → List Value → Bool
comes_to items frame left key = has_values items key && eq_by_cmp key_cmp left (key_left items frame key)

-- the points whose identifiers have these values, under their keys without them
abbrev pub sub_working : List CheckedSubItem → Frame → DataSet → Working
sub_working items frame a = record { evaluated = keys a; beyond = λ key. false; keys = map (key_left items frame) (filter (has_values items) (keys a)); value = λ left. option_and_then (get a) (find (comes_to items frame left) (keys a)) }

-- ---- unpivot

abbrev pub measures : List Component → List Component
measures = filter (has_role Measure)

-- a key, and after it a measure's name as a text
abbrev pub key_with_name : List Value → Component → List Value
key_with_name key c = key ++ Text c.name ∷ []

-- the value is the measure's name
abbrev pub is_measure_called : Value → Component → Bool
is_measure_called name c = has_role Measure c && is_eq (value_cmp name (Text c.name))

-- the value of the measure that is called so, if there is one and it isn't null
abbrev pub measure_value : Frame → List Value → Value → Option Value
measure_value frame values name = if_passes (λ v. not (is_null v)) (option_map (λ p. p.1) (find (λ p. is_measure_called name p.0) (zip frame.components values)))

-- a measure's value, and then those of the viral attributes
abbrev pub measure_point : Frame → List Value → Value → Option (List Value)
measure_point frame values name = option_map (λ v. v ∷ values_at (numbers_of Viral frame.components) values) (measure_value frame values name)

abbrev pub without_last : List Value → List Value
without_last key = take (pred (length key)) key

-- at a key that ends with a measure's name: what the point with the key before it has of that measure
abbrev pub unpivoted_at : Frame → DataSet → List Value → Option (List Value)
unpivoted_at frame a key = option_and_then (λ name. option_and_then (λ rest. measure_point frame (without_last key ++ rest) name) (get a (without_last key))) (last_or None key)

-- a point for each point and measure that isn't null in it
abbrev pub unpivot_working : Frame → DataSet → Working
unpivot_working frame a = record { evaluated = keys a; beyond = λ key. false; keys = flat_map (λ key. map (key_with_name key) (measures frame.components)) (keys a); value = unpivoted_at frame a }

-- ---- measures in place of those that there are

-- the values of the measures that are worked out, none where one is out of range
abbrev pub worked_values : Row → List CheckedMeasure → Option (List Value)
worked_values row items = values_on row (map (λ i. i.value) items)

-- these values, and then those of the viral attributes
abbrev pub with_viral_values : Frame → List Value → List Value → List Value
with_viral_values frame values vs = vs ++ values_at (numbers_of Viral frame.components) values

-- each point with its measures worked out on the point as it was; out of range where one of them is
abbrev pub measures_working : List CheckedMeasure → Frame → DataSet → Working
measures_working items frame a = point_by_point (λ key rest. is_none (worked_values (point_row key rest) items)) (λ key rest. option_map (with_viral_values frame (key ++ rest)) (worked_values (point_row key rest) items)) a

-- ---- a clause

-- on a data set of the frame's components
abbrev pub working_of : CheckedClause → Frame → DataSet → Working
working_of (clause.Filter condition) frame a = filter_working condition a
working_of (clause.Calc items) frame a = calc_working items frame a
working_of (clause.Keep numbers) frame a = staying_working (is_kept numbers) frame a
working_of (clause.Drop numbers) frame a = staying_working (is_left numbers) frame a
working_of (clause.Rename renames) frame a = rename_working a
working_of (clause.Sub items) frame a = sub_working items frame a
working_of (clause.Unpivot identifier measure) frame a = unpivot_working frame a
working_of (clause.Measures items) frame a = measures_working items frame a

-- what the clause gives
abbrev pub clause_meaning : CheckedClause → Frame → DataSet → Outcome key_cmp (List Value)
clause_meaning clause frame a = outcome_of (working_of clause frame a)

-- only `unpivot` may make several points of one
abbrev pub makes_more : CheckedClause → Bool
makes_more (clause.Unpivot identifier measure) = true
makes_more _ = false
