-- What a clause makes of one point (docs/language.md, "Clauses"). A point is its key and the other values.
use Rattle.std.specs.Prelude.{◌++◌, ℕ, Bool, true, false, not, ◌&&◌, if◌then◌else◌, List, [], ◌∷◌, map, Option, Some, None, option_map, option_and_then, is_none}
use Rattle.std.specs.Bool.{then_some}
use Rattle.std.specs.Option.{option_map_or}
use Rattle.std.specs.List.{last_or}
use Rattle.vtl_values.specs.declared.kind.Role.TheVariants.{Viral}
use Rattle.vtl_values.specs.declared.value.Value.{Value}
use Rattle.structured_sets.specs.Fitting.{is_identifier}
use Rattle.scalar_meaning.specs.Rows.{point_row}
use Rattle.scalar_meaning.specs.Scalars.{meaning}
use Rattle.data_set_trees.specs.declared.clauses.frame.Frame.{Frame}
use Rattle.data_set_trees.specs.declared.clauses.clause.CheckedClause.{CheckedClause}
use Rattle.data_set_trees.specs.declared.clauses.clause.CheckedClause.TheVariants as clause
use Rattle.data_set_trees.specs.clauses.Frames.{numbers_from, numbers_of}
use Rattle.data_set_trees.specs.clauses.After.{calculated, is_kept, is_left}
use Rattle.clause_meaning.specs.Clauses.{is_true_at, item_values, calculated_values, numbers_of_others, others_where, has_values, key_left, measures, key_with_name, measure_point, worked_values, with_viral_values}

-- each clause but `sub` and `unpivot` leaves a point its key
abbrev pub keeps_keys : CheckedClause → Bool
keeps_keys (clause.Sub items) = false
keeps_keys (clause.Unpivot identifier measure) = false
keeps_keys _ = true

-- the keys of the result at which a point with this key counts
abbrev pub keys_from : CheckedClause → Frame → List Value → List (List Value)
keys_from (clause.Sub items) frame key = if has_values items key then key_left items frame key ∷ [] else []
keys_from (clause.Unpivot identifier measure) frame key = map (key_with_name key) (measures frame.components)
keys_from _ frame key = key ∷ []

-- the clause is out of range at the point
abbrev pub is_beyond_on : CheckedClause → List Value → List Value → Bool
is_beyond_on (clause.Filter condition) key rest = is_none (meaning (point_row key rest) condition)
is_beyond_on (clause.Calc items) key rest = is_none (item_values (point_row key rest) items)
is_beyond_on (clause.Measures items) key rest = is_none (worked_values (point_row key rest) items)
is_beyond_on _ key rest = false

-- what the result has of the point at one of these keys
abbrev pub values_from : CheckedClause → Frame → List Value → List Value → List Value → Option (List Value)
values_from (clause.Filter condition) frame key rest to = then_some (is_true_at condition key rest) rest
values_from (clause.Calc items) frame key rest to = option_map (calculated_values items frame (key ++ rest)) (item_values (point_row key rest) items)
values_from (clause.Keep numbers) frame key rest to = Some (others_where (is_kept numbers) frame key rest)
values_from (clause.Drop numbers) frame key rest to = Some (others_where (is_left numbers) frame key rest)
values_from (clause.Rename renames) frame key rest to = Some rest
values_from (clause.Sub items) frame key rest to = Some rest
values_from (clause.Unpivot identifier measure) frame key rest to = option_and_then (measure_point frame (key ++ rest)) (last_or None to)
values_from (clause.Measures items) frame key rest to = option_map (with_viral_values frame (key ++ rest)) (worked_values (point_row key rest) items)

-- the numbers of the values of a point that a clause takes over as they are; of `calc` those of all its components but the identifiers, as its items leave them, and of `sub` those of the key that is left
abbrev pub picks_of : CheckedClause → Frame → List ℕ
picks_of (clause.Filter condition) frame = []
picks_of (clause.Calc items) frame = numbers_of_others (calculated items frame).components
picks_of (clause.Keep numbers) frame = numbers_from (λ number c. not (is_identifier c) && is_kept numbers number c) 0 frame.components
picks_of (clause.Drop numbers) frame = numbers_from (λ number c. not (is_identifier c) && is_left numbers number c) 0 frame.components
picks_of (clause.Rename renames) frame = []
picks_of (clause.Sub items) frame = numbers_from (λ number c. is_identifier c && is_left (map (λ i. i.component) items) number c) 0 frame.components
picks_of (clause.Unpivot identifier measure) frame = numbers_of Viral frame.components
picks_of (clause.Measures items) frame = numbers_of Viral frame.components

-- ---- keys at which the operand may have a point

-- the clause is out of range there
abbrev pub is_beyond_at : CheckedClause → List Value → Option (List Value) → Bool
is_beyond_at c key point = option_map_or (is_beyond_on c key) point false

-- what the result has of it at one of the keys at which it counts
abbrev pub values_at_key : CheckedClause → Frame → List Value → Option (List Value) → List Value → Option (List Value)
values_at_key c frame key point to = option_and_then (λ rest. values_from c frame key rest to) point
