-- How the points of both operands of `exists_in` are held, part by part, and what news make of parts.
use Rattle.std.specs.Prelude.{◌≡◌, ℕ, ◌+◌, ◌≤◌, Bool, ◌&&◌, List, map, filter, filter_map, length, nat_lt, slice_get, Option, None, unwrap_or, is_some, if◌then◌else◌}
use Rattle.std.specs.List.{count_by, position, sum_by}
use Rattle.std.specs.Ordering.{eq_by_cmp}
use Rattle.std.specs.BTreeMap.{BTreeMap, get}
use Rattle.vtl_values.specs.declared.kind.Role.TheVariants.{Identifier}
use Rattle.vtl_values.specs.declared.structure.Component.{Component}
use Rattle.vtl_values.specs.declared.value.Value.{Value}
use Rattle.vtl_values.specs.declared.value.Value.TheVariants.{Null}
use Rattle.vtl_values.specs.Order.{key_cmp}
use Rattle.data_model.specs.Deltas.{Pair, is_gain, is_loss}
use Rattle.point_sets.specs.DataSets.{DataSet}
use Rattle.held_index.specs.declared.want.Want.{Want}
use Rattle.held_index.specs.Holdings.{part_of}
use Rattle.held_index.specs.Wants.{in_parts}
use Rattle.data_set_trees.specs.clauses.Frames.{has_role}
use Rattle.data_set_trees.specs.Components.{identifiers, has_name}
use Rattle.operator_meaning.specs.exists.Exists.{ExistsOn, common}
use Rattle.exists_ops.specs.declared.parts.Shift.{Shift}

-- ---- what is wanted

-- the number of the identifier of this name
abbrev pub number_of : List ℕ → List Component → Option ℕ
number_of name cs = position (λ c. has_role Identifier c && has_name name c) cs

-- the numbers that these identifiers have in a structure
abbrev pub numbers_in : List Component → List Component → List ℕ
numbers_in structure cs = filter_map (λ c. number_of c.name structure) cs

-- the number, in a structure, of an identifier of the second operand that the first one has too
abbrev pub shared_number : List Component → List Component → Component → Option ℕ
shared_number structure left c = if has_role Identifier c && is_some (number_of c.name left) then number_of c.name structure else None

-- those of the identifiers that both operands have, as they stand in the second: in the first, and in the second
abbrev pub left_numbers : ExistsOn → List ℕ
left_numbers e = numbers_in e.left (identifiers (common e))

abbrev pub right_numbers : ExistsOn → List ℕ
right_numbers e = numbers_in e.right (identifiers (common e))

-- both operands are held by them
abbrev pub left_want : ExistsOn → Want
left_want e = in_parts 0 (left_numbers e)

abbrev pub right_want : ExistsOn → Want
right_want e = in_parts 1 (right_numbers e)

-- ---- parts

-- the part of a key: its values with these numbers
abbrev pub key_part : List ℕ → List Value → List Value
key_part numbers key = map (λ n. unwrap_or (slice_get key n) Null) numbers

abbrev pub is_in : List ℕ → List Value → List Value → Bool
is_in numbers part key = eq_by_cmp key_cmp (key_part numbers key) part

-- changes by their keys
abbrev pub Entries : Type 0
Entries = List (List Value × Pair (List Value))

-- the changes in a part
abbrev pub changes_in : List ℕ → Entries → List Value → List (Pair (List Value))
changes_in numbers es part = map (λ c. c.1) (filter (λ c. is_in numbers part c.0) es)

-- how many points come into a part, and how many go
abbrev pub shift_in : List ℕ → Entries → List Value → Shift
shift_in numbers es part = record { come = count_by is_gain (changes_in numbers es part); gone = count_by is_loss (changes_in numbers es part) }

abbrev pub no_shift : Shift
no_shift = record { come = 0; gone = 0 }

-- what is kept of a part
abbrev pub shift_at : BTreeMap (List Value) Shift → List Value → Shift
shift_at shifts part = unwrap_or (get key_cmp shifts part) no_shift

-- What is kept of each part is what the changes make of it. There are parts of changes alone: whatever each part weighs,
-- all together weigh no more than the parts of all changes.
pub record AreShifts (numbers : List ℕ) (es : Entries) (shifts : BTreeMap (List Value) Shift) : Type 0 where
  pub kept : (part : List Value) → shift_at shifts part ≡ shift_in numbers es part
  pub few : (weight : List Value → ℕ) → sum_by (λ s. weight s.0) shifts.entries ≤ sum_by (λ c. weight (key_part numbers c.0)) es

-- ---- points in a part

-- a data set that is held so has a point in the part
abbrev pub has_part : Want → DataSet → List Value → Bool
has_part w b part = nat_lt 0 (length (part_of w part b))

-- and has one after so many points come and go
abbrev pub has_part_after : Want → DataSet → List Value → Shift → Bool
has_part_after w b part shift = nat_lt shift.gone (length (part_of w part b) + shift.come)
