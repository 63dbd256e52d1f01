-- Changes that were noted, key by key.
use Rattle.std.specs.Prelude.{List, map}
use Rattle.std.specs.FinMap.{from_entries}
use Rattle.std.specs.List.{All}
use Rattle.vtl_values.specs.declared.value.Value.{Value}
use Rattle.data_model.specs.Deltas.{Pair}
use Rattle.point_sets.specs.Changes.{Changes, change_entry, IsChange}
use Rattle.point_sets.specs.declared.delta.Change.{Change}
use Rattle.point_sets.specs.declared.notes.Noted.{Noted}

-- the change that was noted at a key
abbrev pub change_of : List Value × Noted → Change
change_of e = record { key = e.0; old = e.1.old; new = e.1.new }

abbrev pub noted_entry : List Value × Noted → List Value × Pair (List Value)
noted_entry e = change_entry (change_of e)

-- the delta of what was noted
abbrev pub of_noted : List (List Value × Noted) → Changes
of_noted es = from_entries (map noted_entry es)

-- each that was noted is a change
abbrev pub AreNoted : List (List Value × Noted) → Type 0
AreNoted es = All (λ e. IsChange (change_of e)) es
