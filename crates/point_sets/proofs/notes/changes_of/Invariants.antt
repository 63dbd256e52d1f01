use Rattle.std.proofs.Common.{◌≡◌, ◌++◌, map, length}
use Rattle.std.specs.List.{All}
use Rattle.point_sets.specs.Changes.{change_entry, IsChange}
use Rattle.point_sets.specs.Noted.{noted_entry, AreNoted}
use Rattle.point_sets.proofs.notes.changes_of.Given as goal

abbrev pub invariant-loop-key : goal.invariant-loop-key
invariant-loop-key l = record {
  taken : map change_entry l.changes.items ++ map noted_entry l.noted.entries ≡ map noted_entry l.fn.noted.entries;
  each : All IsChange l.changes.items;
  rest : AreNoted l.noted.entries;
}

abbrev pub decreases-loop-key : goal.decreases-loop-key
decreases-loop-key l = length l.noted.entries
