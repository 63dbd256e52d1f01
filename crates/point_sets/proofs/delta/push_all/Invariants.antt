use Rattle.std.proofs.Common.{◌≡◌, ◌++◌, map, take}
use Rattle.std.specs.List.{All}
use Rattle.point_sets.specs.Changes.{change_entry, IsChange}
use Rattle.point_sets.proofs.delta.push_all.Given as goal

abbrev pub invariant-loop-change : goal.invariant-loop-change
invariant-loop-change l = record {
  pushed : map change_entry l.all.items ≡ map change_entry l.fn.all.items ++ map change_entry (take l.change-index l.changes);
  all : All IsChange l.all.items;
}
