use Rattle.std.proofs.Common.{◌≡◌, ◌++◌, map, drop}
use Rattle.std.specs.List.{All}
use Rattle.vtl_values.specs.Order.{key_cmp}
use Rattle.point_sets.specs.Changes.{change_entry, joined, values_eq, IsChange, AreChanges}
use Rattle.point_sets.proofs.Edited.{edited}
use Rattle.point_sets.proofs.delta.composed_changes.Given as goal

abbrev pub invariant-loop-change : goal.invariant-loop-change
invariant-loop-change l = record {
  edited : map change_entry l.all.items ++ edited key_cmp (joined values_eq) (map change_entry (drop l.change-index l.first)) (map change_entry l.rest) ≡ edited key_cmp (joined values_eq) (map change_entry l.first) (map change_entry l.then);
  all : All IsChange l.all.items;
  rest : AreChanges l.rest;
}
