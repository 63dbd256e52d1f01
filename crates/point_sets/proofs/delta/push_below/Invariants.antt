use Rattle.std.proofs.Common.{length}
use Rattle.std.specs.List.{All}
use Rattle.vtl_values.specs.Order.{key_cmp}
use Rattle.point_sets.specs.Changes.{change_entry, IsChange}
use Rattle.point_sets.proofs.Passes.{Passes}
use Rattle.point_sets.proofs.delta.push_below.Given as goal

abbrev pub invariant-loop-change : goal.invariant-loop-change
invariant-loop-change l = record {
  passes : Passes key_cmp change_entry l.key l.fn.all.items l.changes l.all.items l.rest;
  all : All IsChange l.all.items;
  rest : All IsChange l.rest;
}

abbrev pub decreases-loop-change : goal.decreases-loop-change
decreases-loop-change l = length l.rest
