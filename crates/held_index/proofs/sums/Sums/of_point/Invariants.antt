use Rattle.std.proofs.Common.{◌≡◌, ◌++◌, drop}
use Rattle.held_index.specs.Walks.{point_values}
use Rattle.held_index.specs.Sums.{own_sums, FitAll}
use Rattle.held_index.proofs.sums.Sums.of_point.Given as goal

abbrev pub invariant-loop-component : goal.invariant-loop-component
invariant-loop-component l = record {
  are : l.all.items ++ own_sums (drop l.component-index l.components) (point_values l.point) ≡ own_sums l.components (point_values l.point);
  fit : FitAll 1 l.all.items;
}
