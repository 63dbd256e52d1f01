use Rattle.std.proofs.Common.{◌≡◌, length, map}
use Rattle.std.specs.Arc.{arc_value}
use Rattle.std.specs.List.{All}
use Rattle.transform_nodes.proofs.finish.copies.Given as goal

abbrev pub invariant-loop-use : goal.invariant-loop-use
invariant-loop-use l = record {
  count : length l.deltas.items ≡ l._use;
  each : All (λ d. d ≡ arc_value l.delta) (map arc_value l.deltas.items);
}
