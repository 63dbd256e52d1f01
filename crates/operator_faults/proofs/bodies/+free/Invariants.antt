use Rattle.std.proofs.Common.{◌≡◌, drop, find}
use Rattle.std.specs.List.{flat_map}
use Rattle.operator_faults.specs.Bodies.{is_free, data_names}
use Rattle.operator_faults.proofs.bodies.+free.Given as goal

abbrev pub invariant-first_free-loop-outline : goal.invariant-first_free-loop-outline
invariant-first_free-loop-outline l = find (is_free l.params) (flat_map data_names l.outlines) ≡ find (is_free l.params) (flat_map data_names (drop l.outline-index l.outlines))
