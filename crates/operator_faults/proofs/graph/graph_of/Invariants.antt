use Rattle.std.proofs.Common.{◌≡◌, take}
use Rattle.operator_faults.specs.Recursions.{graph_of}
use Rattle.operator_faults.proofs.graph.graph_of.Given as goal

abbrev pub invariant-loop-body : goal.invariant-loop-body
invariant-loop-body l = l.graph ≡ graph_of l.operators (take l.body-index l.bodies)
