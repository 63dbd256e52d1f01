use Rattle.std.proofs.Common.{List, length}
use Rattle.std.specs.List.{All}
use Rattle.point_sets.specs.DataSets.{DataSet}
use Rattle.revision_judge.specs.declared.ruling.Share.{Share}
use Rattle.revision_judge.specs.Shares.{AreShares}
use Rattle.round_core.specs.declared.inputs.Next.{Next}
use Rattle.round_core.specs.Inputs.{InputsKept, HasInput}
use Rattle.round_core.proofs.NextLemmas.{AreSoFar}
use Rattle.round_core.proofs.inputs.Inputs.nexts.Given as goal

abbrev pub invariant-loop-share : goal.invariant-loop-share
invariant-loop-share l = record {
  numbers : All (λ (next : Next). HasInput l.self next.set) l.nexts.items;
  coming : All (λ (share : Share). HasInput l.self share.set) l.left;
  made : (bases tos nows afters : List DataSet) → InputsKept bases tos nows l.self → AreShares nows afters l.fn.shares → AreSoFar tos nows afters l.left l.nexts.items;
}

abbrev pub decreases-loop-share : goal.decreases-loop-share
decreases-loop-share l = length l.left
