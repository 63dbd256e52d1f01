use Rattle.std.proofs.Common.{List, length}
use Rattle.point_sets.specs.DataSets.{DataSet}
use Rattle.revision_judge.specs.Judging.{Standing}
use Rattle.revision_judge.specs.Standings.{AreTallies}
use Rattle.revision_judge.proofs.Finished.{AreFinished}
use Rattle.revision_judge.proofs.tallies.Tallies.finish.Given as goal

abbrev pub invariant-loop-number : goal.invariant-loop-number
invariant-loop-number l = (inputs : List DataSet) (s : Standing) → AreTallies inputs l.fn.self s → AreFinished inputs s l.shares.items l.tallies

abbrev pub decreases-loop-number : goal.decreases-loop-number
decreases-loop-number l = length l.tallies.entries
