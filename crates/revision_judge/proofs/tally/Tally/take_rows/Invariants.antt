use Rattle.revision_judge.specs.Rows.{Progress, in_new_part}
use Rattle.revision_judge.specs.Tallies.{IsTally}
use Rattle.revision_judge.proofs.RowLemmas.{IsSoFar}
use Rattle.revision_judge.proofs.tally.Tally.take_rows.Given as goal

abbrev pub invariant-loop-n : goal.invariant-loop-n
invariant-loop-n l = (p : Progress) → IsTally l.set l.fn.self p → IsSoFar l.components l.set l.part (in_new_part p) l.rows l.n l.self
