use Rattle.revision_judge.proofs.StandingLemmas.{AreSoFar}
use Rattle.revision_judge.proofs.tallies.Tallies.take_parts.Given as goal

abbrev pub invariant-loop-n : goal.invariant-loop-n
invariant-loop-n l = AreSoFar l.structures l.inputs l.parts l.n l.self
