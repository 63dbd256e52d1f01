use Rattle.std.proofs.Common.{◌≡◌, false}
use Rattle.turn_lock.specs.Pass.{Fits}
use Rattle.turn_lock.proofs.tests.rounds.Given as goal

abbrev pub invariant-loop : goal.invariant-loop
invariant-loop g l = Fits l.lock l.pass × (l.pass.knows.holds ≡ false)
