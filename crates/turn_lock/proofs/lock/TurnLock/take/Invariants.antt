use Rattle.std.proofs.Common.{◌≡◌, false}
use Rattle.turn_lock.specs.Pass.{Fits}
use Rattle.turn_lock.specs.Steps.{Waits}
use Rattle.turn_lock.proofs.lock.TurnLock.take.Given as goal

abbrev pub invariant-loop : goal.invariant-loop
invariant-loop g l = record {
  can_next : (goal.iterator-loop g).can_next l.iterator';
  finite : (goal.iterator-loop g).is_finite l.iterator';
  fits : Fits l.self l.pass;
  idle : l.pass.knows.holds ≡ false;
  waited : Waits l.fn.pass.knows l.pass.knows;
}
