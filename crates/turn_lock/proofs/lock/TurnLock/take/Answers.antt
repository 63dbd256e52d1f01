use Rattle.std.proofs.Common.{refl, arith}
use Rattle.turn_lock.proofs.lock.TurnLock.take.Goals as goal

pub loop-init : goal.loop-init
loop-init g c = record {
  can_next = tt;
  finite = tt;
  fits = c.requires.fits;
  idle = c.requires.idle;
  waited = (c.args.pass.now.knows.looks, c.args.pass.now.knows.word, omega arith, refl);
}
