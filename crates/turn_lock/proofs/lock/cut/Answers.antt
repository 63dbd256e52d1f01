use Rattle.std.proofs.Common.{arith, ◌<◌, subst}
use Rattle.turn_lock.proofs.Splitting.{split_keeps}
use Rattle.turn_lock.proofs.lock.cut.Goals as goal

pub split_seat-requires : goal.split_seat-requires
split_seat-requires g c =
    let s = g.S.Growing in
    let seat = c.args.seat.now in (
      c.requires.fits.0,
      rw c.requires.fits.1 (omega arith),
      split_keeps s.journal s.caller s.ground _ seat.id g.N.Share.share seat.me.0 c.requires.live c.requires.idle (subst (λ n. n < seat.me.0.left) c.requires.share c.requires.enough),
    )
