use Rattle.std.proofs.Common.{ap, refl, arith}
use Rattle.turn_lock.proofs.Asks.{table_fits, table_fits_after, join_asks}
use Rattle.turn_lock.proofs.Joining.{compare_allows_as}
use Rattle.turn_lock.proofs.lock.TurnLock.join_pass.Goals as goal

pub join_seat-requires : goal.join_seat-requires
join_seat-requires g c =
    let s = g.S.Growing in
    let e = c.into_seat-seat.ensures in (
      table_fits c.args.self.now c.args.into.now _ _ _ _ c.into.view_is c.self.view_is c.requires.fits,
      table_fits_after c.args.self.now c.args.from _ _ _ _ c.into_seat-seat.result.table_id e.0 refl c.self.view_is c.requires.from_fits,
      ap (λ m. m.1) e.1,
      rw c.self.invariant.0 (omega arith),
      join_asks s.journal s.caller s.ground c.args.self.now c.args.into.now _ c.into.inside.seat.me _ _ _ c.into.view_is c.into.invariant c.requires.fits _ _ _ _ _ c.requires.idle e.1 c.requires.from_fits c.requires.from_idle,
    )

pub load-requires : goal.load-requires
load-requires g c =
    let s = g.S.Growing in (
      table_fits_after c.args.self.now c.args.into.now _ _ _ _ c.join_seat.new.seat.table_id c.join_seat.ensures.0 c.into.view_is c.self.view_is c.requires.fits,
      rw c.self.invariant.0 (omega arith),
      compare_allows_as s.journal s.caller s.ground _ _ _ _ c.self.invariant.1,
    )
