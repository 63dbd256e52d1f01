use Rattle.std.proofs.Common.{arith}
use Rattle.turn_lock.proofs.Asks.{table_fits, table_fits_after, look_asks, slot_got}
use Rattle.turn_lock.proofs.lock.TurnLock.try_take.Goals as goal

pub fetch_or-found-requires : goal.fetch_or-found-requires
fetch_or-found-requires g c =
    let s = g.S.Growing in (
      table_fits c.args.self.now c.args.pass.now _ _ _ _ c.pass.view_is c.self.view_is c.requires.fits,
      rw c.self.invariant.0 (omega arith),
      look_asks s.journal s.caller s.ground c.args.self.now c.args.pass.now _ c.pass.inside.seat.me _ _ _ c.pass.view_is c.pass.invariant c.requires.fits _ _ _ c.self.invariant.1 c.requires.idle,
    )

pub exchange-requires : goal.exchange-requires
exchange-requires g c =
    let s = g.S.Growing in
    let told = c.fetch_or-found.ensures in (
      table_fits_after c.args.self.now c.args.pass.now _ _ _ _ c.fetch_or-found.new.seat.table_id told.0 c.pass.view_is c.self.view_is c.requires.fits,
      slot_got s.journal s.caller s.ground _ _ _ c.if-found-ne0.false told.2,
    )
