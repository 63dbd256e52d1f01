use Rattle.std.proofs.Common.{arith}
use Rattle.turn_lock.proofs.Asks.{table_fits_after, give_asks}
use Rattle.turn_lock.proofs.lock.TurnLock.put.Goals as goal

pub store-requires : goal.store-requires
store-requires g c =
    let s = g.S.Growing in
    let e = c.exchange.ensures in (
      table_fits_after c.args.self.now c.args.pass.now _ _ _ _ c.exchange.new.seat.table_id e.0 c.pass.view_is c.self.view_is c.requires.fits,
      rw c.self.invariant.0 (omega arith),
      give_asks s.journal s.caller s.ground c.args.self.now c.args.pass.now _ c.pass.inside.seat.me _ _ _ c.pass.view_is c.pass.invariant c.requires.fits _ _ _ c.entries-entries.result c.exchange.new.seat.me c.args.value c.self.invariant.1 e.3 c.entries-entries.ensures c.requires.turn c.requires.ground
          c.requires.journal c.requires.room,
    )
