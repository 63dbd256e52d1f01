use Rattle.turn_lock.proofs.Asks.{new_asks}
use Rattle.turn_lock.proofs.lock.TurnLock.new.Goals as goal

pub new-requires : goal.new-requires
new-requires g c =
    let s = g.S.Growing in
    new_asks s.journal s.caller s.ground c.args.value c.of-about.result.value c.entries-entries.result c.new-slots.result.items c.push.new.self.items c.of-about.ensures c.entries-entries.ensures c.new-slots.ensures.items c.in_ok-push.ensures.items c.requires.first c.requires.room
