use Rattle.tree_copies.specs.Made.{item_made}
use Rattle.tree_copies.proofs.Rounds.{map_next}
use Rattle.tree_copies.proofs.maker.Maker.calculated.Goals as goal

pub loop-next-preserved : goal.loop-next-preserved
loop-next-preserved g c =
    map_next (item_made (g.W.Naming.name c.args.self.now.by.now) (g.W.Naming.call c.args.self.now.by.now)) c.args.items.now c.loop-next.next-index c.loop-next.answer c.push.new.self c.in_ok-item.field-0 c.next-item.result
    c.loop-next-test.true c.loop-next.invariant c.next-item.is c.in_ok-item.ensures (c.in_ok-push.ensures {u = tt}).ok
