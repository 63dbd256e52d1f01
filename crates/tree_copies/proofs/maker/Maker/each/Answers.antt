use Rattle.tree_copies.specs.Made.{made}
use Rattle.tree_copies.proofs.Rounds.{map_next}
use Rattle.tree_copies.proofs.maker.Maker.each.Goals as goal

pub loop-tree-preserved : goal.loop-tree-preserved
loop-tree-preserved g c =
    map_next (made (g.W.Naming.name c.args.self.now.by.now) (g.W.Naming.call c.args.self.now.by.now)) c.args.trees.now c.loop-tree.tree-index c.loop-tree.answer c.push.new.self c.in_ok-part.field-0 c.tree-item.result
    c.loop-tree-test.true c.loop-tree.invariant c.tree-item.is c.in_ok-part.ensures (c.in_ok-push.ensures {u = tt}).ok
