use Rattle.std.proofs.Common.{◌≡◌, map, take}
use Rattle.tree_copies.specs.Made.{item_made}
use Rattle.tree_copies.proofs.maker.Maker.calculated.Given as goal

abbrev pub invariant-loop-next : goal.invariant-loop-next
invariant-loop-next g l = l.answer ≡ map (item_made (g.W.Naming.name l.self.by.now) (g.W.Naming.call l.self.by.now)) (take l.next-index l.items)
