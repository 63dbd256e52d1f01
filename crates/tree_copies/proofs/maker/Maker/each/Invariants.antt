use Rattle.std.proofs.Common.{◌≡◌, map, take}
use Rattle.tree_copies.specs.Made.{made}
use Rattle.tree_copies.proofs.maker.Maker.each.Given as goal

abbrev pub invariant-loop-tree : goal.invariant-loop-tree
invariant-loop-tree g l = l.answer ≡ map (made (g.W.Naming.name l.self.by.now) (g.W.Naming.call l.self.by.now)) (take l.tree-index l.trees)
