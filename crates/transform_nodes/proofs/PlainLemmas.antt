-- Trees as plain data, variant by variant.
use Rattle.std.proofs.Common.{◌≡◌, ℕ, sym, ◌∙◌, ap}
use Rattle.transform_nodes.specs.Trees.{Plain, Source, plain, plain_tree, plain_step, plain_tree_step}
use Rattle.transform_nodes.specs.declared.node.Child.{fold-roll-Child}
use Rattle.transform_nodes.specs.declared.node.Child.TheOpen.{Child-F}
use Rattle.transform_nodes.specs.declared.node.Child.TheVariants.{Name, Tree, rolls-Name, rolls-Tree}
use Rattle.transform_nodes.specs.declared.node.OpTree.{OpTree, fold_out-OpTree}

pub plain-Name : (n : ℕ) → plain (Name n) ≡ Source n
plain-Name n = ap plain (sym (rolls-Name n)) ∙ fold-roll-Child Plain Plain plain_step plain_tree_step (Child-F.Name n)

pub plain-Tree : (t : OpTree) → plain (Tree t) ≡ plain_tree t
plain-Tree t = ap plain (sym (rolls-Tree t)) ∙ fold-roll-Child Plain Plain plain_step plain_tree_step (Child-F.Tree t) ∙ fold_out-OpTree Plain Plain plain_step plain_tree_step t
