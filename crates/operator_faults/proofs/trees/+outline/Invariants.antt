use Rattle.std.proofs.Common.{◌≡◌, ◌++◌, map, take}
use Rattle.operator_faults.specs.Outlines.{outlined, item_outlined, operand_outlined}
use Rattle.operator_faults.proofs.trees.+outline.Given as goal

abbrev pub invariant-each-loop-tree : goal.invariant-each-loop-tree
invariant-each-loop-tree l = l.out ≡ l.initial.out ++ map outlined (take l.tree-index l.trees)

abbrev pub invariant-put_items-loop-item : goal.invariant-put_items-loop-item
invariant-put_items-loop-item l = l.out ≡ l.initial.out ++ map item_outlined (take l.item-index l.items)

abbrev pub invariant-put_operands-loop-operand : goal.invariant-put_operands-loop-operand
invariant-put_operands-loop-operand l = l.out ≡ l.initial.out ++ map operand_outlined (take l.operand-index l.operands)
