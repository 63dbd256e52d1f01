use Rattle.std.proofs.Common.{◌≡◌, ◌+◌, ◌*◌, drop, map}
use Rattle.std.specs.Prelude.{max}
use denote.Param.Weighed.{most}
use Rattle.vtl_syntax.specs.declared.expr.Expr.{size-Expr}
use Rattle.vtl_syntax.specs.declared.expr.Clause.{size-Clause}
use Rattle.vtl_syntax.specs.declared.expr.Groups.{size-Groups}
use Rattle.vtl_syntax.specs.declared.expr.Item.{size-Item}
use Rattle.vtl_syntax.specs.declared.expr.JoinOperand.{size-JoinOperand}
use Rattle.vtl_syntax.specs.declared.expr.SubstrRange.{size-SubstrRange}
use Rattle.operator_faults.specs.Outlines.{outlined, item_outlined, operand_outlined}
use Rattle.written_sizes.specs.Rooms.{room_after_all}
use Rattle.written_sizes.proofs.Depths.{if_some}
use Rattle.written_sizes.proofs.rooms.+room.Given as goal

abbrev pub decreases-after_expr : goal.decreases-after_expr
decreases-after_expr l = 8 * size-Expr l.tree.now + 2

abbrev pub decreases-after_parts : goal.decreases-after_parts
decreases-after_parts l = 8 * size-Expr l.tree.now + 1

abbrev pub decreases-after_join : goal.decreases-after_join
decreases-after_join l = 8 * size-Expr l.tree.now

abbrev pub decreases-after_two : goal.decreases-after_two
decreases-after_two l = 8 * max (size-Expr l.first.now) (size-Expr l.second.now) + 3

abbrev pub decreases-after_three : goal.decreases-after_three
decreases-after_three l = 8 * max (max (size-Expr l.first.now) (size-Expr l.second.now)) (size-Expr l.third.now) + 4

abbrev pub decreases-after_each : goal.decreases-after_each
decreases-after_each l = 8 * most size-Expr l.trees.now + 3

abbrev pub decreases-after_optional : goal.decreases-after_optional
decreases-after_optional l = 8 * if_some size-Expr l.tree.now + 3

abbrev pub decreases-after_with_optional : goal.decreases-after_with_optional
decreases-after_with_optional l = 8 * max (size-Expr l.tree.now) (if_some size-Expr l.other.now) + 4

abbrev pub decreases-after_replace : goal.decreases-after_replace
decreases-after_replace l = 8 * max (max (size-Expr l.operand.now) (size-Expr l.pattern.now)) (if_some size-Expr l.by.now) + 4

abbrev pub decreases-after_sets : goal.decreases-after_sets
decreases-after_sets l = 8 * max (max (size-Expr l.first.now) (size-Expr l.second.now)) (most size-Expr l.others.now) + 4

abbrev pub decreases-after_substr : goal.decreases-after_substr
decreases-after_substr l = 8 * max (size-Expr l.operand.now) (if_some size-SubstrRange l.range.now) + 3

abbrev pub decreases-after_aggregate : goal.decreases-after_aggregate
decreases-after_aggregate l = 8 * max (size-Expr l.operand.now) (if_some size-Groups l.groups.now) + 4

abbrev pub decreases-after_groups : goal.decreases-after_groups
decreases-after_groups l = 8 * if_some size-Groups l.groups.now + 3

abbrev pub decreases-after_having : goal.decreases-after_having
decreases-after_having l = 8 * if_some size-Expr l.having.now + 4

abbrev pub decreases-after_operand_clause : goal.decreases-after_operand_clause
decreases-after_operand_clause l = 8 * max (size-Expr l.operand.now) (size-Clause l.clause.now) + 3

abbrev pub decreases-after_clause : goal.decreases-after_clause
decreases-after_clause l = 8 * size-Clause l.clause.now

abbrev pub decreases-after_items : goal.decreases-after_items
decreases-after_items l = 8 * most size-Item l.items.now + 3

abbrev pub decreases-after_item : goal.decreases-after_item
decreases-after_item l = 8 * size-Item l.item.now

abbrev pub decreases-after_operands : goal.decreases-after_operands
decreases-after_operands l = 8 * most size-JoinOperand l.operands.now + 1

abbrev pub decreases-after_operand : goal.decreases-after_operand
decreases-after_operand l = 8 * size-JoinOperand l.operand.now

abbrev pub decreases-after_joined : goal.decreases-after_joined
decreases-after_joined l = 8 * if_some size-Clause l.clause.now + 1

abbrev pub invariant-after_each-loop-tree : goal.invariant-after_each-loop-tree
invariant-after_each-loop-tree l = room_after_all l.most l.initial.left (map outlined l.trees) ≡ room_after_all l.most l.left (map outlined (drop l.tree-index l.trees))

abbrev pub invariant-after_items-loop-item : goal.invariant-after_items-loop-item
invariant-after_items-loop-item l = room_after_all l.most l.initial.left (map item_outlined l.items) ≡ room_after_all l.most l.left (map item_outlined (drop l.item-index l.items))

abbrev pub invariant-after_operands-loop-operand : goal.invariant-after_operands-loop-operand
invariant-after_operands-loop-operand l = room_after_all l.most l.initial.left (map operand_outlined l.operands) ≡ room_after_all l.most l.left (map operand_outlined (drop l.operand-index l.operands))
