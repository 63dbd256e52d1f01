use Rattle.std.proofs.Common.{◌≡◌, ◌+◌, ◌*◌, true, take}
use Rattle.std.specs.Prelude.{max}
use Rattle.std.specs.List.{list_all}
use denote.Param.Weighed.{most}
use Rattle.vtl_syntax.specs.declared.expr.Expr.{size-Expr}
use Rattle.vtl_syntax.specs.declared.expr.Clause.{size-Clause}
use Rattle.vtl_syntax.specs.declared.expr.Groups.{size-Groups}
use Rattle.vtl_syntax.specs.declared.expr.Item.{size-Item}
use Rattle.vtl_syntax.specs.declared.expr.JoinOperand.{size-JoinOperand}
use Rattle.vtl_syntax.specs.declared.expr.SubstrRange.{size-SubstrRange}
use Rattle.literal_ranges.specs.Ranges.{literals_in_range, item_in_range, operand_in_range}
use Rattle.literal_ranges.proofs.Levels.{if_some}
use Rattle.literal_ranges.proofs.literals.+walk.Given as goal

abbrev pub invariant-see_each-loop-tree : goal.invariant-see_each-loop-tree
invariant-see_each-loop-tree l = list_all literals_in_range (take l.tree-index l.trees) ≡ true

abbrev pub invariant-see_items-loop-item : goal.invariant-see_items-loop-item
invariant-see_items-loop-item l = list_all item_in_range (take l.item-index l.items) ≡ true

abbrev pub decreases-see_literals : goal.decreases-see_literals
decreases-see_literals l = 8 * size-Expr l.tree.now

abbrev pub decreases-see_both : goal.decreases-see_both
decreases-see_both l = 8 * max (size-Expr l.first.now) (size-Expr l.second.now) + 1

abbrev pub decreases-see_three : goal.decreases-see_three
decreases-see_three l = 8 * max (size-Expr l.first.now) (max (size-Expr l.second.now) (size-Expr l.third.now)) + 2

abbrev pub decreases-see_with_set : goal.decreases-see_with_set
decreases-see_with_set l = 8 * size-Expr l.tree.now + 1

abbrev pub decreases-see_between : goal.decreases-see_between
decreases-see_between l = 8 * size-Expr l.tree.now + 1

abbrev pub decreases-see_each : goal.decreases-see_each
decreases-see_each l = 8 * most size-Expr l.trees.now + 1

abbrev pub decreases-see_sets : goal.decreases-see_sets
decreases-see_sets l = 8 * max (max (size-Expr l.first.now) (size-Expr l.second.now)) (most size-Expr l.others.now) + 2

abbrev pub decreases-see_optional : goal.decreases-see_optional
decreases-see_optional l = 8 * if_some size-Expr l.tree.now + 1

abbrev pub decreases-see_with_optional : goal.decreases-see_with_optional
decreases-see_with_optional l = 8 * max (size-Expr l.tree.now) (if_some size-Expr l.other.now) + 2

abbrev pub decreases-see_replace : goal.decreases-see_replace
decreases-see_replace l = 8 * max (size-Expr l.operand.now) (max (size-Expr l.pattern.now) (if_some size-Expr l.by.now)) + 3

abbrev pub decreases-see_range : goal.decreases-see_range
decreases-see_range l = 8 * if_some size-SubstrRange l.range.now + 1

abbrev pub decreases-see_with_range : goal.decreases-see_with_range
decreases-see_with_range l = 8 * max (size-Expr l.tree.now) (if_some size-SubstrRange l.range.now) + 2

abbrev pub decreases-see_groups : goal.decreases-see_groups
decreases-see_groups l = 8 * if_some size-Groups l.groups.now

abbrev pub decreases-see_with_groups : goal.decreases-see_with_groups
decreases-see_with_groups l = 8 * max (size-Expr l.tree.now) (if_some size-Groups l.groups.now) + 1

abbrev pub decreases-see_items_with_groups : goal.decreases-see_items_with_groups
decreases-see_items_with_groups l = 8 * max (most size-Item l.items.now) (if_some size-Groups l.groups.now) + 2

abbrev pub decreases-see_clause : goal.decreases-see_clause
decreases-see_clause l = 8 * size-Clause l.clause.now

abbrev pub decreases-see_with_clause : goal.decreases-see_with_clause
decreases-see_with_clause l = 8 * max (size-Expr l.tree.now) (size-Clause l.clause.now) + 1

abbrev pub decreases-see_item : goal.decreases-see_item
decreases-see_item l = 8 * size-Item l.item.now

abbrev pub decreases-see_items : goal.decreases-see_items
decreases-see_items l = 8 * most size-Item l.items.now + 1

abbrev pub invariant-see_each_operand-loop-operand : goal.invariant-see_each_operand-loop-operand
invariant-see_each_operand-loop-operand l = list_all operand_in_range (take l.operand-index l.operands) ≡ true

abbrev pub decreases-see_if_given : goal.decreases-see_if_given
decreases-see_if_given l = 8 * if_some size-Clause l.clause.now + 1

abbrev pub decreases-see_clauses : goal.decreases-see_clauses
decreases-see_clauses l = 8 * max (max (if_some size-Clause l.filter.now) (if_some size-Clause l.calc.now)) (max (if_some size-Clause l.keep.now) (if_some size-Clause l.rename.now)) + 2

abbrev pub decreases-see_operand : goal.decreases-see_operand
decreases-see_operand l = 8 * size-JoinOperand l.operand.now

abbrev pub decreases-see_each_operand : goal.decreases-see_each_operand
decreases-see_each_operand l = 8 * most size-JoinOperand l.operands.now + 1

abbrev pub decreases-see_operands : goal.decreases-see_operands
decreases-see_operands l = 8 * max (max (size-JoinOperand l.first.now) (size-JoinOperand l.second.now)) (most size-JoinOperand l.others.now) + 2
