use Rattle.std.proofs.Common.{◌+◌, ◌*◌, Ok, true, take}
use Rattle.std.specs.Prelude.{max}
use denote.Param.Weighed.{most}
use Rattle.vtl_syntax.specs.declared.expr.Expr.{size-Expr}
use Rattle.vtl_syntax.specs.declared.expr.Clause.{size-Clause}
use Rattle.vtl_syntax.specs.declared.expr.Groups.{size-Groups}
use Rattle.vtl_syntax.specs.declared.expr.Item.{size-Item}
use Rattle.vtl_syntax.specs.declared.expr.JoinOperand.{size-JoinOperand}
use Rattle.vtl_syntax.specs.declared.expr.SubstrRange.{size-SubstrRange}
use Rattle.script_graph.specs.Mentions.{mentions, item_mentions, operand_mentions, each}
use Rattle.script_graph.proofs.Measures.{if_some}
use Rattle.script_graph.specs.Scopes.{PutsUses}
use Rattle.script_graph.specs.ScopeViews.{names_in}
use Rattle.script_graph.proofs.scope.Scope.+walk.Given as goal

abbrev pub invariant-put_each-loop-tree : goal.invariant-put_each-loop-tree
invariant-put_each-loop-tree l = PutsUses (names_in l.self) (each mentions (take l.tree-index l.trees) l.inside) l.initial.uses l.uses (Ok tt)

abbrev pub invariant-put_items-loop-item : goal.invariant-put_items-loop-item
invariant-put_items-loop-item l = PutsUses (names_in l.self) (each item_mentions (take l.item-index l.items) true) l.initial.uses l.uses (Ok tt)

abbrev pub invariant-put_each_operand-loop-operand : goal.invariant-put_each_operand-loop-operand
invariant-put_each_operand-loop-operand l = PutsUses (names_in l.self) (each operand_mentions (take l.operand-index l.operands) l.inside) l.initial.uses l.uses (Ok tt)

abbrev pub decreases-put_expr : goal.decreases-put_expr
decreases-put_expr l = 8 * size-Expr l.tree.now

abbrev pub decreases-put_both : goal.decreases-put_both
decreases-put_both l = 8 * max (size-Expr l.first.now) (size-Expr l.second.now) + 1

abbrev pub decreases-put_three : goal.decreases-put_three
decreases-put_three l = 8 * max (max (size-Expr l.first.now) (size-Expr l.second.now)) (size-Expr l.third.now) + 2

abbrev pub decreases-put_each : goal.decreases-put_each
decreases-put_each l = 8 * most size-Expr l.trees.now + 1

abbrev pub decreases-put_optional : goal.decreases-put_optional
decreases-put_optional l = 8 * if_some size-Expr l.tree.now + 1

abbrev pub decreases-put_with_optional : goal.decreases-put_with_optional
decreases-put_with_optional l = 8 * max (size-Expr l.tree.now) (if_some size-Expr l.other.now) + 2

abbrev pub decreases-put_replace : goal.decreases-put_replace
decreases-put_replace l = 8 * max (max (size-Expr l.operand.now) (size-Expr l.pattern.now)) (if_some size-Expr l.by.now) + 2

abbrev pub decreases-put_sets : goal.decreases-put_sets
decreases-put_sets l = 8 * max (max (size-Expr l.first.now) (size-Expr l.second.now)) (most size-Expr l.others.now) + 2

abbrev pub decreases-put_with_range : goal.decreases-put_with_range
decreases-put_with_range l = 8 * max (size-Expr l.tree.now) (if_some size-SubstrRange l.range.now) + 2

abbrev pub decreases-put_range : goal.decreases-put_range
decreases-put_range l = 8 * if_some size-SubstrRange l.range.now + 1

abbrev pub decreases-put_with_ruleset : goal.decreases-put_with_ruleset
decreases-put_with_ruleset l = 8 * size-Expr l.tree.now + 1

abbrev pub decreases-put_groups : goal.decreases-put_groups
decreases-put_groups l = 8 * if_some size-Groups l.groups.now + 1

abbrev pub decreases-put_with_groups : goal.decreases-put_with_groups
decreases-put_with_groups l = 8 * max (size-Expr l.tree.now) (if_some size-Groups l.groups.now) + 2

abbrev pub decreases-put_with_clause : goal.decreases-put_with_clause
decreases-put_with_clause l = 8 * max (size-Expr l.tree.now) (size-Clause l.clause.now) + 1

abbrev pub decreases-put_clause : goal.decreases-put_clause
decreases-put_clause l = 8 * size-Clause l.clause.now

abbrev pub decreases-put_items : goal.decreases-put_items
decreases-put_items l = 8 * most size-Item l.items.now + 1

abbrev pub decreases-put_item : goal.decreases-put_item
decreases-put_item l = 8 * size-Item l.item.now

abbrev pub decreases-put_operand : goal.decreases-put_operand
decreases-put_operand l = 8 * size-JoinOperand l.operand.now

abbrev pub decreases-put_two_operands : goal.decreases-put_two_operands
decreases-put_two_operands l = 8 * max (size-JoinOperand l.first.now) (size-JoinOperand l.second.now) + 1

abbrev pub decreases-put_each_operand : goal.decreases-put_each_operand
decreases-put_each_operand l = 8 * most size-JoinOperand l.operands.now + 1

abbrev pub decreases-put_operands : goal.decreases-put_operands
decreases-put_operands l = 8 * max (max (size-JoinOperand l.first.now) (size-JoinOperand l.second.now)) (most size-JoinOperand l.others.now) + 2

abbrev pub decreases-put_optional_clause : goal.decreases-put_optional_clause
decreases-put_optional_clause l = 8 * if_some size-Clause l.clause.now + 1

abbrev pub decreases-put_clause_pair : goal.decreases-put_clause_pair
decreases-put_clause_pair l = 8 * max (if_some size-Clause l.first.now) (if_some size-Clause l.second.now) + 2

abbrev pub decreases-put_clauses : goal.decreases-put_clauses
decreases-put_clauses l = 8 * max (max (if_some size-Clause l.filter.now) (if_some size-Clause l.calc.now)) (max (if_some size-Clause l.keep.now) (if_some size-Clause l.rename.now)) + 3
