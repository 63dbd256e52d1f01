use Rattle.std.proofs.Common.{◌≡◌, ◌+◌, ◌*◌, map, drop}
use Rattle.std.specs.Prelude.{max}
use denote.Param.Weighed.{most}
use Rattle.vtl_syntax.specs.declared.expr.Expr.{size-Expr}
use Rattle.vtl_syntax.specs.declared.expr.JoinOperand.{size-JoinOperand}
use Rattle.vtl_syntax.specs.declared.expr.SubstrRange.{size-SubstrRange}
use Rattle.ruleset_faults.specs.Expressions.{all_seen, look, operand_look}
use Rattle.ruleset_faults.proofs.Sizes.{if_some}
use Rattle.ruleset_faults.proofs.expressions.+walk.Given as goal

abbrev pub invariant-see_each-loop-tree : goal.invariant-see_each-loop-tree
invariant-see_each-loop-tree l = all_seen (map look l.trees) l.names ≡ all_seen (map look (drop l.tree-index l.trees)) l.names

abbrev pub invariant-see_operands-loop-operand : goal.invariant-see_operands-loop-operand
invariant-see_operands-loop-operand l = all_seen (map operand_look l.operands) l.names ≡ all_seen (map operand_look (drop l.operand-index l.operands)) l.names

abbrev pub decreases-see : goal.decreases-see
decreases-see l = 8 * size-Expr l.tree.now

abbrev pub decreases-see_two : goal.decreases-see_two
decreases-see_two l = 8 * (max (size-Expr l.first.now) (size-Expr l.second.now)) + 1

abbrev pub decreases-see_three : goal.decreases-see_three
decreases-see_three l = 8 * (max (size-Expr l.first.now) (max (size-Expr l.second.now) (size-Expr l.third.now))) + 2

abbrev pub decreases-see_each : goal.decreases-see_each
decreases-see_each l = 8 * (most size-Expr l.trees.now) + 1

abbrev pub decreases-see_sets : goal.decreases-see_sets
decreases-see_sets l = 8 * (max (max (size-Expr l.first.now) (size-Expr l.second.now)) (most size-Expr l.others.now)) + 2

abbrev pub decreases-see_optional : goal.decreases-see_optional
decreases-see_optional l = 8 * (if_some size-Expr l.tree.now) + 1

abbrev pub decreases-see_with_optional : goal.decreases-see_with_optional
decreases-see_with_optional l = 8 * (max (size-Expr l.tree.now) (if_some size-Expr l.other.now)) + 2

abbrev pub decreases-see_replace : goal.decreases-see_replace
decreases-see_replace l = 8 * (max (size-Expr l.operand.now) (max (size-Expr l.pattern.now) (if_some size-Expr l.by.now))) + 3

abbrev pub decreases-see_range : goal.decreases-see_range
decreases-see_range l = 8 * (if_some size-SubstrRange l.range.now) + 1

abbrev pub decreases-see_substr : goal.decreases-see_substr
decreases-see_substr l = 8 * (max (size-Expr l.operand.now) (if_some size-SubstrRange l.range.now)) + 2

abbrev pub decreases-see_operand : goal.decreases-see_operand
decreases-see_operand l = 8 * (size-JoinOperand l.operand.now)

abbrev pub decreases-see_operands : goal.decreases-see_operands
decreases-see_operands l = 8 * (most size-JoinOperand l.operands.now) + 1

abbrev pub decreases-see_join : goal.decreases-see_join
decreases-see_join l = 8 * (max (max (size-JoinOperand l.first.now) (size-JoinOperand l.second.now)) (most size-JoinOperand l.others.now)) + 2

abbrev pub decreases-see_in : goal.decreases-see_in
decreases-see_in l = 8 * size-Expr l.tree.now + 1

abbrev pub decreases-see_round : goal.decreases-see_round
decreases-see_round l = 8 * size-Expr l.tree.now + 1

abbrev pub decreases-see_matches : goal.decreases-see_matches
decreases-see_matches l = 8 * size-Expr l.tree.now + 1

abbrev pub decreases-see_member : goal.decreases-see_member
decreases-see_member l = 8 * size-Expr l.tree.now + 1
