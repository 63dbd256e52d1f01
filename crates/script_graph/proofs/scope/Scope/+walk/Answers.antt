use Rattle.std.proofs.Common.{◌≡◌, true, List, [], ◌∷◌, ◌++◌, Ok, Err}
use Rattle.vtl_syntax.specs.declared.expr.Expr.{Expr}
use Rattle.vtl_syntax.specs.declared.expr.Item.{Item}
use Rattle.vtl_syntax.specs.declared.expr.JoinOperand.{JoinOperand}
use Rattle.script_graph.specs.Mentions.{Mention, mention, optional, optional_inside, each, mentions, clause_mentions, groups_mentions, item_mentions, operand_mentions, range_mentions}
use Rattle.script_graph.specs.ScopeViews.{names_in}
use Rattle.script_graph.proofs.Answering.{puts_then, puts_fails, puts_same, puts_exit, items_then, items_fail}
use Rattle.script_graph.proofs.Trees.{four, mentions-Sets, mentions-CallOf, mentions-Join, clause-Calc, clause-Aggr}
use Rattle.script_graph.proofs.scope.Scope.+walk.Goals as goal

pub put_both-returns-in_err-put_expr : goal.put_both-returns-in_err-put_expr
put_both-returns-in_err-put_expr t c =
    let n = names_in c.args.self.now in
    let xs : List Mention = mentions c.args.first.now c.args.inside in
    let ys : List Mention = mentions c.args.second.now c.args.inside in
    let a = c.args.uses.now in
    let b = c.put_expr.new.uses in
    let e = c.in_err-put_expr.field-0.0 in
    puts_exit n (xs ++ ys) a b c.from_residual.result e c.from_residual.ensures.1 (puts_fails n xs ys a b b e c.in_err-put_expr.ensures)

pub put_both-returns : goal.put_both-returns
put_both-returns t c =
    let n = names_in c.args.self.now in
    let xs : List Mention = mentions c.args.first.now c.args.inside in
    let ys : List Mention = mentions c.args.second.now c.args.inside in
    puts_then n xs ys c.args.uses.now c.put_expr.new.uses c.put_expr-2.new.uses c.put_expr-2.result (c.in_ok-put_expr.ensures {u = tt}) c.put_expr-2.ensures

pub put_three-returns-in_err-put_both : goal.put_three-returns-in_err-put_both
put_three-returns-in_err-put_both t c =
    let n = names_in c.args.self.now in
    let xs : List Mention = ((mentions c.args.first.now c.args.inside) ++ (mentions c.args.second.now c.args.inside)) in
    let ys : List Mention = mentions c.args.third.now c.args.inside in
    let a = c.args.uses.now in
    let b = c.put_both.new.uses in
    let e = c.in_err-put_both.field-0.0 in
    puts_exit n (xs ++ ys) a b c.from_residual.result e c.from_residual.ensures.1 (puts_fails n xs ys a b b e c.in_err-put_both.ensures)

pub put_three-returns : goal.put_three-returns
put_three-returns t c =
    let n = names_in c.args.self.now in
    let xs : List Mention = ((mentions c.args.first.now c.args.inside) ++ (mentions c.args.second.now c.args.inside)) in
    let ys : List Mention = mentions c.args.third.now c.args.inside in
    puts_then n xs ys c.args.uses.now c.put_both.new.uses c.put_expr.new.uses c.put_expr.result (c.in_ok-put_both.ensures {u = tt}) c.put_expr.ensures

pub put_with_optional-returns-in_err-put_expr : goal.put_with_optional-returns-in_err-put_expr
put_with_optional-returns-in_err-put_expr t c =
    let n = names_in c.args.self.now in
    let xs : List Mention = mentions c.args.tree.now c.args.inside in
    let ys : List Mention = optional mentions c.args.other.now c.args.inside in
    let a = c.args.uses.now in
    let b = c.put_expr.new.uses in
    let e = c.in_err-put_expr.field-0.0 in
    puts_exit n (xs ++ ys) a b c.from_residual.result e c.from_residual.ensures.1 (puts_fails n xs ys a b b e c.in_err-put_expr.ensures)

pub put_with_optional-returns : goal.put_with_optional-returns
put_with_optional-returns t c =
    let n = names_in c.args.self.now in
    let xs : List Mention = mentions c.args.tree.now c.args.inside in
    let ys : List Mention = optional mentions c.args.other.now c.args.inside in
    puts_then n xs ys c.args.uses.now c.put_expr.new.uses c.put_optional.new.uses c.put_optional.result (c.in_ok-put_expr.ensures {u = tt}) c.put_optional.ensures

pub put_replace-returns-in_err-put_both : goal.put_replace-returns-in_err-put_both
put_replace-returns-in_err-put_both t c =
    let n = names_in c.args.self.now in
    let xs : List Mention = ((mentions c.args.operand.now c.args.inside) ++ (mentions c.args.pattern.now c.args.inside)) in
    let ys : List Mention = optional mentions c.args.by.now c.args.inside in
    let a = c.args.uses.now in
    let b = c.put_both.new.uses in
    let e = c.in_err-put_both.field-0.0 in
    puts_exit n (xs ++ ys) a b c.from_residual.result e c.from_residual.ensures.1 (puts_fails n xs ys a b b e c.in_err-put_both.ensures)

pub put_replace-returns : goal.put_replace-returns
put_replace-returns t c =
    let n = names_in c.args.self.now in
    let xs : List Mention = ((mentions c.args.operand.now c.args.inside) ++ (mentions c.args.pattern.now c.args.inside)) in
    let ys : List Mention = optional mentions c.args.by.now c.args.inside in
    puts_then n xs ys c.args.uses.now c.put_both.new.uses c.put_optional.new.uses c.put_optional.result (c.in_ok-put_both.ensures {u = tt}) c.put_optional.ensures

pub put_sets-returns-in_err-put_both : goal.put_sets-returns-in_err-put_both
put_sets-returns-in_err-put_both t c =
    let n = names_in c.args.self.now in
    let xs : List Mention = ((mentions c.args.first.now c.args.inside) ++ (mentions c.args.second.now c.args.inside)) in
    let ys : List Mention = each mentions c.args.others.now c.args.inside in
    let a = c.args.uses.now in
    let b = c.put_both.new.uses in
    let e = c.in_err-put_both.field-0.0 in
    puts_exit n (xs ++ ys) a b c.from_residual.result e c.from_residual.ensures.1 (puts_fails n xs ys a b b e c.in_err-put_both.ensures)

pub put_sets-returns : goal.put_sets-returns
put_sets-returns t c =
    let n = names_in c.args.self.now in
    let xs : List Mention = ((mentions c.args.first.now c.args.inside) ++ (mentions c.args.second.now c.args.inside)) in
    let ys : List Mention = each mentions c.args.others.now c.args.inside in
    puts_then n xs ys c.args.uses.now c.put_both.new.uses c.put_each.new.uses c.put_each.result (c.in_ok-put_both.ensures {u = tt}) c.put_each.ensures

pub put_with_range-returns-in_err-put_expr : goal.put_with_range-returns-in_err-put_expr
put_with_range-returns-in_err-put_expr t c =
    let n = names_in c.args.self.now in
    let xs : List Mention = mentions c.args.tree.now c.args.inside in
    let ys : List Mention = optional range_mentions c.args.range.now c.args.inside in
    let a = c.args.uses.now in
    let b = c.put_expr.new.uses in
    let e = c.in_err-put_expr.field-0.0 in
    puts_exit n (xs ++ ys) a b c.from_residual.result e c.from_residual.ensures.1 (puts_fails n xs ys a b b e c.in_err-put_expr.ensures)

pub put_with_range-returns : goal.put_with_range-returns
put_with_range-returns t c =
    let n = names_in c.args.self.now in
    let xs : List Mention = mentions c.args.tree.now c.args.inside in
    let ys : List Mention = optional range_mentions c.args.range.now c.args.inside in
    puts_then n xs ys c.args.uses.now c.put_expr.new.uses c.put_range.new.uses c.put_range.result (c.in_ok-put_expr.ensures {u = tt}) c.put_range.ensures

pub put_with_ruleset-returns-in_err-put_expr : goal.put_with_ruleset-returns-in_err-put_expr
put_with_ruleset-returns-in_err-put_expr t c =
    let n = names_in c.args.self.now in
    let xs : List Mention = mentions c.args.tree.now c.args.inside in
    let ys : List Mention = mention c.args.sort c.args.name.now c.args.place ∷ [] in
    let a = c.args.uses.now in
    let b = c.put_expr.new.uses in
    let e = c.in_err-put_expr.field-0.0 in
    puts_exit n (xs ++ ys) a b c.from_residual.result e c.from_residual.ensures.1 (puts_fails n xs ys a b b e c.in_err-put_expr.ensures)

pub put_with_ruleset-returns : goal.put_with_ruleset-returns
put_with_ruleset-returns t c =
    let n = names_in c.args.self.now in
    let xs : List Mention = mentions c.args.tree.now c.args.inside in
    let ys : List Mention = mention c.args.sort c.args.name.now c.args.place ∷ [] in
    puts_then n xs ys c.args.uses.now c.put_expr.new.uses c.put.new.uses c.put.result (c.in_ok-put_expr.ensures {u = tt}) c.put.ensures

pub put_with_groups-returns-in_err-put_expr : goal.put_with_groups-returns-in_err-put_expr
put_with_groups-returns-in_err-put_expr t c =
    let n = names_in c.args.self.now in
    let xs : List Mention = mentions c.args.tree.now c.args.inside in
    let ys : List Mention = optional_inside groups_mentions c.args.groups.now in
    let a = c.args.uses.now in
    let b = c.put_expr.new.uses in
    let e = c.in_err-put_expr.field-0.0 in
    puts_exit n (xs ++ ys) a b c.from_residual.result e c.from_residual.ensures.1 (puts_fails n xs ys a b b e c.in_err-put_expr.ensures)

pub put_with_groups-returns : goal.put_with_groups-returns
put_with_groups-returns t c =
    let n = names_in c.args.self.now in
    let xs : List Mention = mentions c.args.tree.now c.args.inside in
    let ys : List Mention = optional_inside groups_mentions c.args.groups.now in
    puts_then n xs ys c.args.uses.now c.put_expr.new.uses c.put_groups.new.uses c.put_groups.result (c.in_ok-put_expr.ensures {u = tt}) c.put_groups.ensures

pub put_with_clause-returns-in_err-put_expr : goal.put_with_clause-returns-in_err-put_expr
put_with_clause-returns-in_err-put_expr t c =
    let n = names_in c.args.self.now in
    let xs : List Mention = mentions c.args.tree.now c.args.inside in
    let ys : List Mention = clause_mentions c.args.clause.now true in
    let a = c.args.uses.now in
    let b = c.put_expr.new.uses in
    let e = c.in_err-put_expr.field-0.0 in
    puts_exit n (xs ++ ys) a b c.from_residual.result e c.from_residual.ensures.1 (puts_fails n xs ys a b b e c.in_err-put_expr.ensures)

pub put_with_clause-returns : goal.put_with_clause-returns
put_with_clause-returns t c =
    let n = names_in c.args.self.now in
    let xs : List Mention = mentions c.args.tree.now c.args.inside in
    let ys : List Mention = clause_mentions c.args.clause.now true in
    puts_then n xs ys c.args.uses.now c.put_expr.new.uses c.put_clause.new.uses c.put_clause.result (c.in_ok-put_expr.ensures {u = tt}) c.put_clause.ensures

pub put_two_operands-returns-in_err-put_operand : goal.put_two_operands-returns-in_err-put_operand
put_two_operands-returns-in_err-put_operand t c =
    let n = names_in c.args.self.now in
    let xs : List Mention = operand_mentions c.args.first.now c.args.inside in
    let ys : List Mention = operand_mentions c.args.second.now c.args.inside in
    let a = c.args.uses.now in
    let b = c.put_operand.new.uses in
    let e = c.in_err-put_operand.field-0.0 in
    puts_exit n (xs ++ ys) a b c.from_residual.result e c.from_residual.ensures.1 (puts_fails n xs ys a b b e c.in_err-put_operand.ensures)

pub put_two_operands-returns : goal.put_two_operands-returns
put_two_operands-returns t c =
    let n = names_in c.args.self.now in
    let xs : List Mention = operand_mentions c.args.first.now c.args.inside in
    let ys : List Mention = operand_mentions c.args.second.now c.args.inside in
    puts_then n xs ys c.args.uses.now c.put_operand.new.uses c.put_operand-2.new.uses c.put_operand-2.result (c.in_ok-put_operand.ensures {u = tt}) c.put_operand-2.ensures

pub put_operands-returns-in_err-put_two_operands : goal.put_operands-returns-in_err-put_two_operands
put_operands-returns-in_err-put_two_operands t c =
    let n = names_in c.args.self.now in
    let xs : List Mention = ((operand_mentions c.args.first.now c.args.inside) ++ (operand_mentions c.args.second.now c.args.inside)) in
    let ys : List Mention = each operand_mentions c.args.others.now c.args.inside in
    let a = c.args.uses.now in
    let b = c.put_two_operands.new.uses in
    let e = c.in_err-put_two_operands.field-0.0 in
    puts_exit n (xs ++ ys) a b c.from_residual.result e c.from_residual.ensures.1 (puts_fails n xs ys a b b e c.in_err-put_two_operands.ensures)

pub put_operands-returns : goal.put_operands-returns
put_operands-returns t c =
    let n = names_in c.args.self.now in
    let xs : List Mention = ((operand_mentions c.args.first.now c.args.inside) ++ (operand_mentions c.args.second.now c.args.inside)) in
    let ys : List Mention = each operand_mentions c.args.others.now c.args.inside in
    puts_then n xs ys c.args.uses.now c.put_two_operands.new.uses c.put_each_operand.new.uses c.put_each_operand.result (c.in_ok-put_two_operands.ensures {u = tt}) c.put_each_operand.ensures

pub put_clause_pair-returns-in_err-put_optional_clause : goal.put_clause_pair-returns-in_err-put_optional_clause
put_clause_pair-returns-in_err-put_optional_clause t c =
    let n = names_in c.args.self.now in
    let xs : List Mention = optional_inside clause_mentions c.args.first.now in
    let ys : List Mention = optional_inside clause_mentions c.args.second.now in
    let a = c.args.uses.now in
    let b = c.put_optional_clause.new.uses in
    let e = c.in_err-put_optional_clause.field-0.0 in
    puts_exit n (xs ++ ys) a b c.from_residual.result e c.from_residual.ensures.1 (puts_fails n xs ys a b b e c.in_err-put_optional_clause.ensures)

pub put_clause_pair-returns : goal.put_clause_pair-returns
put_clause_pair-returns t c =
    let n = names_in c.args.self.now in
    let xs : List Mention = optional_inside clause_mentions c.args.first.now in
    let ys : List Mention = optional_inside clause_mentions c.args.second.now in
    puts_then n xs ys c.args.uses.now c.put_optional_clause.new.uses c.put_optional_clause-2.new.uses c.put_optional_clause-2.result (c.in_ok-put_optional_clause.ensures {u = tt}) c.put_optional_clause-2.ensures

pub put_clauses-returns-in_err-put_clause_pair : goal.put_clauses-returns-in_err-put_clause_pair
put_clauses-returns-in_err-put_clause_pair t c =
    let n = names_in c.args.self.now in
    let xs : List Mention = ((optional_inside clause_mentions c.args.filter.now) ++ (optional_inside clause_mentions c.args.calc.now)) in
    let ys : List Mention = ((optional_inside clause_mentions c.args.keep.now) ++ (optional_inside clause_mentions c.args.rename.now)) in
    let a = c.args.uses.now in
    let b = c.put_clause_pair.new.uses in
    let e = c.in_err-put_clause_pair.field-0.0 in
    puts_exit n (xs ++ ys) a b c.from_residual.result e c.from_residual.ensures.1 (puts_fails n xs ys a b b e c.in_err-put_clause_pair.ensures)

pub put_clauses-returns : goal.put_clauses-returns
put_clauses-returns t c =
    let n = names_in c.args.self.now in
    let xs : List Mention = ((optional_inside clause_mentions c.args.filter.now) ++ (optional_inside clause_mentions c.args.calc.now)) in
    let ys : List Mention = ((optional_inside clause_mentions c.args.keep.now) ++ (optional_inside clause_mentions c.args.rename.now)) in
    puts_then n xs ys c.args.uses.now c.put_clause_pair.new.uses c.put_clause_pair-2.new.uses c.put_clause_pair-2.result (c.in_ok-put_clause_pair.ensures {u = tt}) c.put_clause_pair-2.ensures

pub put_each-loop-tree-preserved : goal.put_each-loop-tree-preserved
put_each-loop-tree-preserved t c =
    let n = names_in c.args.self.now in
    let g : Expr → List Mention = λ y. mentions y c.args.inside in
    items_then n g c.args.trees.now c.loop-tree.tree-index c.tree-item.result c.args.uses.now c.loop-tree.uses c.put_expr.new.uses (Ok tt)
    (c.loop-tree-test.true, c.tree-item.is) c.loop-tree.invariant (c.in_ok-put_expr.ensures {u = tt})

pub put_each-returns-in_err-put_expr : goal.put_each-returns-in_err-put_expr
put_each-returns-in_err-put_expr t c =
    let n = names_in c.args.self.now in
    let g : Expr → List Mention = λ y. mentions y c.args.inside in
    let a = c.args.uses.now in
    let b = c.put_expr.new.uses in
    let e = c.in_err-put_expr.field-0.0 in
    puts_exit n (each mentions c.args.trees.now c.args.inside) a b c.from_residual.result e c.from_residual.ensures.1
    (items_fail n g c.args.trees.now c.loop-tree.tree-index c.tree-item.result a c.loop-tree.uses b b e
    (c.loop-tree-test.true, c.tree-item.is) c.loop-tree.invariant c.in_err-put_expr.ensures)

pub put_items-loop-item-preserved : goal.put_items-loop-item-preserved
put_items-loop-item-preserved t c =
    let n = names_in c.args.self.now in
    let g : Item → List Mention = λ y. item_mentions y true in
    items_then n g c.args.items.now c.loop-item.item-index c.item-item.result c.args.uses.now c.loop-item.uses c.put_item.new.uses (Ok tt)
    (c.loop-item-test.true, c.item-item.is) c.loop-item.invariant (c.in_ok-put_item.ensures {u = tt})

pub put_items-returns-in_err-put_item : goal.put_items-returns-in_err-put_item
put_items-returns-in_err-put_item t c =
    let n = names_in c.args.self.now in
    let g : Item → List Mention = λ y. item_mentions y true in
    let a = c.args.uses.now in
    let b = c.put_item.new.uses in
    let e = c.in_err-put_item.field-0.0 in
    puts_exit n (each item_mentions c.args.items.now true) a b c.from_residual.result e c.from_residual.ensures.1
    (items_fail n g c.args.items.now c.loop-item.item-index c.item-item.result a c.loop-item.uses b b e
    (c.loop-item-test.true, c.item-item.is) c.loop-item.invariant c.in_err-put_item.ensures)

pub put_each_operand-loop-operand-preserved : goal.put_each_operand-loop-operand-preserved
put_each_operand-loop-operand-preserved t c =
    let n = names_in c.args.self.now in
    let g : JoinOperand → List Mention = λ y. operand_mentions y c.args.inside in
    items_then n g c.args.operands.now c.loop-operand.operand-index c.operand-item.result c.args.uses.now c.loop-operand.uses c.put_operand.new.uses (Ok tt)
    (c.loop-operand-test.true, c.operand-item.is) c.loop-operand.invariant (c.in_ok-put_operand.ensures {u = tt})

pub put_each_operand-returns-in_err-put_operand : goal.put_each_operand-returns-in_err-put_operand
put_each_operand-returns-in_err-put_operand t c =
    let n = names_in c.args.self.now in
    let g : JoinOperand → List Mention = λ y. operand_mentions y c.args.inside in
    let a = c.args.uses.now in
    let b = c.put_operand.new.uses in
    let e = c.in_err-put_operand.field-0.0 in
    puts_exit n (each operand_mentions c.args.operands.now c.args.inside) a b c.from_residual.result e c.from_residual.ensures.1
    (items_fail n g c.args.operands.now c.loop-operand.operand-index c.operand-item.result a c.loop-operand.uses b b e
    (c.loop-operand-test.true, c.operand-item.is) c.loop-operand.invariant c.in_err-put_operand.ensures)

pub put_clause-returns-in-Calc : goal.put_clause-returns-in-Calc
put_clause-returns-in-Calc t c =
    let ms : List Mention = each item_mentions c.as_slice.result.now true in
    let is : clause_mentions c.args.clause.now true ≡ ms = rw (c.as_slice.ensures, c.in-Calc.is) (clause-Calc c.in-Calc.items c.in-Calc.place true) in
    puts_same (names_in c.args.self.now) (clause_mentions c.args.clause.now true) ms c.args.uses.now c.put_items.new.uses c.put_items.result is c.put_items.ensures

pub put_clause-returns-in_err-put_items-in-Aggr : goal.put_clause-returns-in_err-put_items-in-Aggr
put_clause-returns-in_err-put_items-in-Aggr t c =
    let n = names_in c.args.self.now in
    let xs : List Mention = each item_mentions c.as_slice-in-Aggr.result.now true in
    let ys : List Mention = optional_inside groups_mentions c.in-Aggr.groups in
    let is : clause_mentions c.args.clause.now true ≡ xs ++ ys = rw (c.as_slice-in-Aggr.ensures, c.in-Aggr.is) (clause-Aggr c.in-Aggr.items c.in-Aggr.groups c.in-Aggr.place true) in
    let a = c.args.uses.now in
    let b = c.put_items-in-Aggr.new.uses in
    let e = c.in_err-put_items-in-Aggr.field-0.0 in
    puts_exit n (clause_mentions c.args.clause.now true) a b c.from_residual.result e c.from_residual.ensures.1
    (puts_same n (clause_mentions c.args.clause.now true) (xs ++ ys) a b (Err e) is (puts_fails n xs ys a b b e c.in_err-put_items-in-Aggr.ensures))

pub put_clause-returns-in_ok-put_items-in-Aggr : goal.put_clause-returns-in_ok-put_items-in-Aggr
put_clause-returns-in_ok-put_items-in-Aggr t c =
    let n = names_in c.args.self.now in
    let xs : List Mention = each item_mentions c.as_slice-in-Aggr.result.now true in
    let ys : List Mention = optional_inside groups_mentions c.in-Aggr.groups in
    let is : clause_mentions c.args.clause.now true ≡ xs ++ ys = rw (c.as_slice-in-Aggr.ensures, c.in-Aggr.is) (clause-Aggr c.in-Aggr.items c.in-Aggr.groups c.in-Aggr.place true) in
    puts_same n (clause_mentions c.args.clause.now true) (xs ++ ys) c.args.uses.now c.put_groups.new.uses c.put_groups.result is
    (puts_then n xs ys c.args.uses.now c.put_items-in-Aggr.new.uses c.put_groups.new.uses c.put_groups.result (c.in_ok-put_items-in-Aggr.ensures {u = tt}) c.put_groups.ensures)

pub put_expr-returns-in-Sets : goal.put_expr-returns-in-Sets
put_expr-returns-in-Sets t c =
    let ms : List Mention = (mentions c.get-in-Sets.result.now c.args.inside ++ mentions c.get-in-Sets-2.result.now c.args.inside) ++ each mentions c.as_slice.result.now c.args.inside in
    let is : mentions c.args.tree.now c.args.inside ≡ ms = rw (c.get-in-Sets.ensures, c.get-in-Sets-2.ensures, c.as_slice.ensures, c.in-Sets.is) (mentions-Sets c.in-Sets.function c.in-Sets.first c.in-Sets.second c.in-Sets.others c.in-Sets.place c.args.inside) in
    puts_same (names_in c.args.self.now) (mentions c.args.tree.now c.args.inside) ms c.args.uses.now c.put_sets.new.uses c.put_sets.result is c.put_sets.ensures

pub put_expr-returns-in-CallOf : goal.put_expr-returns-in-CallOf
put_expr-returns-in-CallOf t c =
    let ms : List Mention = each mentions c.as_slice-in-CallOf.result.now c.args.inside in
    let is : mentions c.args.tree.now c.args.inside ≡ ms = rw (c.as_slice-in-CallOf.ensures, c.in-CallOf.is) (mentions-CallOf c.in-CallOf.name c.in-CallOf.arguments c.in-CallOf.place c.args.inside) in
    puts_same (names_in c.args.self.now) (mentions c.args.tree.now c.args.inside) ms c.args.uses.now c.put_each.new.uses c.put_each.result is c.put_each.ensures

pub put_expr-returns-in_err-put_operands-in-Join : goal.put_expr-returns-in_err-put_operands-in-Join
put_expr-returns-in_err-put_operands-in-Join t c =
    let n = names_in c.args.self.now in
    let ms : List Mention = mentions c.args.tree.now c.args.inside in
    let xs : List Mention = (operand_mentions c.get-in-Join.result.now c.args.inside ++ operand_mentions c.get-in-Join-2.result.now c.args.inside) ++ each operand_mentions c.as_slice-in-Join.result.now c.args.inside in
    let ys : List Mention = four c.in-Join.filter c.in-Join.calc c.in-Join.keep c.in-Join.rename in
    let is : ms ≡ xs ++ ys = rw (c.get-in-Join.ensures, c.get-in-Join-2.ensures, c.as_slice-in-Join.ensures, c.in-Join.is) (mentions-Join c.in-Join.function c.in-Join.first c.in-Join.second c.in-Join.others c.in-Join.filter c.in-Join.calc c.in-Join.keep c.in-Join.rename c.in-Join.place c.args.inside) in
    let a = c.args.uses.now in
    let b = c.put_operands.new.uses in
    let e = c.in_err-put_operands-in-Join.field-0.0 in
    puts_exit n ms a b c.from_residual.result e c.from_residual.ensures.1 (puts_same n ms (xs ++ ys) a b (Err e) is (puts_fails n xs ys a b b e c.in_err-put_operands-in-Join.ensures))

pub put_expr-returns-in_ok-put_operands-in-Join : goal.put_expr-returns-in_ok-put_operands-in-Join
put_expr-returns-in_ok-put_operands-in-Join t c =
    let n = names_in c.args.self.now in
    let ms : List Mention = mentions c.args.tree.now c.args.inside in
    let xs : List Mention = (operand_mentions c.get-in-Join.result.now c.args.inside ++ operand_mentions c.get-in-Join-2.result.now c.args.inside) ++ each operand_mentions c.as_slice-in-Join.result.now c.args.inside in
    let ys : List Mention = four c.in-Join.filter c.in-Join.calc c.in-Join.keep c.in-Join.rename in
    let is : ms ≡ xs ++ ys = rw (c.get-in-Join.ensures, c.get-in-Join-2.ensures, c.as_slice-in-Join.ensures, c.in-Join.is) (mentions-Join c.in-Join.function c.in-Join.first c.in-Join.second c.in-Join.others c.in-Join.filter c.in-Join.calc c.in-Join.keep c.in-Join.rename c.in-Join.place c.args.inside) in
    puts_same n ms (xs ++ ys) c.args.uses.now c.put_clauses.new.uses c.put_clauses.result is
    (puts_then n xs ys c.args.uses.now c.put_operands.new.uses c.put_clauses.new.uses c.put_clauses.result (c.in_ok-put_operands-in-Join.ensures {u = tt}) c.put_clauses.ensures)
