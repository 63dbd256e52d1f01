use Rattle.std.proofs.Common.{◌≡◌, ◌+◌, ◌<◌, [], ◌∷◌, ◌++◌, length, take, rules, refl, sym, ap, ◌∙◌}
use Rattle.std.specs.List.{flat_map}
use Rattle.std.proofs.lemmas.List.{take_more}
use denote.Param.Weighed.{most}
use Rattle.vtl_syntax.proofs.expr.Expr.TheLaws.{the_size as expr_size}
use Rattle.vtl_syntax.proofs.expr.JoinOperand.TheLaws.{the_size as operand_size}
use Rattle.vtl_syntax.specs.declared.expr.Clause.TheViews.{the_lemmas}
use Rattle.vtl_tokens.specs.declared.keyword.Keyword.TheVariants as words
use Rattle.vtl_syntax.specs.declared.expr.Expr.{Expr}
use Rattle.vtl_syntax.specs.declared.expr.Item.{Item}
use Rattle.vtl_spelling.specs.Kinds.{Kinds, ◌&◌, one, key, comma, commas, open_paren, close_paren, optional, name}
use Rattle.vtl_grammar.specs.Words.{exists_rows}
use Rattle.vtl_spelling.specs.Words.{written}
use Rattle.vtl_spelling.specs.Trees.{spelled, clause_spelled, groups_spelled, item_spelled, operand_spelled, range_spelled}
use Rattle.vtl_spelling.proofs.ClausesTold.{spelling}
use Rattle.vtl_spelling.proofs.Folds.{folded-Binary, folded-Difference, folded-ExistsIn, clause_folded-Unpivot}
use Rattle.vtl_spelling.proofs.Unfolded.{behind, behind_both, last, items-more, some-more, join-spelled, sets-spelled, substr-spelled, replace-spelled, call_of-spelled, calc-spelled, aggr-spelled}
use Rattle.vtl_spelling.proofs.trees.+spelling.Goals as goal

pub clause-returns-in_ok-spell-in-Calc : goal.clause-returns-in_ok-spell-in-Calc
clause-returns-in_ok-spell-in-Calc t c =
    let o = c.args.out.now.items in
    let z = c.items.new.out.items in
    let x0 : Kinds = key words.Calc in
    let y : Kinds = commas item_spelled c.as_slice.result.now in
    let is : clause_spelled c.args.clause.now ≡ x0 ++ y = rw (c.as_slice.ensures, c.in-Calc.is) (calc-spelled c.in-Calc.items c.in-Calc.place) in
    last c.items.result o z (clause_spelled c.args.clause.now) (x0 ++ y) is (behind c.items.result o c.spell.new.out.items z x0 y (c.in_ok-spell-in-Calc.ensures {u = tt}) c.items.ensures)

pub clause-returns-in_ok-both-in-Unpivot : goal.clause-returns-in_ok-both-in-Unpivot
clause-returns-in_ok-both-in-Unpivot t c =
    let o = c.args.out.now.items in
    let m = c.both.new.out.items in
    let z = c.both-in-Unpivot.new.out.items in
    let r = c.both-in-Unpivot.result in
    let x0 : Kinds = key words.Unpivot in
    let x1 : Kinds = name c.in-Unpivot.identifier in
    let x2 : Kinds = comma in
    let y : Kinds = name c.in-Unpivot.measure in
    let is : clause_spelled c.args.clause.now ≡ x0 ++ (x1 ++ (x2 ++ y)) = rw (c.in-Unpivot.is) (clause_folded-Unpivot spelling c.in-Unpivot.identifier c.in-Unpivot.measure c.in-Unpivot.place) in
    last r o z (clause_spelled c.args.clause.now) (x0 ++ (x1 ++ (x2 ++ y))) is
    (behind r o (o ++ x0) z x0 (x1 ++ (x2 ++ y)) refl
    (behind r (o ++ x0) m z x1 (x2 ++ y) (c.in_ok-both-in-Unpivot.ensures {u = tt})
    (behind r m (m ++ x2) z x2 y refl c.both-in-Unpivot.ensures)))

pub clause-returns-in_ok-items-in-Aggr : goal.clause-returns-in_ok-items-in-Aggr
clause-returns-in_ok-items-in-Aggr t c =
    let o = c.args.out.now.items in
    let z = c.optional_groups.new.out.items in
    let x0 : Kinds = key words.Aggr in
    let x1 : Kinds = commas item_spelled c.as_slice-in-Aggr.result.now in
    let y : Kinds = optional groups_spelled c.in-Aggr.groups in
    let is : clause_spelled c.args.clause.now ≡ x0 ++ (x1 ++ y) = rw (c.as_slice-in-Aggr.ensures, c.in-Aggr.is) (aggr-spelled c.in-Aggr.items c.in-Aggr.groups c.in-Aggr.place) in
    last c.optional_groups.result o z (clause_spelled c.args.clause.now) (x0 ++ (x1 ++ y)) is (behind c.optional_groups.result o c.spell-in-Aggr.new.out.items z x0 (x1 ++ y) (c.in_ok-spell-in-Aggr.ensures {u = tt}) (behind c.optional_groups.result c.spell-in-Aggr.new.out.items c.items-in-Aggr.new.out.items z x1 y (c.in_ok-items-in-Aggr.ensures {u = tt}) c.optional_groups.ensures))

pub items-loop-next-preserved : goal.items-loop-next-preserved
items-loop-next-preserved t c =
    let k = c.loop-next.next-index in
    let x = c.next-item.result in
    let within : k < length c.args.items.now = c.loop-next-test.true in
    let is = c.next-item.is in
    let more : take (k + 1) c.args.items.now ≡ take k c.args.items.now ++ x ∷ [] = take_more c.args.items.now k x within ∙ ap (λ (y : Item). take k c.args.items.now ++ y ∷ []) (sym is) in (
      items-more item_spelled c.args.items.now k x c.loop-next.some c.args.out.now.items c.loop-next.out.items c.comma_behind.new.out.items c.item.new.out.items more c.loop-next.invariant.0 c.loop-next.invariant.1 (c.in_ok-comma_behind.ensures {u = tt}) (c.in_ok-item.ensures {u = tt}),
      some-more c.args.items.now k x more,
    )

pub arguments-loop-next-preserved : goal.arguments-loop-next-preserved
arguments-loop-next-preserved t c =
    let k = c.loop-next.next-index in
    let x = c.next-item.result in
    let within : k < length c.args.arguments.now = c.loop-next-test.true in
    let is = c.next-item.is in
    let more : take (k + 1) c.args.arguments.now ≡ take k c.args.arguments.now ++ x ∷ [] = take_more c.args.arguments.now k x within ∙ ap (λ (y : Expr). take k c.args.arguments.now ++ y ∷ []) (sym is) in (
      items-more spelled c.args.arguments.now k x c.loop-next.some c.args.out.now.items c.loop-next.out.items c.comma_behind.new.out.items c.expr.new.out.items more c.loop-next.invariant.0 c.loop-next.invariant.1 (c.in_ok-comma_behind.ensures {u = tt}) (c.in_ok-expr.ensures {u = tt}),
      some-more c.args.arguments.now k x more,
    )

pub join-more_join_operands-requires : goal.join-more_join_operands-requires
join-more_join_operands-requires t c =
    let d = c.decreases in
    let m : most operand_size c.as_slice.result.now ≡ most operand_size c.in-Join.others = ap (most operand_size) c.as_slice.ensures in
    (search (rules, the_lemmas, d, m), tt)

pub join-returns : goal.join-returns
join-returns t c =
    let o = c.args.out.now.items in
    let z = c.spell-2.new.out.items in
    let x0 : Kinds = one c.kind.result in
    let x1 : Kinds = open_paren in
    let x2 : Kinds = operand_spelled c.get.result.now in
    let x3 : Kinds = comma & operand_spelled c.get-2.result.now in
    let x4 : Kinds = flat_map (λ b. comma & operand_spelled b) c.as_slice.result.now in
    let x5 : Kinds = optional clause_spelled c.in-Join.filter in
    let x6 : Kinds = optional clause_spelled c.in-Join.calc in
    let x7 : Kinds = optional clause_spelled c.in-Join.keep in
    let x8 : Kinds = optional clause_spelled c.in-Join.rename in
    let y : Kinds = close_paren in
    let is : spelled c.args.tree.now ≡ x0 ++ (x1 ++ (x2 ++ (x3 ++ (x4 ++ (x5 ++ (x6 ++ (x7 ++ (x8 ++ y)))))))) = rw (c.kind.ensures, c.get.ensures, c.get-2.ensures, c.as_slice.ensures, c.in-Join.is) (join-spelled c.in-Join.function c.in-Join.first c.in-Join.second c.in-Join.others c.in-Join.filter c.in-Join.calc c.in-Join.keep c.in-Join.rename c.in-Join.place) in
    last c.spell-2.result o z (spelled c.args.tree.now) (x0 ++ (x1 ++ (x2 ++ (x3 ++ (x4 ++ (x5 ++ (x6 ++ (x7 ++ (x8 ++ y))))))))) is (behind c.spell-2.result o c.push.new.out.items z x0 (x1 ++ (x2 ++ (x3 ++ (x4 ++ (x5 ++ (x6 ++ (x7 ++ (x8 ++ y)))))))) (c.in_ok-push.ensures {u = tt}) (behind c.spell-2.result c.push.new.out.items c.spell.new.out.items z x1 (x2 ++ (x3 ++ (x4 ++ (x5 ++ (x6 ++ (x7 ++ (x8 ++ y))))))) (c.in_ok-spell.ensures {u = tt}) (behind c.spell-2.result c.spell.new.out.items c.join_operand.new.out.items z x2 (x3 ++ (x4 ++ (x5 ++ (x6 ++ (x7 ++ (x8 ++ y)))))) (c.in_ok-join_operand.ensures {u = tt}) (behind c.spell-2.result c.join_operand.new.out.items c.next_join_operand.new.out.items z x3 (x4 ++ (x5 ++ (x6 ++ (x7 ++ (x8 ++ y))))) (c.in_ok-next_join_operand.ensures {u = tt}) (behind c.spell-2.result c.next_join_operand.new.out.items c.more_join_operands.new.out.items z x4 (x5 ++ (x6 ++ (x7 ++ (x8 ++ y)))) (c.in_ok-more_join_operands.ensures {u = tt}) (behind c.spell-2.result c.more_join_operands.new.out.items c.optional_clause.new.out.items z x5 (x6 ++ (x7 ++ (x8 ++ y))) (c.in_ok-optional_clause.ensures {u = tt}) (behind c.spell-2.result c.optional_clause.new.out.items c.optional_clause-2.new.out.items z x6 (x7 ++ (x8 ++ y)) (c.in_ok-optional_clause-2.ensures {u = tt}) (behind c.spell-2.result c.optional_clause-2.new.out.items c.optional_clause-3.new.out.items z x7 (x8 ++ y) (c.in_ok-optional_clause-3.ensures {u = tt}) (behind c.spell-2.result c.optional_clause-3.new.out.items c.optional_clause-4.new.out.items z x8 y (c.in_ok-optional_clause-4.ensures {u = tt}) c.spell-2.ensures)))))))))

pub operands-more_operands-requires : goal.operands-more_operands-requires
operands-more_operands-requires t c =
    let d = c.decreases in
    let m : most expr_size c.as_slice.result.now ≡ most expr_size c.in-Sets.others = ap (most expr_size) c.as_slice.ensures in
    (search (rules, the_lemmas, d, m), tt)

pub two_operands-returns-in_ok-call-in-Binary : goal.two_operands-returns-in_ok-call-in-Binary
two_operands-returns-in_ok-call-in-Binary t c =
    let o = c.args.out.now.items in
    let z = c.last_operand.new.out.items in
    let x0 : Kinds = one c.kind.result & open_paren & spelled c.get.result.now in
    let y : Kinds = comma & spelled c.get-in-Binary.result.now & close_paren in
    let is : spelled c.args.tree.now ≡ x0 ++ y = rw (c.kind.ensures, c.get.ensures, c.get-in-Binary.ensures, c.in-Binary.is) (folded-Binary spelling c.in-Binary.function c.in-Binary.left c.in-Binary.right c.in-Binary.place) in
    last c.last_operand.result o z (spelled c.args.tree.now) (x0 ++ y) is (behind c.last_operand.result o c.call.new.out.items z x0 y (c.in_ok-call-in-Binary.ensures {u = tt}) c.last_operand.ensures)

pub two_operands-returns-in_ok-call-in-Difference : goal.two_operands-returns-in_ok-call-in-Difference
two_operands-returns-in_ok-call-in-Difference t c =
    let o = c.args.out.now.items in
    let z = c.last_operand-in-Difference.new.out.items in
    let x0 : Kinds = one c.kind-in-Difference.result & open_paren & spelled c.get-in-Difference.result.now in
    let y : Kinds = comma & spelled c.get-in-Difference-2.result.now & close_paren in
    let is : spelled c.args.tree.now ≡ x0 ++ y = rw (c.kind-in-Difference.ensures, c.get-in-Difference.ensures, c.get-in-Difference-2.ensures, c.in-Difference.is) (folded-Difference spelling c.in-Difference.function c.in-Difference.left c.in-Difference.right c.in-Difference.place) in
    last c.last_operand-in-Difference.result o z (spelled c.args.tree.now) (x0 ++ y) is (behind c.last_operand-in-Difference.result o c.call-in-Difference.new.out.items z x0 y (c.in_ok-call-in-Difference.ensures {u = tt}) c.last_operand-in-Difference.ensures)

pub operands-returns-in_ok-optional_range-in-Substr : goal.operands-returns-in_ok-optional_range-in-Substr
operands-returns-in_ok-optional_range-in-Substr t c =
    let o = c.args.out.now.items in
    let z = c.spell.new.out.items in
    let x0 : Kinds = key words.Substr & open_paren & spelled c.get.result.now in
    let x1 : Kinds = optional range_spelled c.in-Substr.range in
    let y : Kinds = close_paren in
    let is : spelled c.args.tree.now ≡ x0 ++ (x1 ++ y) = rw (c.get.ensures, c.in-Substr.is) (substr-spelled c.in-Substr.operand c.in-Substr.range c.in-Substr.place) in
    last c.spell.result o z (spelled c.args.tree.now) (x0 ++ (x1 ++ y)) is (behind c.spell.result o c.worded_call.new.out.items z x0 (x1 ++ y) (c.in_ok-worded_call-in-Substr.ensures {u = tt}) (behind c.spell.result c.worded_call.new.out.items c.optional_range.new.out.items z x1 y (c.in_ok-optional_range-in-Substr.ensures {u = tt}) c.spell.ensures))

pub operands-returns-in_ok-optional_operand-in-Replace : goal.operands-returns-in_ok-optional_operand-in-Replace
operands-returns-in_ok-optional_operand-in-Replace t c =
    let o = c.args.out.now.items in
    let z = c.spell-in-Replace.new.out.items in
    let x0 : Kinds = key words.Replace & open_paren & spelled c.get-in-Replace.result.now in
    let x1 : Kinds = comma & spelled c.get-in-Replace-2.result.now in
    let x2 : Kinds = optional (λ b. comma & spelled b) c.in-Replace.by in
    let y : Kinds = close_paren in
    let is : spelled c.args.tree.now ≡ x0 ++ (x1 ++ (x2 ++ y)) = rw (c.get-in-Replace.ensures, c.get-in-Replace-2.ensures, c.in-Replace.is) (replace-spelled c.in-Replace.operand c.in-Replace.pattern c.in-Replace.by c.in-Replace.place) in
    last c.spell-in-Replace.result o z (spelled c.args.tree.now) (x0 ++ (x1 ++ (x2 ++ y))) is (behind c.spell-in-Replace.result o c.worded_call-in-Replace.new.out.items z x0 (x1 ++ (x2 ++ y)) (c.in_ok-worded_call-in-Replace.ensures {u = tt}) (behind c.spell-in-Replace.result c.worded_call-in-Replace.new.out.items c.next_operand.new.out.items z x1 (x2 ++ y) (c.in_ok-next_operand-in-Replace.ensures {u = tt}) (behind c.spell-in-Replace.result c.next_operand.new.out.items c.optional_operand.new.out.items z x2 y (c.in_ok-optional_operand-in-Replace.ensures {u = tt}) c.spell-in-Replace.ensures)))

pub two_operands-returns-in_ok-next_operand-in-ExistsIn : goal.two_operands-returns-in_ok-next_operand-in-ExistsIn
two_operands-returns-in_ok-next_operand-in-ExistsIn t c =
    let o = c.args.out.now.items in
    let z = c.rows.new.out.items in
    let x0 : Kinds = key words.ExistsIn & open_paren & spelled c.get-in-ExistsIn.result.now in
    let x1 : Kinds = comma & spelled c.get-in-ExistsIn-2.result.now in
    let y : Kinds = optional (λ w. comma & one (written exists_rows w)) c.in-ExistsIn.rows & close_paren in
    let is : spelled c.args.tree.now ≡ x0 ++ (x1 ++ y) = rw (c.get-in-ExistsIn.ensures, c.get-in-ExistsIn-2.ensures, c.in-ExistsIn.is) (folded-ExistsIn spelling c.in-ExistsIn.left c.in-ExistsIn.right c.in-ExistsIn.rows c.in-ExistsIn.place) in
    last c.rows.result o z (spelled c.args.tree.now) (x0 ++ (x1 ++ y)) is (behind c.rows.result o c.worded_call.new.out.items z x0 (x1 ++ y) (c.in_ok-worded_call-in-ExistsIn.ensures {u = tt}) (behind c.rows.result c.worded_call.new.out.items c.next_operand.new.out.items z x1 y (c.in_ok-next_operand-in-ExistsIn.ensures {u = tt}) c.rows.ensures))

pub operands-returns-in_ok-more_operands-in-Sets : goal.operands-returns-in_ok-more_operands-in-Sets
operands-returns-in_ok-more_operands-in-Sets t c =
    let o = c.args.out.now.items in
    let z = c.spell-in-Sets.new.out.items in
    let x0 : Kinds = one c.kind.result & open_paren & spelled c.get-in-Sets.result.now in
    let x1 : Kinds = comma & spelled c.get-in-Sets-2.result.now in
    let x2 : Kinds = flat_map (λ b. comma & spelled b) c.as_slice.result.now in
    let y : Kinds = close_paren in
    let is : spelled c.args.tree.now ≡ x0 ++ (x1 ++ (x2 ++ y)) = rw (c.kind.ensures, c.get-in-Sets.ensures, c.get-in-Sets-2.ensures, c.as_slice.ensures, c.in-Sets.is) (sets-spelled c.in-Sets.function c.in-Sets.first c.in-Sets.second c.in-Sets.others c.in-Sets.place) in
    last c.spell-in-Sets.result o z (spelled c.args.tree.now) (x0 ++ (x1 ++ (x2 ++ y))) is (behind c.spell-in-Sets.result o c.call.new.out.items z x0 (x1 ++ (x2 ++ y)) (c.in_ok-call-in-Sets.ensures {u = tt}) (behind c.spell-in-Sets.result c.call.new.out.items c.next_operand-in-Sets.new.out.items z x1 (x2 ++ y) (c.in_ok-next_operand-in-Sets.ensures {u = tt}) (behind c.spell-in-Sets.result c.next_operand-in-Sets.new.out.items c.more_operands.new.out.items z x2 y (c.in_ok-more_operands-in-Sets.ensures {u = tt}) c.spell-in-Sets.ensures)))

pub operands-returns-in_ok-arguments-in-CallOf : goal.operands-returns-in_ok-arguments-in-CallOf
operands-returns-in_ok-arguments-in-CallOf t c =
    let o = c.args.out.now.items in
    let r = c.spell-in-CallOf.result in
    let m = c.both.new.out.items in
    let z = c.spell-in-CallOf.new.out.items in
    let x0 : Kinds = name c.in-CallOf.name in
    let x1 : Kinds = open_paren in
    let x2 : Kinds = commas spelled c.as_slice-in-CallOf.result.now in
    let y : Kinds = close_paren in
    let is : spelled c.args.tree.now ≡ x0 ++ (x1 ++ (x2 ++ y)) = rw (c.as_slice-in-CallOf.ensures, c.in-CallOf.is) (call_of-spelled c.in-CallOf.name c.in-CallOf.arguments c.in-CallOf.place) in
    last r o z (spelled c.args.tree.now) (x0 ++ (x1 ++ (x2 ++ y))) is (behind_both r o m z x0 x1 (x2 ++ y) (c.in_ok-both-in-CallOf.ensures {u = tt}) (behind r m c.arguments.new.out.items z x2 y (c.in_ok-arguments-in-CallOf.ensures {u = tt}) c.spell-in-CallOf.ensures))
