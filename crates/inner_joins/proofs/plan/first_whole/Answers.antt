use Rattle.std.proofs.Common.{List, [], length, sym, ap, ◌∙◌, arith}
use Rattle.std.proofs.lemmas.List.Sums.{position_or_len_is}
use Rattle.vtl_values.specs.declared.structure.Component.{Component}
use Rattle.operator_meaning.specs.joins.Joins.{is_whole}
use Rattle.inner_joins.proofs.plan.first_whole.Goals as goal

pub returns-then-is_whole : goal.returns-then-is_whole
returns-then-is_whole c =
    let j = c.args.join.now in
    let all = ap (λ (ss : List (List Component)). length ss) c.operands-count.ensures in
    let test = c.loop-operand-test.true in
    sym (position_or_len_is (is_whole j) j.operands c.loop-operand.operand [] (omega (arith, all, test)) (λ k below. c.loop-operand.invariant k below) (λ within. sym c.is_whole.ensures ∙ c.if-is_whole.true))

pub returns : goal.returns
returns c =
    let j = c.args.join.now in
    let all = ap (λ (ss : List (List Component)). length ss) c.operands-count.ensures in
    let test = c.loop-operand-test.false in
    sym (position_or_len_is (is_whole j) j.operands (length c.operands-count.result.now) [] (omega (arith, all)) (λ k below. c.loop-operand.invariant k (omega (arith, below, test))) (λ within. absurd (omega (arith, within, all))))
