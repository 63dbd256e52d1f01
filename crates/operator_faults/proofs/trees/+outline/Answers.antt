use Rattle.std.proofs.Common.{◌≡◌, [], ◌∷◌, ◌++◌, List, map, rules, ap}
use denote.Param.Weighed.{most}
use Rattle.vtl_syntax.proofs.expr.Expr.TheLaws.{the_size as expr_size}
use Rattle.vtl_syntax.specs.declared.expr.Clause.TheViews.{the_lemmas}
use Rattle.operator_faults.specs.declared.outline.Outline.{Outline}
use Rattle.operator_faults.specs.Outlines.{inside, parts_if, one_if, joined_if, parts_of, outlined, clause_outlined, groups_outlined, operand_outlined, range_outlined}
use Rattle.operator_faults.proofs.Parts as parts
use Rattle.operator_faults.proofs.Parts.{then, last}
use Rattle.operator_faults.proofs.trees.+outline.Goals as goal

pub put_parts-returns-in_ok-put-in-Clause : goal.put_parts-returns-in_ok-put-in-Clause
put_parts-returns-in_ok-put-in-Clause t c =
    let o = c.args.out.now in
    let z = c.put_inside.new.out in
    let x : List Outline = outlined c.get-in-Clause.result.now ∷ [] in
    let y : List Outline = inside (clause_outlined c.get-in-Clause-2.result.now) ∷ [] in
    let is : parts_of c.args.tree.now ≡ x ++ y = rw (c.get-in-Clause.ensures, c.get-in-Clause-2.ensures, c.in-Clause.is) (parts.parts-Clause c.in-Clause.operand c.in-Clause.clause c.in-Clause.place) in
    last c.put_inside.result o z (parts_of c.args.tree.now) (x ++ y) is (then c.put_inside.result o c.put-in-Clause.new.out z x y (c.in_ok-put-in-Clause.ensures {u = tt}) c.put_inside.ensures)

pub put_parts-returns-in_ok-put-in-Substr : goal.put_parts-returns-in_ok-put-in-Substr
put_parts-returns-in_ok-put-in-Substr t c =
    let o = c.args.out.now in
    let z = c.put_range.new.out in
    let x : List Outline = outlined c.get-in-Substr.result.now ∷ [] in
    let y : List Outline = parts_if range_outlined c.in-Substr.range in
    let is : parts_of c.args.tree.now ≡ x ++ y = rw (c.get-in-Substr.ensures, c.in-Substr.is) (parts.parts-Substr c.in-Substr.operand c.in-Substr.range c.in-Substr.place) in
    last c.put_range.result o z (parts_of c.args.tree.now) (x ++ y) is (then c.put_range.result o c.put-in-Substr.new.out z x y (c.in_ok-put-in-Substr.ensures {u = tt}) c.put_range.ensures)

pub put_parts-returns-in_ok-put-in-Aggregate : goal.put_parts-returns-in_ok-put-in-Aggregate
put_parts-returns-in_ok-put-in-Aggregate t c =
    let o = c.args.out.now in
    let z = c.put_groups.new.out in
    let x : List Outline = outlined c.get-in-Aggregate.result.now ∷ [] in
    let y : List Outline = parts_if groups_outlined c.in-Aggregate.groups in
    let is : parts_of c.args.tree.now ≡ x ++ y = rw (c.get-in-Aggregate.ensures, c.in-Aggregate.is) (parts.parts-Aggregate c.in-Aggregate.function c.in-Aggregate.operand c.in-Aggregate.groups c.in-Aggregate.place) in
    last c.put_groups.result o z (parts_of c.args.tree.now) (x ++ y) is (then c.put_groups.result o c.put-in-Aggregate.new.out z x y (c.in_ok-put-in-Aggregate.ensures {u = tt}) c.put_groups.ensures)

pub put_parts-returns-in_ok-put-in-Check : goal.put_parts-returns-in_ok-put-in-Check
put_parts-returns-in_ok-put-in-Check t c =
    let o = c.args.out.now in
    let z = c.put_optional-in-Check.new.out in
    let x : List Outline = outlined c.get-in-Check.result.now ∷ [] in
    let y : List Outline = one_if outlined c.in-Check.imbalance in
    let is : parts_of c.args.tree.now ≡ x ++ y = rw (c.get-in-Check.ensures, c.in-Check.is) (parts.parts-Check c.in-Check.operand c.in-Check.code c.in-Check.level c.in-Check.imbalance c.in-Check.output c.in-Check.place) in
    last c.put_optional-in-Check.result o z (parts_of c.args.tree.now) (x ++ y) is (then c.put_optional-in-Check.result o c.put-in-Check.new.out z x y (c.in_ok-put-in-Check.ensures {u = tt}) c.put_optional-in-Check.ensures)

pub put_parts-returns-in_ok-put-in-If-2 : goal.put_parts-returns-in_ok-put-in-If-2
put_parts-returns-in_ok-put-in-If-2 t c =
    let o = c.args.out.now in
    let m = c.put.new.out in
    let n = c.put-in-If.new.out in
    let z = c.put-in-If-2.new.out in
    let r = c.put-in-If-2.result in
    let w : List Outline = outlined c.get.result.now ∷ [] in
    let x : List Outline = outlined c.get-in-If.result.now ∷ [] in
    let y : List Outline = outlined c.get-in-If-2.result.now ∷ [] in
    let is : parts_of c.args.tree.now ≡ w ++ (x ++ y) = rw (c.get.ensures, c.get-in-If.ensures, c.get-in-If-2.ensures, c.in-If.is) (parts.parts-If c.in-If.condition c.in-If.holds c.in-If.fails c.in-If.place) in
    last r o z (parts_of c.args.tree.now) (w ++ (x ++ y)) is (then r o m z w (x ++ y) (c.in_ok-put-in-If.ensures {u = tt}) (then r m n z x y (c.in_ok-put-in-If-2.ensures {u = tt}) c.put-in-If-2.ensures))

pub put_parts-returns-in_ok-put-in-Replace-2 : goal.put_parts-returns-in_ok-put-in-Replace-2
put_parts-returns-in_ok-put-in-Replace-2 t c =
    let o = c.args.out.now in
    let m = c.put-in-Replace.new.out in
    let n = c.put-in-Replace-2.new.out in
    let z = c.put_optional.new.out in
    let r = c.put_optional.result in
    let w : List Outline = outlined c.get-in-Replace.result.now ∷ [] in
    let x : List Outline = outlined c.get-in-Replace-2.result.now ∷ [] in
    let y : List Outline = one_if outlined c.in-Replace.by in
    let is : parts_of c.args.tree.now ≡ w ++ (x ++ y) = rw (c.get-in-Replace.ensures, c.get-in-Replace-2.ensures, c.in-Replace.is) (parts.parts-Replace c.in-Replace.operand c.in-Replace.pattern c.in-Replace.by c.in-Replace.place) in
    last r o z (parts_of c.args.tree.now) (w ++ (x ++ y)) is (then r o m z w (x ++ y) (c.in_ok-put-in-Replace.ensures {u = tt}) (then r m n z x y (c.in_ok-put-in-Replace-2.ensures {u = tt}) c.put_optional.ensures))

pub put_parts-returns-in_ok-put-in-Sets-2 : goal.put_parts-returns-in_ok-put-in-Sets-2
put_parts-returns-in_ok-put-in-Sets-2 t c =
    let o = c.args.out.now in
    let m = c.put-in-Sets.new.out in
    let n = c.put-in-Sets-2.new.out in
    let z = c.each.new.out in
    let r = c.each.result in
    let w : List Outline = outlined c.get-in-Sets.result.now ∷ [] in
    let x : List Outline = outlined c.get-in-Sets-2.result.now ∷ [] in
    let y : List Outline = map outlined c.as_slice.result.now in
    let is : parts_of c.args.tree.now ≡ w ++ (x ++ y) = rw (c.get-in-Sets.ensures, c.get-in-Sets-2.ensures, c.as_slice.ensures, c.in-Sets.is) (parts.parts-Sets c.in-Sets.function c.in-Sets.first c.in-Sets.second c.in-Sets.others c.in-Sets.place) in
    last r o z (parts_of c.args.tree.now) (w ++ (x ++ y)) is (then r o m z w (x ++ y) (c.in_ok-put-in-Sets.ensures {u = tt}) (then r m n z x y (c.in_ok-put-in-Sets-2.ensures {u = tt}) c.each.ensures))

pub put_parts-each-requires : goal.put_parts-each-requires
put_parts-each-requires t c =
    let d = c.decreases in
    let m : most expr_size c.as_slice.result.now ≡ most expr_size c.in-Sets.others = ap (most expr_size) c.as_slice.ensures in
    (search (rules, the_lemmas, d, m), tt)

pub put_join-returns : goal.put_join-returns
put_join-returns t c =
    let r = c.put_joined-in-Join-3.result in
    let z = c.put_joined-in-Join-3.new.out in
    let o = c.args.out.now in
    let x0 : List Outline = operand_outlined c.get.result.now ∷ [] in
    let x1 : List Outline = operand_outlined c.get-in-Join.result.now ∷ [] in
    let x2 : List Outline = map operand_outlined c.as_slice.result.now in
    let x3 : List Outline = joined_if clause_outlined c.in-Join.filter in
    let x4 : List Outline = joined_if clause_outlined c.in-Join.calc in
    let x5 : List Outline = joined_if clause_outlined c.in-Join.keep in
    let y : List Outline = joined_if clause_outlined c.in-Join.rename in
    let is : parts_of c.args.tree.now ≡ x0 ++ (x1 ++ (x2 ++ (x3 ++ (x4 ++ (x5 ++ y))))) = rw (c.get.ensures, c.get-in-Join.ensures, c.as_slice.ensures, c.in-Join.is) (parts.parts-Join c.in-Join.function c.in-Join.first c.in-Join.second c.in-Join.others c.in-Join.filter c.in-Join.calc c.in-Join.keep c.in-Join.rename c.in-Join.place) in
    last r o z (parts_of c.args.tree.now) (x0 ++ (x1 ++ (x2 ++ (x3 ++ (x4 ++ (x5 ++ y)))))) is
    (then r o c.put_operand.new.out z x0 (x1 ++ (x2 ++ (x3 ++ (x4 ++ (x5 ++ y))))) (c.in_ok-put_operand-in-Join.ensures {u = tt})
    (then r c.put_operand.new.out c.put_operand-in-Join.new.out z x1 (x2 ++ (x3 ++ (x4 ++ (x5 ++ y)))) (c.in_ok-put_operand-in-Join-2.ensures {u = tt})
    (then r c.put_operand-in-Join.new.out c.put_operands.new.out z x2 (x3 ++ (x4 ++ (x5 ++ y))) (c.in_ok-put_operands-in-Join.ensures {u = tt})
    (then r c.put_operands.new.out c.put_joined.new.out z x3 (x4 ++ (x5 ++ y)) (c.in_ok-put_joined-in-Join.ensures {u = tt})
    (then r c.put_joined.new.out c.put_joined-in-Join.new.out z x4 (x5 ++ y) (c.in_ok-put_joined-in-Join-2.ensures {u = tt})
    (then r c.put_joined-in-Join.new.out c.put_joined-in-Join-2.new.out z x5 y (c.in_ok-put_joined-in-Join-3.ensures {u = tt}) c.put_joined-in-Join-3.ensures))))))
