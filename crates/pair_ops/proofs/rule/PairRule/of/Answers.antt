-- The operator has two operands, and its plan is for these.
use Rattle.std.proofs.Common.{◌≡◌, ℕ, List, [], get_or, sym, ap, subst, ◌∙◌, arith}
use Rattle.std.proofs.lemmas.List.{get_or_default}
use Rattle.vtl_values.specs.declared.structure.Component.{Component}
use Rattle.data_set_trees.specs.checked.Operators.{an_operator, Operator}
use Rattle.operator_meaning.specs.pairs.Typed.{IsTypedPair}
use Rattle.pair_eval.specs.Plans.{pair_of}
use Rattle.pair_ops.proofs.Asked.{IsOfTwo, of_two, two_operands, typed_in}
use Rattle.pair_ops.proofs.rule.PairRule.of.Goals as goal

pub of-requires : goal.of-requires
of-requires c =
    let node = c.args.node.now in
    let o : Operator = an_operator node.operator node.operands node.structure in
    let two : IsOfTwo o = of_two o c.requires.typed c.requires.pair in
    let long = two_operands o two in
    let whole : (i : ℕ) (s : List Component) → s ≡ get_or c.as_slice-operands.result.now i s → get_or node.operands i s ≡ s = λ i s at. ap (λ (ss : List (List Component)). get_or ss i s) (sym c.as_slice-operands.ensures) ∙ sym at in
    let left : get_or node.operands 0 [] ≡ c.index-operands-0.result = get_or_default node.operands 0 [] c.index-operands-0.result (omega (arith, long)) ∙ whole 0 c.index-operands-0.result c.index-operands-0.is in
    let right : get_or node.operands 1 [] ≡ c.index-operands-1.result = get_or_default node.operands 1 [] c.index-operands-1.result (omega (arith, long)) ∙ whole 1 c.index-operands-1.result c.index-operands-1.is in
    let typed : IsTypedPair (pair_of node.operator (get_or node.operands 0 []) (get_or node.operands 1 []) node.structure) = typed_in o two in
    subst (λ (l : List Component). IsTypedPair (pair_of node.operator l c.index-operands-1.result node.structure)) left
    (subst (λ (r : List Component). IsTypedPair (pair_of node.operator (get_or node.operands 0 []) r node.structure)) right typed)
