use Rattle.std.proofs.Common.{◌≡◌, List, map, true, false, Some, sym, ap, subst, ◌∙◌}
use Rattle.std.specs.Prelude.{position}
use Rattle.vtl_values.specs.declared.kind.Role.TheVariants.{Measure}
use Rattle.vtl_values.specs.declared.structure.Component.{Component}
use Rattle.data_set_trees.specs.clauses.Frames.{has_role}
use Rattle.data_set_trees.specs.declared.tree.DataSetOperator.{DataSetOperator}
use Rattle.data_set_trees.specs.Components.{virals}
use Rattle.data_set_trees.specs.checked.Operators.{Operator, an_operator}
use Rattle.operator_meaning.specs.choices.Choices.{ChoiceOn, condition, chosen_number, chosen_structure}
use Rattle.choice_ops.specs.Plans.{choice_in, key_numbers, places_of, structure_of, IsPlan}
use Rattle.choice_ops.proofs.plan.ChoicePlan.of.Goals as goal

pub invariant_of-result : goal.invariant_of-result
invariant_of-result c =
    let node = c.args.node.now in
    let whole : Operator = an_operator node.operator node.operands node.structure in
    let on : ChoiceOn = choice_in whole in
    let operands : c.as_slice-operands.result.now ≡ node.operands = c.as_slice-operands.ensures in
    let first : c.components_of-first.result.now ≡ condition on = c.components_of-first.ensures ∙ ap (λ (os : List (List Component)). structure_of os (Some 0)) operands in
    let holds : c.components_of-holds.result.now ≡ chosen_structure on true =
    c.components_of-holds.ensures ∙ ap (λ (os : List (List Component)). structure_of os c.chosen_number.result) operands
    ∙ ap (structure_of node.operands) (c.chosen_number.ensures node.operands node.structure ∙ ap (λ (d : DataSetOperator). chosen_number (choice_in (an_operator d node.operands node.structure)) true) c.get-operator.ensures) in
    let fails : c.components_of-fails.result.now ≡ chosen_structure on false =
    c.components_of-fails.ensures ∙ ap (λ (os : List (List Component)). structure_of os c.chosen_number-2.result) operands
    ∙ ap (structure_of node.operands) (c.chosen_number-2.ensures node.operands node.structure ∙ ap (λ (d : DataSetOperator). chosen_number (choice_in (an_operator d node.operands node.structure)) false) c.get-operator.ensures) in
    let same : an_operator c.in_ok-copy.field-0 c.in_ok-copy_all.field-0 c.in_ok-copy-2.field-0 ≡ whole =
    (λ i. an_operator (c.in_ok-copy.ensures i) ((c.in_ok-copy_all.ensures ∙ operands) i) (c.in_ok-copy-2.ensures i)) in
    let plan : IsPlan on c.in_ok-all_key_numbers.field-0 c.measure_number.result c.in_ok-virals.virals = record {
      typed = c.requires;
      keys_are = c.in_ok-all_key_numbers.ensures ∙ (λ i. map (key_numbers (first i)) (operands i));
      test_is = c.measure_number.ensures ∙ ap (position (has_role Measure)) first;
      virals_are = c.in_ok-virals.ensures ∙ (λ i. map (places_of (first i) (holds i) (fails i)) (virals (c.components.ensures.value i)));
    } in
    subst (λ (q : Operator). IsPlan (choice_in q) c.in_ok-all_key_numbers.field-0 c.measure_number.result c.in_ok-virals.virals) (sym same) plan
