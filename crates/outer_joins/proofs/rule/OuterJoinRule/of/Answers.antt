-- The operator is a join, and its plan is for these operands.
use Rattle.std.proofs.Common.{◌≡◌, List, length, sym, ap, subst, ◌∙◌}
use Rattle.vtl_values.specs.declared.structure.Component.{Component}
use Rattle.data_set_trees.specs.declared.tree.DataSetOperator.{DataSetOperator}
use Rattle.data_set_trees.specs.declared.tree.DataSetOperator.TheVariants.{Join}
use Rattle.data_set_trees.specs.checked.Operators.{an_operator, IsTyped}
use Rattle.held_index.specs.Wants.{all_whole}
use Rattle.operator_meaning.specs.joins.Joins.{JoinOn, join_on}
use Rattle.operator_meaning.specs.joins.Typed.{IsTypedJoinOn}
use Rattle.outer_joins.specs.Rules.{is_outer, operator_of, wanted_of, IsOuter}
use Rattle.outer_joins.proofs.Asked.{typed-join}
use Rattle.outer_joins.proofs.rule.OuterJoinRule.of.Goals as goal

pub function_of-function-requires : goal.function_of-function-requires
function_of-function-requires c = subst (λ (operator : DataSetOperator). IsOuter operator) (sym c.get.ensures) c.requires.outer

pub of-requires : goal.of-requires
of-requires c =
    let node = c.args.node.now in
    let is : node.operator ≡ Join c.function_of-function.result = sym c.get.ensures ∙ c.function_of-function.ensures.join in
    let typed : IsTyped (operator_of (join_on c.function_of-function.result node.operands node.structure)) = subst (λ (operator : DataSetOperator). IsTyped (an_operator operator node.operands node.structure)) is c.requires.typed in
    subst (λ (ss : List (List Component)). IsTypedJoinOn (join_on c.function_of-function.result ss node.structure)) (sym c.as_slice-operands.ensures) (typed-join (join_on c.function_of-function.result node.operands node.structure) typed)

pub invariant_of-result : goal.invariant_of-result
invariant_of-result c =
    let node = c.args.node.now in
    let is : node.operator ≡ Join c.function_of-function.result = sym c.get.ensures ∙ c.function_of-function.ensures.join in
    let typed : IsTyped (operator_of (join_on c.function_of-function.result node.operands node.structure)) = subst (λ (operator : DataSetOperator). IsTyped (an_operator operator node.operands node.structure)) is c.requires.typed in
    let planned : c.in_ok-plan.plan ≡ join_on c.function_of-function.result node.operands node.structure = c.in_ok-plan.ensures ∙ ap (λ (ss : List (List Component)). join_on c.function_of-function.result ss node.structure) c.as_slice-operands.ensures in
    record {
      typed = subst (λ (j : JoinOn). IsTyped (operator_of j)) (sym planned) typed;
      outer = ap (λ (j : JoinOn). is_outer j.function) planned ∙ c.function_of-function.ensures.outer;
      wanted = c.in_ok-wants.ensures ∙ ap (λ (ss : List (List Component)). all_whole (length ss)) c.as_slice-operands.ensures ∙ sym (ap (λ (j : JoinOn). wanted_of (operator_of j)) planned);
    }
