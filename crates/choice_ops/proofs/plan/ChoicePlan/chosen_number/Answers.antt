use Rattle.std.proofs.Common.{◌≡◌, ◌<◌, ℕ, length, Option, IfSome, sym, ap, subst, ◌∙◌}
use Rattle.data_set_trees.specs.declared.tree.DataSetOperator.{DataSetOperator}
use Rattle.data_set_trees.specs.checked.Operators.{Operator, an_operator}
use Rattle.operator_meaning.specs.choices.Choices.{chosen_number}
use Rattle.choice_ops.specs.Plans.{choice_in}
use Rattle.choice_ops.proofs.Places.{chosen-within}
use Rattle.choice_ops.proofs.plan.ChoicePlan.chosen_number.Goals as goal

pub returns-clause-within : goal.returns-clause-within
returns-clause-within c =
    let r = c.self.inside in
    let own : Operator = an_operator r.operator r.operands r.structure in
    let is : c.chosen_number.result ≡ chosen_number (choice_in own) c.args.truth =
    c.chosen_number.ensures r.operands r.structure ∙ ap (λ (d : DataSetOperator). chosen_number (choice_in (an_operator d r.operands r.structure)) c.args.truth) c.get.ensures in
    subst (λ (q : Operator). IfSome c.chosen_number.result (λ n. n < length q.operands)) c.self.view_is
    (subst (λ (o : Option ℕ). IfSome o (λ n. n < length own.operands)) (sym is) (chosen-within (choice_in own) c.args.truth c.self.invariant.typed.choice))
