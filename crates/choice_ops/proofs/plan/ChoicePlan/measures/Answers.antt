use Rattle.std.proofs.Common.{◌≡◌, List, [], map, ap, subst, ◌∙◌}
use Rattle.scalar_meaning.specs.Rows.{point_row}
use Rattle.scalar_eval.specs.Stops.{IsMeant}
use Rattle.clause_meaning.specs.Clauses.{values_on}
use Rattle.data_set_trees.specs.declared.tree.ChoiceMeasure.{ChoiceMeasure}
use Rattle.data_set_trees.specs.checked.Operators.{Operator}
use Rattle.operator_meaning.specs.choices.Choices.{value_in}
use Rattle.choice_ops.specs.Plans.{measures_in}
use Rattle.choice_ops.proofs.plan.ChoicePlan.measures.Goals as goal

pub returns-in-None : goal.returns-in-None
returns-in-None c =
    let ms : c.measures_of-measures.result.now ≡ measures_in c.args.self.now.operator = c.measures_of-measures.ensures ∙ ap measures_in (c.get.ensures ∙ ap (λ (o : Operator). o.operator) c.self.view_is) in
    rw c.in-None.is (subst (λ (qs : List ChoiceMeasure). IsMeant (values_on (point_row [] []) (map (value_in c.args.truth) qs)) c.measure_values.result) ms c.measure_values.ensures)
