use Rattle.std.proofs.Common.{false, Option, sym, ap, ◌∙◌}
use Rattle.std.specs.Option.{option_map_or}
use Rattle.vtl_values.specs.declared.value.Value.{Value}
use Rattle.scalar_meaning.specs.Logic.{holds}
use Rattle.data_set_trees.specs.checked.Operators.{Operator, an_operator}
use Rattle.point_sets.specs.DataSets.{entry_of}
use Rattle.operator_meaning.specs.choices.Choices.{is_true_in}
use Rattle.choice_ops.specs.Plans.{choice_in, all_of}
use Rattle.choice_ops.proofs.Places.{true-placed}
use Rattle.choice_ops.proofs.plan.ChoicePlan.is_true_in.Goals as goal

pub returns : goal.returns
returns c =
    let values = all_of (entry_of c.args.point.now) in
    let own : Operator = an_operator c.self.inside.operator c.self.inside.operands c.self.inside.structure in
    c.holds.ensures ∙ ap (λ (o : Option Value). option_map_or holds o false) c.value_with.ensures
    ∙ sym (true-placed (choice_in own) c.self.inside.test values c.self.invariant.test_is)
    ∙ ap (λ (o : Operator). is_true_in (choice_in o) values) c.self.view_is
