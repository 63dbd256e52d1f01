use Rattle.std.proofs.Common.{ap, ◌∙◌}
use Rattle.data_set_trees.specs.checked.Operators.{Operator}
use Rattle.set_ops.specs.Readings.{readings_of}
use Rattle.set_ops.proofs.rule.SetRule.readings.Goals as goal

pub returns : goal.returns
returns c = c.as_slice.ensures ∙ c.self.invariant.read ∙ ap (λ (o : Operator). readings_of o.operands o.structure) c.self.view_is
