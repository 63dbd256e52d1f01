use Rattle.std.proofs.Common.{ap, ◌∙◌}
use Rattle.data_set_trees.specs.checked.Operators.{Operator}
use Rattle.inner_joins.specs.Rules.{wanted_of}
use Rattle.inner_joins.proofs.rule.InnerJoinRuleDeltaRule.wants.Goals as goal

pub returns : goal.returns
returns c = c.as_slice.ensures ∙ c.self.invariant.wanted ∙ ap (λ (o : Operator). wanted_of o) c.self.view_is
