use Rattle.std.proofs.Common.{subst}
use Rattle.data_set_trees.specs.checked.Operators.{Operator}
use Rattle.cross_joins.specs.Rules.{IsCrossOn}
use Rattle.cross_joins.proofs.rule.CrossJoinRule.plan.Goals as goal

pub returns : goal.returns
returns c = subst (λ (o : Operator). IsCrossOn o c.self.inside.plan) c.self.view_is c.self.invariant.join
