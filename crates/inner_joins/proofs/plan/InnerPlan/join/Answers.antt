use Rattle.std.proofs.Common.{subst}
use Rattle.operator_meaning.specs.joins.Joins.{JoinOn}
use Rattle.inner_joins.specs.Rules.{IsInnerOn}
use Rattle.inner_joins.proofs.plan.InnerPlan.join.Goals as goal

pub returns-clause-inner : goal.returns-clause-inner
returns-clause-inner c = subst (λ (j : JoinOn). IsInnerOn j) c.self.view_is c.self.invariant.join
