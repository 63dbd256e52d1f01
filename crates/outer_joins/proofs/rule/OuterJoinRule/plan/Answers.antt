use Rattle.std.proofs.Common.{sym}
use Rattle.outer_joins.proofs.rule.OuterJoinRule.plan.Goals as goal

pub returns-clause-operator : goal.returns-clause-operator
returns-clause-operator c = sym c.self.view_is
