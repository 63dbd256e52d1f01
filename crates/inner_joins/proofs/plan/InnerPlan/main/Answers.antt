use Rattle.std.proofs.Common.{◌<◌, length, sym, ap, subst, ◌∙◌}
use Rattle.operator_meaning.specs.joins.Joins.{JoinOn}
use Rattle.inner_joins.specs.Rules.{main_number, IsInnerOn}
use Rattle.inner_joins.proofs.Keys.{main-within}
use Rattle.inner_joins.proofs.plan.InnerPlan.main.Goals as goal

pub returns-clause-number : goal.returns-clause-number
returns-clause-number c = c.self.invariant.main_is ∙ ap main_number c.self.view_is

pub returns-clause-within : goal.returns-clause-within
returns-clause-within c =
    subst (λ (j : JoinOn). c.self.inside.main < length j.operands) c.self.view_is
    (subst (λ n. n < length c.self.inside.join.operands) (sym c.self.invariant.main_is) (main-within c.self.inside.join c.self.invariant.join))

pub returns-clause-inner : goal.returns-clause-inner
returns-clause-inner c = subst (λ (j : JoinOn). IsInnerOn j) c.self.view_is c.self.invariant.join
