use Rattle.std.proofs.Common.{refl, sym, subst}
use Rattle.operator_meaning.specs.joins.Joins.{JoinOn}
use Rattle.inner_joins.specs.Rules.{IsInnerOn}
use Rattle.inner_joins.proofs.plan.InnerPlan.of.Goals as goal

pub invariant_of-result : goal.invariant_of-result
invariant_of-result c = record { join = subst (λ (j : JoinOn). IsInnerOn j) (sym c.in_ok-join.ensures) (record { inner = refl; typed = c.requires }); main_is = c.first_whole-main.ensures }
