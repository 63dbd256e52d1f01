use Rattle.std.proofs.Common.{List, length, ap, arith}
use Rattle.vtl_values.specs.declared.structure.Component.{Component}
use Rattle.inner_joins.proofs.Keys.{main-within}
use Rattle.inner_joins.proofs.plan.InnerPlan.others.Goals as goal

pub overflow_sub-result : goal.overflow_sub-result
overflow_sub-result c =
    let inside = main-within c.self.inside.join c.self.invariant.join in
    let all = ap (λ (ss : List (List Component)). length ss) c.operands.ensures in
    omega (arith, inside, all)
