use Rattle.std.proofs.Common.{◌<◌, length, sym, ap, subst, ◌∙◌}
use Rattle.std.proofs.lemmas.Result.{IfOk-weaker}
use Rattle.operator_meaning.specs.joins.Joins.{JoinOn, join_key}
use Rattle.join_eval.specs.Plans.{structure_of}
use Rattle.inner_joins.specs.Rules.{key_from, IsInnerOn}
use Rattle.inner_joins.proofs.Keys.{main-within}
use Rattle.inner_joins.proofs.plan.InnerPlan.key_from.Goals as goal

pub join_key-requires : goal.join_key-requires
join_key-requires c = subst (λ n. n < length c.self.inside.join.operands) (sym c.self.invariant.main_is) (main-within c.self.inside.join c.self.invariant.join)

pub returns-clause-key : goal.returns-clause-key
returns-clause-key c =
    IfOk-weaker c.join_key.result _ _
    (λ key is. is ∙ ap (λ n. join_key c.self.inside.join (structure_of c.self.inside.join n) c.args.own.now) c.self.invariant.main_is ∙ ap (λ (j : JoinOn). key_from j c.args.own.now) c.self.view_is)
    c.join_key.ensures

pub returns-clause-inner : goal.returns-clause-inner
returns-clause-inner c = subst (λ (j : JoinOn). IsInnerOn j) c.self.view_is c.self.invariant.join
