-- The rule of an inner join may be sent to threads and shared by them. For a type above that holds one:
-- `search (rule_send, rule_sync, crosses, sendable)`, with `crosses` of `Rattle.std.proofs.Crossing`.
use Rattle.std.proofs.Crossing.{crosses}
use denote.Param.Send.{IsSend, IsSync, sendable}
use denote.Param.SendFields.{declared_send, declared_sync}
use Rattle.data_set_trees.proofs.Sendable.{operator_send, operator_sync}
use Rattle.join_eval.proofs.Shared as join
use Rattle.inner_joins.specs.contracts.plan.InnerPlan as Plan
use Rattle.inner_joins.specs.contracts.plan.InnerPlan.TheInside as PlanInside
use Rattle.inner_joins.specs.contracts.rule.InnerJoinRule as Rule
use Rattle.inner_joins.specs.contracts.rule.InnerJoinRule.TheInside as RuleInside

-- ---- the plan

plan_inside_send : IsSend PlanInside.the_row
plan_inside_send = declared_send PlanInside.the_type (search (join.plan_send, crosses, sendable) depth 40)

plan_inside_sync : IsSync PlanInside.the_row
plan_inside_sync = declared_sync PlanInside.the_type (search (join.plan_sync, crosses, sendable) depth 40)

plan_send : IsSend Plan.the_row
plan_send = search (plan_inside_send, sendable)

plan_sync : IsSync Plan.the_row
plan_sync = search (plan_inside_sync, sendable)

-- ---- the rule

rule_inside_send : IsSend RuleInside.the_row
rule_inside_send = declared_send RuleInside.the_type (search (operator_send, plan_send, crosses, sendable) depth 40)

rule_inside_sync : IsSync RuleInside.the_row
rule_inside_sync = declared_sync RuleInside.the_type (search (operator_sync, plan_sync, crosses, sendable) depth 40)

pub rule_send : IsSend Rule.the_row
rule_send = search (rule_inside_send, sendable)

pub rule_sync : IsSync Rule.the_row
rule_sync = search (rule_inside_sync, sendable)
