-- The rule of a left or full join may be sent to threads and shared by them. For a type above that holds one:
-- `search (rule_send, rule_sync, crosses, sendable)`, with `crosses` of `Rattle.std.proofs.Crossing`.
use Rattle.std.proofs.Crossing.{crosses}
use denote.Param.Send.{IsSend, IsSync, sendable}
use denote.Param.SendFields.{declared_send, declared_sync}
use Rattle.join_eval.proofs.Shared.{plan_send, plan_sync}
use Rattle.outer_joins.specs.contracts.rule.OuterJoinRule as Rule
use Rattle.outer_joins.specs.contracts.rule.OuterJoinRule.TheInside as RuleInside

rule_inside_send : IsSend RuleInside.the_row
rule_inside_send = declared_send RuleInside.the_type (search (plan_send, crosses, sendable) depth 40)

rule_inside_sync : IsSync RuleInside.the_row
rule_inside_sync = declared_sync RuleInside.the_type (search (plan_sync, crosses, sendable) depth 40)

pub rule_send : IsSend Rule.the_row
rule_send = search (rule_inside_send, sendable)

pub rule_sync : IsSync Rule.the_row
rule_sync = search (rule_inside_sync, sendable)
