-- The rule of `exists_in` may be sent to threads and shared by them. For a type above that holds one:
-- `search (rule_send, rule_sync, crosses, sendable)`, with `crosses` of `Rattle.std.proofs.Crossing`.
use Rattle.std.proofs.Crossing.{crosses}
use denote.Param.Send.{IsSend, IsSync, sendable}
use denote.Param.SendFields.{declared_send, declared_sync}
use Rattle.vtl_values.proofs.structure.Structure.TheSendSync as structure
use Rattle.exists_ops.specs.contracts.rule.ExistsRule as Rule
use Rattle.exists_ops.specs.contracts.rule.ExistsRule.TheInside as RuleInside

rule_inside_send : IsSend RuleInside.the_row
rule_inside_send = declared_send RuleInside.the_type (search (structure.the_send, crosses, sendable) depth 40)

rule_inside_sync : IsSync RuleInside.the_row
rule_inside_sync = declared_sync RuleInside.the_type (search (structure.the_sync, crosses, sendable) depth 40)

pub rule_send : IsSend Rule.the_row
rule_send = search (rule_inside_send, sendable)

pub rule_sync : IsSync Rule.the_row
rule_sync = search (rule_inside_sync, sendable)
