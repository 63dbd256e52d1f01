use Rattle.std.proofs.Common.{◌≡◌, drop}
use Rattle.expression_rules.specs.OnRules.{datapoint_called}
use Rattle.statement_typing.proofs.on_rules.datapoint_called.Given as goal

abbrev pub invariant-loop-ruleset : goal.invariant-loop-ruleset
invariant-loop-ruleset l = datapoint_called l.rulesets l.name ≡ datapoint_called (drop l.ruleset-index l.rulesets) l.name
