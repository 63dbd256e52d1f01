use Rattle.std.proofs.Common.{◌≡◌, drop}
use Rattle.expression_rules.specs.OnRules.{hierarchy_called}
use Rattle.statement_typing.proofs.on_rules.hierarchy_called.Given as goal

abbrev pub invariant-loop-ruleset : goal.invariant-loop-ruleset
invariant-loop-ruleset l = hierarchy_called l.rulesets l.name ≡ hierarchy_called (drop l.ruleset-index l.rulesets) l.name
