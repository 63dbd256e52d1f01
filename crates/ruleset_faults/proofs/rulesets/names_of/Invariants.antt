use Rattle.std.proofs.Common.{◌≡◌, ◌++◌, map, drop}
use Rattle.data_set_trees.specs.rules.Rules.{name_in_rules}
use Rattle.ruleset_faults.proofs.rulesets.names_of.Given as goal

abbrev pub invariant-loop-variable : goal.invariant-loop-variable
invariant-loop-variable l = map name_in_rules l.variables ≡ l.names.items ++ map name_in_rules (drop l.variable-index l.variables)
