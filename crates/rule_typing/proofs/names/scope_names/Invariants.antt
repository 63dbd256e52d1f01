use Rattle.std.proofs.Common.{◌≡◌, ◌++◌, drop}
use Rattle.std.specs.Prelude.{filter_map}
use Rattle.rule_typing.specs.Named.{variable_on}
use Rattle.rule_typing.proofs.names.scope_names.Given as goal

abbrev pub invariant-loop-variable : goal.invariant-loop-variable
invariant-loop-variable l = filter_map (variable_on l.frame) l.variables ≡ l.names ++ filter_map (variable_on l.frame) (drop l.variable-index l.variables)
