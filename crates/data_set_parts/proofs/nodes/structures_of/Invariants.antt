use Rattle.std.proofs.Common.{◌≡◌, ◌++◌, drop}
use Rattle.data_set_parts.specs.Results.{structures_of}
use Rattle.data_set_parts.proofs.nodes.structures_of.Given as goal

abbrev pub invariant-loop-operand : goal.invariant-loop-operand
invariant-loop-operand l = structures_of l.operands ≡ l.found ++ structures_of (drop l.operand-index l.operands)
