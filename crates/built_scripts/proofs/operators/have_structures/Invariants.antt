use Rattle.std.proofs.Common.{take}
use Rattle.std.specs.List.{All}
use Rattle.vtl_values.specs.Structures.{IsStructure}
use Rattle.built_scripts.proofs.operators.have_structures.Given as goal

abbrev pub invariant-loop-operand : goal.invariant-loop-operand
invariant-loop-operand l = All IsStructure (take l.operand-index l.operands)
