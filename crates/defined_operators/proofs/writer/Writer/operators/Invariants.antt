use Rattle.std.proofs.Common.{◌≡◌, map, take}
use Rattle.defined_operators.specs.Writers.{writes, operator_with}
use Rattle.defined_operators.proofs.writer.Writer.operators.Given as goal

abbrev pub invariant-loop-operator : goal.invariant-loop-operator
invariant-loop-operator l = l.made ≡ map (operator_with (writes l.self)) (take l.operator-index l.operators)
