use Rattle.std.proofs.Common.{◌≡◌, map, take}
use Rattle.join_eval.specs.Plans.{side_of}
use Rattle.join_eval.proofs.sides.sides_of.Given as goal

abbrev pub invariant-loop-operand : goal.invariant-loop-operand
invariant-loop-operand l = l.sides ≡ map (side_of l.keys l.operands) (take l.operand-index l.operands)
