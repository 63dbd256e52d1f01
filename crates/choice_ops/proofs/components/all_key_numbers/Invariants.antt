use Rattle.std.proofs.Common.{◌≡◌, map, take}
use Rattle.choice_ops.specs.Plans.{key_numbers}
use Rattle.choice_ops.proofs.components.all_key_numbers.Given as goal

abbrev pub invariant-loop-structure : goal.invariant-loop-structure
invariant-loop-structure l = l.all ≡ map (key_numbers l.first) (take l.structure-index l.operands)
