use Rattle.std.proofs.Common.{◌≡◌, ◌++◌, drop, option_map}
use Rattle.set_typing.specs.Plans.{all_structures}
use Rattle.set_typing.proofs.collections.all_structures.Given as goal

abbrev pub invariant-loop-operand : goal.invariant-loop-operand
invariant-loop-operand l = all_structures l.operands ≡ option_map (λ ss. l.found ++ ss) (all_structures (drop l.operand-index l.operands))
