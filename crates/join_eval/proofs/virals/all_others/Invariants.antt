use Rattle.std.proofs.Common.{◌≡◌, map, take}
use Rattle.structured_sets.specs.Fitting.{others}
use Rattle.join_eval.proofs.virals.all_others.Given as goal

abbrev pub invariant-loop-operand : goal.invariant-loop-operand
invariant-loop-operand l = l.all ≡ map others (take l.operand-index l.operands)
