use Rattle.std.proofs.Common.{◌≡◌}
use Rattle.defined_operators.specs.Uses.{levels_to}
use Rattle.defined_operators.proofs.uses.levels_to.Given as goal

abbrev pub invariant-loop-level : goal.invariant-loop-level
invariant-loop-level l = l.levels ≡ levels_to l.operators l.level
