use Rattle.std.proofs.Common.{◌≡◌, take}
use Rattle.replaced_calls.specs.Replacing.{sorted_from}
use Rattle.defined_operators.proofs.sorts.sorted_arguments.Given as goal

abbrev pub invariant-loop-i : goal.invariant-loop-i
invariant-loop-i l = l.made ≡ sorted_from l.params 0 (take l.i l.arguments)
