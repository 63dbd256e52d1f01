use Rattle.std.proofs.Common.{◌≡◌, map, take}
use Rattle.scalar_trees.specs.Kinds.{widened_value}
use Rattle.operator_typing.proofs.sets.widened_values.Given as goal

abbrev pub invariant-loop-value : goal.invariant-loop-value
invariant-loop-value l = l.values ≡ map (widened_value l.wanted) (take l.value-index l.set)
