use Rattle.std.proofs.Common.{◌≡◌, true, take}
use Rattle.std.specs.List.{list_all}
use Rattle.scalar_trees.specs.WellTyped.{in_range}
use Rattle.literal_ranges.proofs.literals.see_values.Given as goal

abbrev pub invariant-loop-value : goal.invariant-loop-value
invariant-loop-value l = list_all in_range (take l.value-index l.values) ≡ true
