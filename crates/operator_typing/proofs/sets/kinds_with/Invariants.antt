use Rattle.std.proofs.Common.{◌≡◌, ◌∷◌, true, map, take}
use Rattle.std.specs.List.{list_all}
use Rattle.scalar_trees.specs.Kinds.{literal_kind}
use Rattle.scalar_trees.specs.WellTyped.{in_range}
use Rattle.operator_typing.proofs.sets.kinds_with.Given as goal

abbrev pub invariant-loop-value : goal.invariant-loop-value
invariant-loop-value l = (l.all ≡ l.fn.operand ∷ map literal_kind (take l.value-index l.set)) × (list_all in_range (take l.value-index l.set) ≡ true)
