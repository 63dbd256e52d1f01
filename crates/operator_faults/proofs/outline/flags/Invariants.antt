use Rattle.std.proofs.Common.{◌≡◌, map, take}
use Rattle.operator_faults.specs.Outlines.{has_name}
use Rattle.operator_faults.proofs.outline.flags.Given as goal

abbrev pub invariant-loop-part : goal.invariant-loop-part
invariant-loop-part l = l.flags ≡ map has_name (take l.part-index l.parts)
