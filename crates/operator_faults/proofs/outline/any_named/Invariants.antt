use Rattle.std.proofs.Common.{◌≡◌, drop}
use Rattle.std.specs.List.{list_any}
use Rattle.operator_faults.specs.Outlines.{has_name}
use Rattle.operator_faults.proofs.outline.any_named.Given as goal

abbrev pub invariant-loop-part : goal.invariant-loop-part
invariant-loop-part l = list_any has_name l.parts ≡ list_any has_name (drop l.part-index l.parts)
