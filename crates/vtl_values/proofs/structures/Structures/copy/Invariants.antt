use Rattle.std.proofs.Common.{◌≡◌, ◌-◌, ◌≤◌, length, take}
use Rattle.vtl_values.proofs.structures.Structures.copy.Given as goal

abbrev pub invariant-loop-name : goal.invariant-loop-name
invariant-loop-name l = record { so_far : l.copies ≡ take (length l.copies) l.self; within : length l.copies ≤ length l.self }

abbrev pub decreases-loop-name : goal.decreases-loop-name
decreases-loop-name l = length l.self - length l.copies
