use Rattle.std.proofs.Common.{◌≡◌, ◌++◌, map, take}
use Rattle.point_sets.specs.Changes.{values_of}
use Rattle.join_eval.specs.Made.{combined_value}
use Rattle.join_eval.proofs.virals.push_virals.Given as goal

abbrev pub invariant-loop-attribute : goal.invariant-loop-attribute
invariant-loop-attribute l = l.values ≡ l.fn.values ++ map (combined_value (map values_of l.points)) (take l.attribute-index l.attributes)
