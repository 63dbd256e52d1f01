use Rattle.std.proofs.Common.{◌≡◌, ◌++◌, map, drop}
use Rattle.std.specs.Prelude.{zip}
use Rattle.std.specs.List.{flat_map}
use Rattle.point_sets.specs.Changes.{values_of}
use Rattle.join_eval.specs.Made.{measures_there}
use Rattle.join_eval.proofs.points.joined_values.Given as goal

abbrev pub invariant-loop-i : goal.invariant-loop-i
invariant-loop-i l = flat_map (λ q. measures_there q.0 q.1) (zip l.sides (map values_of l.points)) ≡ l.values ++ flat_map (λ q. measures_there q.0 q.1) (zip (drop l.i l.sides) (map values_of (drop l.i l.points)))
