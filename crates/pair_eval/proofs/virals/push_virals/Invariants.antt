use Rattle.std.proofs.Common.{◌≡◌, ◌++◌, map, take}
use Rattle.pair_eval.specs.Plans.{value_of_places}
use Rattle.pair_eval.proofs.virals.push_virals.Given as goal

abbrev pub invariant-loop-places : goal.invariant-loop-places
invariant-loop-places l = l.values ≡ l.fn.values ++ map (value_of_places (l.left.key ++ l.left.rest) (l.right.key ++ l.right.rest)) (take l.places-index l.attributes)
