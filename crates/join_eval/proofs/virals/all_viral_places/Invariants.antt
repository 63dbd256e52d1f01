use Rattle.std.proofs.Common.{◌≡◌, map, take}
use Rattle.join_eval.specs.Plans.{viral_places_of}
use Rattle.join_eval.proofs.virals.all_viral_places.Given as goal

abbrev pub invariant-loop-component : goal.invariant-loop-component
invariant-loop-component l = l.all ≡ map (viral_places_of l.rests) (take l.component-index l.component-items)
