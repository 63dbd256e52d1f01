use Rattle.std.proofs.Common.{◌≡◌, map, take}
use Rattle.pair_eval.specs.Plans.{viral_called}
use Rattle.join_eval.proofs.virals.places_of.Given as goal

abbrev pub invariant-loop-rest : goal.invariant-loop-rest
invariant-loop-rest l = l.places ≡ map (viral_called l.component.name) (take l.rest-index l.rests)
