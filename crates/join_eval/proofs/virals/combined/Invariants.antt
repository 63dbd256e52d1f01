use Rattle.std.proofs.Common.{◌≡◌, map, drop}
use Rattle.std.specs.Prelude.{unwrap_or}
use Rattle.std.specs.Option.{option_copied}
use Rattle.vtl_values.specs.declared.value.Value.TheVariants.{Null}
use Rattle.point_sets.specs.Changes.{values_of}
use Rattle.operator_meaning.specs.pairs.Pairs.{codes_of}
use Rattle.join_eval.proofs.Values.{best_from}
use Rattle.join_eval.proofs.virals.combined.Given as goal

-- the best of all values is that of what was met and of the values from here on
abbrev pub invariant-loop-i : goal.invariant-loop-i
invariant-loop-i l = best_from (codes_of l.attribute.codes) Null l.attribute.places (map values_of l.points) ≡ best_from (codes_of l.attribute.codes) (unwrap_or (option_copied l.best) Null) (drop l.i l.attribute.places) (drop l.i (map values_of l.points))
