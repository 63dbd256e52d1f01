use Rattle.std.proofs.Common.{◌≡◌, map, take}
use Rattle.std.specs.Option.{option_copied}
use Rattle.point_sets.specs.DataSets.{entry_of}
use Rattle.choice_ops.specs.Plans.{all_of, chosen_entry, value_of_places}
use Rattle.choice_ops.proofs.values.viral_values.Given as goal

abbrev pub invariant-loop-places : goal.invariant-loop-places
invariant-loop-places l = l.values ≡ map (value_of_places l.truth (all_of (entry_of l.own)) (all_of (chosen_entry (option_copied l.chosen)))) (take l.places-index l.attributes)
