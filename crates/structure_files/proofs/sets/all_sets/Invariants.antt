use Rattle.std.proofs.Common.{◌≡◌, Ok, map, take}
use Rattle.serde_json.specs.View.{view}
use Rattle.structure_files.specs.Reading.{next_set}
use Rattle.structure_files.specs.Refusals.{one_by_one}
use Rattle.structure_files.proofs.sets.all_sets.Given as goal

abbrev pub invariant-loop-value : goal.invariant-loop-value
invariant-loop-value l = one_by_one next_set (map view (take l.value-index l.values)) ≡ Ok l.structures
