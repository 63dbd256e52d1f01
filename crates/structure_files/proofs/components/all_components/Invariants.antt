use Rattle.std.proofs.Common.{◌≡◌, Ok, map, take}
use Rattle.serde_json.specs.View.{view}
use Rattle.structure_files.specs.Reading.{next_component}
use Rattle.structure_files.specs.Refusals.{one_by_one}
use Rattle.vtl_values.specs.Structures.{IsStructure}
use Rattle.structure_files.proofs.components.all_components.Given as goal

abbrev pub invariant-loop-value : goal.invariant-loop-value
invariant-loop-value l = record {
  so_far : one_by_one (next_component l.set) (map view (take l.value-index l.values)) ≡ Ok l.components.items;
  structure : IsStructure l.components.items;
}
