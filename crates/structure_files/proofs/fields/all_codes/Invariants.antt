use Rattle.std.proofs.Common.{◌≡◌, Ok, map, take}
use Rattle.serde_json.specs.View.{view}
use Rattle.structure_files.specs.Fields.{next_code}
use Rattle.structure_files.specs.Refusals.{one_by_one}
use Rattle.structure_files.proofs.fields.all_codes.Given as goal

abbrev pub invariant-loop-value : goal.invariant-loop-value
invariant-loop-value l = one_by_one (next_code l.path) (map view (take l.value-index l.values)) ≡ Ok l.codes
