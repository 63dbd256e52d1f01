use Rattle.std.proofs.Common.{◌≡◌, drop}
use Rattle.structured_sets.specs.Fitting.{is_identifier}
use Rattle.revision_judge.specs.Fields.{values_in, key_cells}
use Rattle.revision_judge.proofs.Cells.{behind, chosen}
use Rattle.revision_judge.proofs.fields.key_in.Given as goal

abbrev pub invariant-loop-n : goal.invariant-loop-n
invariant-loop-n l = values_in (key_cells l.components l.fields) ≡ behind l.values.items (values_in (chosen is_identifier (drop l.n l.components) (drop l.n l.fields)))
