use Rattle.std.proofs.Common.{◌≡◌, drop, not}
use Rattle.structured_sets.specs.Fitting.{is_identifier}
use Rattle.revision_judge.specs.Fields.{values_in, rest_cells}
use Rattle.revision_judge.proofs.Cells.{behind, chosen}
use Rattle.revision_judge.proofs.fields.rest_in.Given as goal

abbrev pub invariant-loop-n : goal.invariant-loop-n
invariant-loop-n l = values_in (rest_cells l.components l.fields) ≡ behind l.values.items (values_in (chosen (λ c. not (is_identifier c)) (drop l.n l.components) (drop l.n l.fields)))
