use Rattle.std.proofs.Common.{◌≡◌, ◌++◌, drop, map}
use Rattle.structured_sets.specs.Fitting.{is_identifier}
use Rattle.revision_judge.specs.Fields.{Cell, key_fields}
use Rattle.revision_judge.proofs.Cells.{chosen}
use Rattle.revision_judge.proofs.fields.key_fields.Given as goal

abbrev pub invariant-loop-n : goal.invariant-loop-n
invariant-loop-n l = key_fields l.components l.fields ≡ l.key.items ++ map (λ (cell : Cell). cell.1) (chosen is_identifier (drop l.n l.components) (drop l.n l.fields))
