use Rattle.std.proofs.Common.{◌≡◌, map, take}
use Rattle.operator_faults.specs.Sketches.{of_statement}
use Rattle.operator_faults.proofs.sketch.statements.Given as goal

abbrev pub invariant-loop-statement : goal.invariant-loop-statement
invariant-loop-statement l = l.outlines ≡ map of_statement (take l.statement-index l.statements)
