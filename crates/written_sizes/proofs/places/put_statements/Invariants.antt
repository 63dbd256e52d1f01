use Rattle.std.proofs.Common.{◌≡◌, ◌++◌, map, take}
use Rattle.written_sizes.specs.Places.{of_statement}
use Rattle.written_sizes.proofs.places.put_statements.Given as goal

abbrev pub invariant-loop-statement : goal.invariant-loop-statement
invariant-loop-statement l = l.out ≡ l.initial.out ++ map of_statement (take l.statement-index l.statements)
