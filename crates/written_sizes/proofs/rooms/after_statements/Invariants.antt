use Rattle.std.proofs.Common.{◌≡◌, drop, map}
use Rattle.operator_faults.specs.Sketches.{of_statement}
use Rattle.written_sizes.specs.Rooms.{room_after_all}
use Rattle.written_sizes.proofs.rooms.after_statements.Given as goal

abbrev pub invariant-loop-statement : goal.invariant-loop-statement
invariant-loop-statement l = room_after_all 64 l.initial.left (map of_statement l.statements) ≡ room_after_all 64 l.left (map of_statement (drop l.statement-index l.statements))
