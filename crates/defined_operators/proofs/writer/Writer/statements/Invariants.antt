use Rattle.std.proofs.Common.{◌≡◌, map, take}
use Rattle.replaced_calls.specs.Scripts.{statement_with}
use Rattle.defined_operators.specs.Writers.{writes}
use Rattle.defined_operators.proofs.writer.Writer.statements.Given as goal

abbrev pub invariant-loop-statement : goal.invariant-loop-statement
invariant-loop-statement l = l.made ≡ map (statement_with (writes l.self)) (take l.statement-index l.statements)
