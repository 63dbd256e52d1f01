use Rattle.std.proofs.Common.{◌≡◌, true, All, take}
use Rattle.vtl_syntax.specs.declared.script.Statement.{Statement}
use Rattle.literal_ranges.specs.Ranges.{literals_in_range}
use Rattle.script_typing.proofs.script.see_statements.Given as goal

abbrev pub invariant-loop-statement : goal.invariant-loop-statement
invariant-loop-statement l = All (λ (t : Statement). literals_in_range t.expr ≡ true) (take l.statement-index l.statements)
