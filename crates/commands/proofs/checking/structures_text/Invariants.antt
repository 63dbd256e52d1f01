use Rattle.std.proofs.Common.{◌≡◌, take}
use Rattle.std.specs.List.{flat_map}
use Rattle.commands.specs.Checking.{statement_line}
use Rattle.commands.proofs.checking.structures_text.Given as goal

abbrev pub invariant-loop-statement : goal.invariant-loop-statement
invariant-loop-statement l = l.text.items ≡ flat_map statement_line (take l.statement-index l.statements)
