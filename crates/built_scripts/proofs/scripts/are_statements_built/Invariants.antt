use Rattle.std.proofs.Common.{◌≡◌, true, take}
use Rattle.std.specs.List.{All, list_all}
use Rattle.built_scripts.specs.Built.{is_statement_built, IsStatementStructured}
use Rattle.built_scripts.proofs.scripts.are_statements_built.Given as goal

abbrev pub invariant-loop-statement : goal.invariant-loop-statement
invariant-loop-statement l = record {
  built : list_all is_statement_built (take l.statement-index l.statements) ≡ true;
  structured : All IsStatementStructured (take l.statement-index l.statements);
}
