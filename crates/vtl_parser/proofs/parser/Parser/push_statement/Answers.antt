use Rattle.std.proofs.lemmas.Result.{err_from_is_err_and}
use Rattle.vtl_grammar.specs.Scripts.{a_statement}
use Rattle.vtl_cursor.proofs.Shown.{fails-too}
use Rattle.vtl_parser.proofs.Pieces.{piece-goes, piece-halts}
use Rattle.vtl_parser.proofs.parser.Parser.push_statement.Goals as goal

pub returns-in_err-statement : goal.returns-in_err-statement
returns-in_err-statement g c =
    let p = err_from_is_err_and c.from_residual.result c.from_residual.ensures.1 in
    rw (p.1, p.2) (fails-too c.in_err-statement.field-0.0 c.statement.new.cursor.tokens.now _ _
    (λ k is. piece-halts c.args.self.now.depth c.args.script.now a_statement c.args.cursor.now.tokens.now c.requires.begins.1.0 c.requires.some c.requires.begins.1.1 k c.statement.new.cursor.tokens.now is)
    c.in_err-statement.ensures)

pub returns : goal.returns
returns g c = rw c.in_ok-push.ensures.ok
    (piece-goes c.args.self.now.depth c.args.script.now a_statement c.args.cursor.now.tokens.now c.requires.begins.1.0 c.requires.some c.requires.begins.1.1 c.in_ok-statement.statement _ c.statement.new.cursor.tokens.now c.requires.begins.0 c.requires.few c.in_ok-statement.ensures)
