use Rattle.vtl_lexer.proofs.TextLemmas.{joined-piece}
use Rattle.vtl_lexer.proofs.lexer.Lexer.read_piece.Goals as goal

pub returns-in_ok-pass-in-Ok-clause-ok : goal.returns-in_ok-pass-in-Ok-clause-ok
returns-in_ok-pass-in-Ok-clause-ok c =
    let old = c.args.self.now in
    let new = c.pass.new.self in
    let passed = c.in_ok-pass-in-Ok.ensures in
    joined-piece old.tokens.items new.tokens.items old.place new.place old.rest.now new.rest.now c.in-Ok.kind c.in-Ok.len c.in-Ok.ensures.piece c.in-Ok.ensures.within passed.tokens passed.place passed.rest
