use Rattle.std.proofs.Common.{sym, ◌∙◌}
use Rattle.vtl_lexer.proofs.ReadTokens.{read_are}
use Rattle.vtl_lexer.proofs.lexer.tokens.Goals as goal

pub returns-clause-of_text : goal.returns-clause-of_text
returns-clause-of_text c = read_are c.args.text.now c.in_ok-finish.field-0.items (sym c.loop-alloc.invariant ∙ c.in_ok-finish.ensures)
