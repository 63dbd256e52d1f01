use Rattle.std.proofs.Common.{◌≡◌, length}
use Rattle.vtl_lexer.specs.Texts.{joined, tokens_from, tokens_of}
use Rattle.vtl_lexer.proofs.lexer.tokens.Given as goal

abbrev pub invariant-loop-alloc : goal.invariant-loop-alloc
invariant-loop-alloc l = joined l.lexer.tokens.items (tokens_from 0 l.lexer.place l.lexer.rest.now) ≡ tokens_of l.text

abbrev pub decreases-loop-alloc : goal.decreases-loop-alloc
decreases-loop-alloc l = length l.lexer.rest.now
