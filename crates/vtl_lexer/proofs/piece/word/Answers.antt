use Rattle.std.proofs.Common.{take, sym, subst}
use Rattle.std.specs.Str.{IsAscii}
use Rattle.vtl_lexer.proofs.PieceLemmas.{word-IsAscii}
use Rattle.vtl_lexer.proofs.piece.word.Goals as goal

pub ascii-word-requires : goal.ascii-word-requires
ascii-word-requires c = subst (λ n. IsAscii (take n c.args.text.now)) (sym c.word_len-len.ensures.len) (word-IsAscii c.args.text.now)
