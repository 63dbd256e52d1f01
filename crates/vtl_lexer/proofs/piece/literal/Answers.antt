use Rattle.std.proofs.Common.{◌≡◌, ◌+◌, true, take, ap, sym, subst, ◌∙◌}
use Rattle.std.specs.Str.{IsAscii}
use Rattle.vtl_lexer.specs.Answers.{Gives}
use Rattle.vtl_lexer.specs.Scans.{has_decimals, digits_len, number_len}
use Rattle.vtl_lexer.proofs.PieceLemmas.{digits-IsAscii, number-IsAscii, number_len-is, number_piece-is}
use Rattle.vtl_lexer.proofs.ScanLemmas.{rest-is}
use Rattle.vtl_lexer.proofs.piece.literal.Goals as goal

pub integer_piece-requires-clause-ascii : goal.integer_piece-requires-clause-ascii
integer_piece-requires-clause-ascii c = subst (λ n. IsAscii (take n c.args.text.now)) (sym c.digits_len-whole.ensures.len) (digits-IsAscii c.args.text.now)

pub number_piece-requires-clause-ascii : goal.number_piece-requires-clause-ascii
number_piece-requires-clause-ascii c =
    let text = c.args.text.now in
    let decimals : has_decimals text ≡ true = sym c.has_decimals.ensures ∙ c.if-not-has_decimals.false in
    let all : c.digits_len-whole.result + 1 + c.digits_len.result ≡ number_len text = number_len-is text c.digits_len-whole.result c.digits_len.result c.digits_len-whole.ensures.len (c.digits_len.ensures.len ∙ ap digits_len (rest-is text (c.digits_len-whole.result + 1))) in
    subst (λ n. IsAscii (take n text)) (sym all) (number-IsAscii text decimals)

pub returns-clause-piece : goal.returns-clause-piece
returns-clause-piece c =
    let text = c.args.text.now in
    let decimals : has_decimals text ≡ true = sym c.has_decimals.ensures ∙ c.if-not-has_decimals.false in
    let n = c.digits_len-whole.result + 1 + c.digits_len.result in
    let all : n ≡ number_len text = number_len-is text c.digits_len-whole.result c.digits_len.result c.digits_len-whole.ensures.len (c.digits_len.ensures.len ∙ ap digits_len (rest-is text (c.digits_len-whole.result + 1))) in
    subst (Gives c.number_piece.result) (number_piece-is text n decimals all) c.number_piece.ensures.piece
