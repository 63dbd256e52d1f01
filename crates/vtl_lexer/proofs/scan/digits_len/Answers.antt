use Rattle.std.proofs.Common.{not}
use Rattle.std.specs.Char.{is_ascii_digit}
use Rattle.vtl_lexer.proofs.ScanLemmas.{first_or_length}
use Rattle.vtl_lexer.proofs.scan.digits_len.Goals as goal

pub returns-clause-len : goal.returns-clause-len
returns-clause-len c =
    let all = first_or_length (λ b. not (is_ascii_digit b)) c.args.text.now c.digits_end.result c.digits_end.ensures in
    cc
