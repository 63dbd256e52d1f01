use Rattle.std.proofs.Common.{not}
use Rattle.vtl_lexer.specs.Starts.{is_name_byte}
use Rattle.vtl_lexer.proofs.ScanLemmas.{first_or_length}
use Rattle.vtl_lexer.proofs.scan.word_len.Goals as goal

pub returns-clause-len : goal.returns-clause-len
returns-clause-len c =
    let all = first_or_length (λ b. not (is_name_byte b)) c.args.text.now c.word_end.result c.word_end.ensures in
    cc
