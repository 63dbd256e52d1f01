use Rattle.vtl_lexer.specs.Scans.{ends_name}
use Rattle.vtl_lexer.proofs.ScanLemmas.{first_or_length}
use Rattle.vtl_lexer.proofs.scan.quoted_len.Goals as goal

pub returns-clause-len : goal.returns-clause-len
returns-clause-len c =
    let all = first_or_length ends_name c.args.text.now c.quoted_end.result c.quoted_end.ensures in
    cc
