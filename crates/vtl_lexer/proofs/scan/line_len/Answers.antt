use Rattle.vtl_lexer.specs.Scans.{is_line_end}
use Rattle.vtl_lexer.proofs.ScanLemmas.{first_or_length}
use Rattle.vtl_lexer.proofs.scan.line_len.Goals as goal

pub returns-clause-len : goal.returns-clause-len
returns-clause-len c =
    let all = first_or_length is_line_end c.args.text.now c.line_end.result c.line_end.ensures in
    cc
