use Rattle.std.proofs.Common.{◌∙◌}
use Rattle.vtl_lexer.proofs.ScanLemmas.{is_utf8-told}
use Rattle.vtl_lexer.proofs.scan.utf8.Goals as goal

pub returns-clause-found : goal.returns-clause-found
returns-clause-found c = c.ok.ensures.variant ∙ is_utf8-told _ _ c.args.bytes.now c.from_utf8.result c.from_utf8.ensures.cases
