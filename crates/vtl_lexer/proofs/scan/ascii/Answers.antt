use Rattle.std.proofs.lemmas.Str.{IsUtf8-from_ascii}
use Rattle.vtl_lexer.proofs.ScanLemmas.{IsOk-from_IsUtf8}
use Rattle.vtl_lexer.proofs.scan.ascii.Goals as goal

pub unwrap-requires : goal.unwrap-requires
unwrap-requires c = IsOk-from_IsUtf8 _ _ c.args.bytes.now c.from_utf8.result c.from_utf8.ensures.cases (IsUtf8-from_ascii c.args.bytes.now c.requires)
