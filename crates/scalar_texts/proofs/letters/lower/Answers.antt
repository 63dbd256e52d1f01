use Rattle.std.proofs.lemmas.Result.{IfOk-weaker}
use Rattle.std.proofs.lemmas.Str.{IsUtf8-string_bytes}
use Rattle.scalar_texts.proofs.Spelling.{chars-lowercase}
use Rattle.scalar_texts.proofs.letters.lower.Goals as goal

pub returns : goal.returns
returns c = IfOk-weaker _ _ _ (λ t e. chars-lowercase _ _ c.utf8.s (IsUtf8-string_bytes t) e) c.to_ascii_lowercase.ensures.ok
