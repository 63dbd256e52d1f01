use Rattle.std.proofs.Common.{rules}
use Rattle.std.proofs.lemmas.Str.{chars-nil}
use Rattle.scalar_eval.proofs.texts.replacing.Goals as goal

pub returns-in_ok-replace-in-None : goal.returns-in_ok-replace-in-None
returns-in_ok-replace-in-None c = search (rules, chars-nil)
