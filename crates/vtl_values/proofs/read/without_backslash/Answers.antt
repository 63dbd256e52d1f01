use Rattle.std.proofs.Common.{refl, arith}
use Rattle.std.proofs.lemmas.Str.Pattern.{strip_prefix_char}
use Rattle.vtl_values.specs.Texts.{BACKSLASH}
use Rattle.vtl_values.proofs.CharsOfTexts.{content}
use Rattle.vtl_values.proofs.read.without_backslash.Goals as goal

pub returns : goal.returns
returns c = content c.args.text.now c.utf8.text c.strip_prefix.result c.args.text _ refl (strip_prefix_char BACKSLASH c.args.text.now c.strip_prefix.result c.strip_prefix.ensures.cases (omega arith)) c.unwrap_or.ensures
