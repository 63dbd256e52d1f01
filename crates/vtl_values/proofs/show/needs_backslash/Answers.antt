use Rattle.std.proofs.Common.{arith}
use Rattle.std.proofs.lemmas.Str.Pattern.{starts_char}
use Rattle.vtl_values.specs.Texts.{BACKSLASH}
use Rattle.vtl_values.proofs.CharsOfTexts.{needs_backslash-empty, needs_backslash-first}
use Rattle.vtl_values.proofs.show.needs_backslash.Goals as goal

pub returns-then-is_empty : goal.returns-then-is_empty
returns-then-is_empty c = needs_backslash-empty c.args.content.now c.is_empty.result c.is_empty.ensures c.if-is_empty.true

pub returns-else-is_empty : goal.returns-else-is_empty
returns-else-is_empty c = needs_backslash-first c.args.content.now c.starts_with.result c.utf8.content c.if-is_empty.ensures (starts_char BACKSLASH c.args.content.now c.starts_with.result c.starts_with.ensures.cases (omega arith) (omega arith))
