use Rattle.std.proofs.Common.{sym, ◌∙◌, string_bytes}
use Rattle.commands.proofs.NumberLemmas.{number-none}
use Rattle.commands.proofs.words.number.Goals as goal

pub returns-then-is_plain_number-clause-none : goal.returns-then-is_plain_number-clause-none
returns-then-is_plain_number-clause-none c = λ none plain. number-none (string_bytes c.args.word.now) c.parse.result (rw c.as_str.ensures.value at c.parse.ensures.value.0) (sym c.ok.ensures.value ∙ none) plain
