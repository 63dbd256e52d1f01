use Rattle.std.proofs.Common.{arith}
use Rattle.std.proofs.lemmas.Grind.{common_steps}
use Rattle.round_runs.proofs.LineLemmas.{chars-none}
use Rattle.round_runs.proofs.lines.text_of.Goals as goal

pub returns-in-Empty : goal.returns-in-Empty
returns-in-Empty c = grind (arith, common_steps, chars-none)
