use Rattle.std.proofs.Common.{arith}
use Rattle.std.proofs.lemmas.Grind.{common_steps}
use Rattle.round_runs.specs.Lines.{refused}
use Rattle.round_runs.proofs.lines.refused_line.Goals as goal

pub returns : goal.returns
unfolding refused
returns c = grind (arith, common_steps)
