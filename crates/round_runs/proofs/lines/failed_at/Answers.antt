use Rattle.std.proofs.Common.{rules}
use Rattle.round_runs.specs.Lines.{failed_at}
use Rattle.round_runs.proofs.lines.failed_at.Goals as goal

pub returns : goal.returns
unfolding failed_at
returns c = search rules
