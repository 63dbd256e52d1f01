use Rattle.std.proofs.Common.{◌∙◌}
use Rattle.point_sets.proofs.Counts.{count_after-changes}
use Rattle.point_sets.proofs.delta.Delta.count_after.Goals as goal

pub returns : goal.returns
returns c = c.saturating_sub.ensures ∙ count_after-changes c.changes-changes.result.now c.args.self.now c.args.before c.gains.result c.losses.result c.changes-changes.ensures.entries c.gains.ensures.value c.losses.ensures
