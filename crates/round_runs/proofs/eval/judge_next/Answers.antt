use Rattle.std.proofs.Common.{Err, ap, ◌∙◌}
use Rattle.round_runs.proofs.eval.judge_next.Goals as goal

pub unreachable-requires : goal.unreachable-requires
unreachable-requires c =
    let some = (c.judge_one.ensures.full c.in-Err-Full.field-0-0).0 (c.in-Err-Full.is ∙ ap Err c.in-Err-Full.field-0-is) in
    let none = c.requires in
    cc (some, none)
