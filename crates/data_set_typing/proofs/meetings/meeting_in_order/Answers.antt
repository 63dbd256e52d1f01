use Rattle.std.proofs.Common.{◌++◌, drop, ◌+◌, List, ap, ◌∙◌, sym}
use Rattle.std.specs.Prelude.{zip}
use Rattle.data_set_trees.specs.declared.measure.Measure.{Measure}
use Rattle.data_set_typing.proofs.Zips.{met_one, met_none}
use Rattle.data_set_typing.proofs.meetings.meeting_in_order.Goals as goal
use Rattle.data_set_typing.proofs.meetings.meeting_in_order.Goals.{in-Some+in_ok-push, in_default}

pub loop-i-preserved : goal.loop-i-preserved
loop-i-preserved c =
    let ms = c.args.measures.now in
    let ns = c.args.others.now in
    let i = c.loop-i.i in
    let x = c.index-measures-i.result in
    let all = c.loop-i.met in
    let rest = zip (drop (i + 1) ms) (drop (i + 1) ns) in
    elim c.match-branch-2.branch [
      | in-Some+in_ok-push w ↦ met_one ms ns i x w.in-Some.pair all c.loop-i-test.true c.index-measures-i.is (sym w.in-Some.is ∙ c.in_ok-pair.ensures) c.loop-i.invariant ∙ ap (λ (q : List (Measure × Measure)). q ++ rest) (sym (w.met-is ∙ w.in_ok-push.ensures.ok))
      | in_default w ↦ met_none ms ns i x all c.loop-i-test.true c.index-measures-i.is (sym w.in_default.is ∙ c.in_ok-pair.ensures) c.loop-i.invariant ∙ ap (λ (q : List (Measure × Measure)). q ++ rest) (sym w.met-is)
    ]
