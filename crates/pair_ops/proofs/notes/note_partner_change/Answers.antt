-- No point, one point more, and all; each one is found.
use Rattle.std.proofs.Common.{◌<◌, List, length, ap, ◌∙◌, arith}
use Rattle.std.specs.Prelude.{fold}
use Rattle.std.proofs.lemmas.List.{take_all}
use Rattle.point_sets.specs.Changes.{change_entry}
use Rattle.point_sets.specs.DataSets.{entry_of}
use Rattle.held_index.specs.Holdings.{part_of}
use Rattle.held_index.specs.Walks.{PointValues}
use Rattle.pair_ops.specs.Noted.{noted_point}
use Rattle.pair_ops.proofs.Folds.{fold-point}
use Rattle.pair_ops.proofs.notes.note_partner_change.Goals as goal

pub loop-n-preserved : goal.loop-n-preserved
loop-n-preserved g c =
    let h = c.args.main.now in
    let ps : List PointValues = part_of h.want c.args.change.now.key h.content in
    let count = c.count_in-count.ensures.count in
    let test = c.loop-n-test.true in
    let within : c.loop-n.n < length ps = omega (arith, count, test) in
    let before = c.loop-n.invariant.steps in
    let look = c.in-Some.ensures.steps in
    record {
      noted =
          fold-point (noted_point c.args.plan.now c.args.main_news.now (change_entry c.args.change.now)) c.args.draft.now ps c.loop-n.n (entry_of c.in-Some.point.now) c.loop-n.draft c.note_point.new.draft
          within c.in-Some.ensures.found c.loop-n.invariant.noted c.in_ok-note_point.ensures;
      steps = omega (arith, before, look);
    }

pub returns-clause-noted : goal.returns-clause-noted
returns-clause-noted g c =
    let h = c.args.main.now in
    let ps : List PointValues = part_of h.want c.args.change.now.key h.content in
    let count = c.count_in-count.ensures.count in
    let done = c.loop-n-test.false in
    c.loop-n.invariant.noted ∙ ap (λ (qs : List PointValues). fold (noted_point c.args.plan.now c.args.main_news.now (change_entry c.args.change.now)) c.args.draft.now qs) (take_all c.loop-n.n ps (omega (arith, count, done)))
