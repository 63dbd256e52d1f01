-- No change, one change more, and all.
use Rattle.std.proofs.Common.{length, refl, sym, ap, ◌∙◌, arith}
use Rattle.std.proofs.lemmas.List.{length-map}
use Rattle.std.specs.FinMap.{len-entries}
use Rattle.point_sets.specs.Changes.{change_entry}
use Rattle.pair_ops.specs.Noted.{noted_main}
use Rattle.pair_ops.proofs.Folds.{fold-change, fold-changes}
use Rattle.pair_ops.proofs.notes.note_main.Goals as goal

pub loop-change-init : goal.loop-change-init
loop-change-init g c = record { noted = refl; steps = omega arith }

pub loop-change-preserved : goal.loop-change-preserved
loop-change-preserved g c =
    let before = c.loop-change.invariant.steps in
    let one = c.in_ok-note_main_change.ensures.steps in
    let within = c.loop-change-test.true in
    record {
      noted =
          fold-change (noted_main c.args.plan.now c.args.partner.now.content c.args.partner_news.now) c.args.draft.now c.changes-change-items.result.now c.loop-change.change-index c.change-item.result c.loop-change.draft c.note_main_change.new.draft
          within c.change-item.is c.loop-change.invariant.noted c.in_ok-note_main_change.ensures.noted;
      steps = omega (arith, before, one, within);
    }

pub returns-clause-noted : goal.returns-clause-noted
returns-clause-noted g c =
    fold-changes (noted_main c.args.plan.now c.args.partner.now.content c.args.partner_news.now) c.args.draft.now c.changes-change-items.result.now c.loop-change.change-index c.loop-change.draft c.args.news.now
    c.changes-change-items.ensures.entries c.loop-change-test.false c.loop-change.invariant.noted

-- there are as many changes as the delta has
pub returns-in_err-note_main_change-clause-steps : goal.returns-in_err-note_main_change-clause-steps
returns-in_err-note_main_change-clause-steps g c =
    let count = sym (length-map c.changes-change-items.result.now change_entry) ∙ ap length c.changes-change-items.ensures.entries ∙ sym (len-entries c.args.news.now) in
    let before = c.loop-change.invariant.steps in
    let one = c.in_err-note_main_change.ensures.steps in
    let within = c.loop-change-test.true in
    omega (arith, count, before, one, within)

pub returns-clause-steps : goal.returns-clause-steps
returns-clause-steps g c =
    let count = sym (length-map c.changes-change-items.result.now change_entry) ∙ ap length c.changes-change-items.ensures.entries ∙ sym (len-entries c.args.news.now) in
    let all = c.loop-change.invariant.steps in
    omega (arith, count, all)
