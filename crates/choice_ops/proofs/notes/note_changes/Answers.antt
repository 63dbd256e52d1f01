-- One key more, and all.
use Rattle.std.proofs.Common.{length, sym, ◌∙◌, ap, arith}
use Rattle.std.proofs.lemmas.List.{length-map}
use Rattle.std.specs.FinMap.{len-entries}
use Rattle.point_sets.specs.Changes.{change_entry}
use Rattle.held_index.specs.Holdings.{contents}
use Rattle.choice_ops.specs.Plans.{choice_in}
use Rattle.choice_ops.proofs.Marked.{noted-more, noted-all}
use Rattle.choice_ops.proofs.notes.note_changes.Goals as goal

pub loop-change-preserved : goal.loop-change-preserved
loop-change-preserved g c =
    let before = c.loop-change.invariant.steps in
    let one = c.in_ok-note_change.ensures.steps in
    let within = c.loop-change-test.true in
    record {
      noted = λ sets plain sees ks h.
          noted-more (choice_in c.args.plan.now) (contents c.args.held.now) sets c.args.number c.changes-change-items.result.now c.loop-change.change-index c.change-item.result ks c.loop-change.draft c.note_change.new.draft
          within c.change-item.is (c.in_ok-note_change.ensures.noted sets plain sees) (c.loop-change.invariant.noted sets plain sees ks h);
      steps = omega (arith, before, one, within);
    }

pub returns-clause-noted : goal.returns-clause-noted
returns-clause-noted g c = λ sets plain sees ks h.
    noted-all (choice_in c.args.plan.now) (contents c.args.held.now) sets c.args.number c.args.own.now c.changes-change-items.result.now c.loop-change.change-index ks c.loop-change.draft
    c.changes-change-items.ensures.entries c.loop-change-test.false (c.loop-change.invariant.noted sets plain sees ks h)

-- there are as many changes as the delta has
pub returns-in_err-note_change-clause-steps : goal.returns-in_err-note_change-clause-steps
returns-in_err-note_change-clause-steps g c =
    let count = sym (length-map c.changes-change-items.result.now change_entry) ∙ ap length c.changes-change-items.ensures.entries ∙ sym (len-entries c.args.own.now) in
    let before = c.loop-change.invariant.steps in
    let one = c.in_err-note_change.ensures.steps in
    let within = c.loop-change-test.true in
    omega (arith, count, before, one, within)

pub returns-clause-steps : goal.returns-clause-steps
returns-clause-steps g c =
    let count = sym (length-map c.changes-change-items.result.now change_entry) ∙ ap length c.changes-change-items.ensures.entries ∙ sym (len-entries c.args.own.now) in
    let all = c.loop-change.invariant.steps in
    omega (arith, count, all)
