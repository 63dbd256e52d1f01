-- One key more, and all.
use Rattle.std.proofs.Common.{length, sym, ◌∙◌, ap, arith}
use Rattle.std.proofs.lemmas.List.{length-map}
use Rattle.std.specs.FinMap.{len-entries}
use Rattle.point_sets.specs.Changes.{change_entry}
use Rattle.exists_ops.proofs.Noting.{changes-more, changes-all}
use Rattle.exists_ops.proofs.notes.note_changes.Goals as goal

pub loop-change-preserved : goal.loop-change-preserved
loop-change-preserved g c =
    let before = c.loop-change.invariant.steps in
    let one = c.in_ok-note_change.ensures.steps in
    let within = c.loop-change-test.true in
    let changes = c.changes-change-items in
    record {
      noted = λ e a f for same kept start.
          changes-more e c.args.told.now a c.args.right.now c.args.own.now f for changes.result.now c.loop-change.change-index c.change-item.result c.args.shifts.now c.args.numbers.now c.loop-change.draft c.note_change.new.draft
          same kept changes.ensures.entries changes.ensures.changes within c.change-item.is c.in_ok-note_change.ensures.noted (c.loop-change.invariant.noted e a f for same kept start);
      steps = omega (arith, before, one, within);
    }

pub returns-clause-noted : goal.returns-clause-noted
returns-clause-noted g c = λ e a f for same kept start.
    changes-all e c.args.told.now a c.args.right.now c.args.own.now f for c.changes-change-items.result.now c.loop-change.change-index c.loop-change.draft
    c.changes-change-items.ensures.entries c.loop-change-test.false (c.loop-change.invariant.noted e a f for same kept start)

-- there are as many changes as the delta has
pub returns-in_err-note_change-clause-steps : goal.returns-in_err-note_change-clause-steps
returns-in_err-note_change-clause-steps g c =
    let count = sym (length-map c.changes-change-items.result.now change_entry) ∙ ap length c.changes-change-items.ensures.entries ∙ sym (len-entries c.args.own.now) in
    let before = c.loop-change.invariant.steps in
    let one = c.in_err-note_change.ensures.steps in
    let within = c.loop-change-test.true in
    omega (arith, count, before, one, within)

pub returns-clause-steps : goal.returns-clause-steps
returns-clause-steps g c =
    let count = sym (length-map c.changes-change-items.result.now change_entry) ∙ ap length c.changes-change-items.ensures.entries ∙ sym (len-entries c.args.own.now) in
    let all = c.loop-change.invariant.steps in
    omega (arith, count, all)
