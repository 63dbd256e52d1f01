-- No change, one change more, and all.
use Rattle.std.proofs.Common.{◌≡◌, ℕ, List, take, refl, ap, arith}
use Rattle.std.specs.List.{sum_by}
use Rattle.std.proofs.lemmas.List.{take_all}
use Rattle.std.proofs.lemmas.List.Sums.{sum_by_more, sum_by_more_le}
use Rattle.point_sets.specs.declared.delta.Change.{Change}
use Rattle.pair_ops.specs.Noted.{noted_partner, part_steps}
use Rattle.pair_ops.proofs.Folds.{fold-change, fold-changes, sum_by-changes}
use Rattle.pair_ops.proofs.notes.note_partner.Goals as goal

pub loop-change-init : goal.loop-change-init
loop-change-init g c = record { noted = refl; steps = omega arith }

pub loop-change-preserved : goal.loop-change-preserved
loop-change-preserved g c =
    let item = c.change-item.result in
    let cost : Change → ℕ = λ (b : Change). part_steps c.args.main.now b.key in
    let more = sum_by_more cost c.changes-change-items.result.now c.loop-change.change-index item c.loop-change-test.true in
    let here = ap cost c.change-item.is in
    let before = c.loop-change.invariant.steps in
    let one = c.in_ok-note_partner_change.ensures.steps in
    record {
      noted =
          fold-change (noted_partner c.args.plan.now c.args.main.now c.args.main_news.now) c.args.draft.now c.changes-change-items.result.now c.loop-change.change-index item c.loop-change.draft c.note_partner_change.new.draft
          c.loop-change-test.true c.change-item.is c.loop-change.invariant.noted c.in_ok-note_partner_change.ensures.noted;
      steps = omega (arith, before, one, more, here);
    }

pub returns-clause-noted : goal.returns-clause-noted
returns-clause-noted g c =
    fold-changes (noted_partner c.args.plan.now c.args.main.now c.args.main_news.now) c.args.draft.now c.changes-change-items.result.now c.loop-change.change-index c.loop-change.draft c.args.news.now
    c.changes-change-items.ensures.entries c.loop-change-test.false c.loop-change.invariant.noted

pub returns-in_err-note_partner_change-clause-steps : goal.returns-in_err-note_partner_change-clause-steps
returns-in_err-note_partner_change-clause-steps g c =
    let item = c.change-item.result in
    let cost : Change → ℕ = λ (b : Change). part_steps c.args.main.now b.key in
    let most = sum_by_more_le cost c.changes-change-items.result.now c.loop-change.change-index item c.loop-change-test.true in
    let here = ap cost c.change-item.is in
    let all = sum_by-changes (part_steps c.args.main.now) c.changes-change-items.result.now c.args.news.now c.changes-change-items.ensures.entries in
    let before = c.loop-change.invariant.steps in
    let one = c.in_err-note_partner_change.ensures.steps in
    omega (arith, before, one, most, here, all)

pub returns-clause-steps : goal.returns-clause-steps
returns-clause-steps g c =
    let cost : Change → ℕ = λ (b : Change). part_steps c.args.main.now b.key in
    let whole : sum_by cost (take c.loop-change.change-index c.changes-change-items.result.now) ≡ sum_by cost c.changes-change-items.result.now = ap (λ (cs : List Change). sum_by cost cs) (take_all c.loop-change.change-index c.changes-change-items.result.now c.loop-change-test.false) in
    let all = sum_by-changes (part_steps c.args.main.now) c.changes-change-items.result.now c.args.news.now c.changes-change-items.ensures.entries in
    let before = c.loop-change.invariant.steps in
    omega (arith, before, whole, all)
