-- One point more, and all.
use Rattle.std.proofs.Common.{◌≡◌, List, ◌∙◌, Some, refl, sym, ap, arith}
use Rattle.std.specs.FinMap.{get}
use Rattle.std.specs.Option.{option_copied}
use Rattle.vtl_values.specs.declared.value.Value.{Value}
use Rattle.data_model.specs.Deltas.{after}
use Rattle.point_sets.specs.declared.point.Point.{Point}
use Rattle.point_sets.specs.DataSets.{entry_of, key_of, rest_of}
use Rattle.point_sets.specs.Changes.{values_of}
use Rattle.exists_ops.specs.Noted.{noted_at}
use Rattle.exists_ops.proofs.Noting.{point-noted, points-all, few_steps, none-there}
use Rattle.exists_ops.proofs.notes.note_part.Goals as goal
use Rattle.exists_ops.proofs.notes.note_part.Goals.{in-Some+in_ok-note_at, in_default}

pub loop-n-preserved : goal.loop-n-preserved
loop-n-preserved g c =
    let before = c.loop-n.invariant.steps in
    let look = c.nth_in.ensures.steps in
    let few = few_steps (option_copied c.nth_in.result) in
    record {
      noted = λ e b f for met ks start.
          elim c.match-nth_in.branch [
            | in-Some+in_ok-note_at w ↦
                let point = w.in-Some.point in
                let at : w.deref.result.now.key ≡ key_of point.now = ap (λ (q : Point). q.key) w.deref.ensures in
                let later = w.point_after-after.ensures.value ∙ ap (λ (k : List Value). after (get c.args.own.now k) (Some (rest_of point.now))) at in
                point-noted e c.args.told.now c.args.left.now b c.args.own.now f for c.args.part.now c.args.met ks c.loop-n.n (entry_of point.now)
                (Some (rest_of point.now)) (values_of (option_copied w.point_after-after.result)) c.loop-n.draft c.match-nth_in.draft met (sym w.in-Some.ensures.found) refl later
                (w.draft-is ∙ w.in_ok-note_at.ensures ∙ (λ i. noted_at c.args.told.now c.args.met (w.deref.ensures i).key (Some (rest_of point.now)) (values_of (option_copied w.point_after-after.result)) c.loop-n.draft))
                (c.loop-n.invariant.noted e b f for met ks start)
            | in_default w ↦
                let gone = none-there _ c.loop-n.n w.in_default.ensures.found in
                let within = c.loop-n-test.true in
                let count = c.count_in-count.ensures.count in
                absurd (omega (arith, gone, within, count))
          ];
      steps = omega (arith, before, look, few);
    }

pub returns-clause-noted : goal.returns-clause-noted
returns-clause-noted g c = λ e b f for met ks start.
    let count = c.count_in-count.ensures.count in
    let done = c.loop-n-test.false in
    points-all e c.args.told.now c.args.left.now b c.args.own.now f for c.args.part.now ks c.loop-n.n c.loop-n.draft (omega (arith, count, done)) (c.loop-n.invariant.noted e b f for met ks start)
