-- The point as it was, and after its news.
use Rattle.std.proofs.Common.{◌≡◌, List, Some, refl, sym, ap, subst, ◌∙◌}
use Rattle.std.specs.FinMap.{get}
use Rattle.std.specs.Option.{option_copied}
use Rattle.std.specs.Result.{OnOk}
use Rattle.vtl_values.specs.declared.value.Value.{Value}
use Rattle.data_model.specs.Deltas.{after}
use Rattle.point_sets.specs.Changes.{values_of}
use Rattle.point_sets.specs.DataSets.{HasKey, key_of, rest_of}
use Rattle.point_sets.specs.declared.point.Point.{Point}
use Rattle.held_index.specs.Drafts.{SetDraft}
use Rattle.operator_meaning.specs.pairs.Pairs.{result_key}
use Rattle.pair_ops.specs.Noted.{noted_met}
use Rattle.pair_ops.proofs.Folds.{met-values}
use Rattle.pair_ops.proofs.notes.note_point.Goals as goal

pub returns : goal.returns
returns c =
    let p = c.args.plan.now in
    let change = c.args.change.now in
    let d = c.args.main_news.now in
    let point = c.args.point.now in
    let key : List Value = key_of point in
    let at : c.deref.result.now.key ≡ key = ap (λ (q : Point). q.key) c.deref.ensures in
    let here : c.deref-2.result.now.key ≡ key = ap (λ (q : Point). q.key) c.deref-2.ensures in
    let has_old = subst (HasKey change.key) (sym c.turn_of.ensures.old) c.requires.old in
    let has_new = subst (HasKey change.key) (sym c.turn_of.ensures.new) c.requires.new in
    let has_after = subst (λ (k : List Value). HasKey k (option_copied c.point_after-after.result)) at (c.point_after-after.ensures.key (sym at)) in
    let later : values_of (option_copied c.point_after-after.result) ≡ after (get d key) (Some (rest_of point)) = c.point_after-after.ensures.value ∙ ap (λ (k : List Value). after (get d k) (Some (rest_of point))) at in
    let was = met-values p key change.key (Some point) (option_copied c.turn_of.result.old) (Some (rest_of point)) (values_of change.old) refl has_old refl (ap values_of c.turn_of.ensures.old) in
    let is = met-values p key change.key (option_copied c.point_after-after.result) (option_copied c.turn_of.result.new) (after (get d key) (Some (rest_of point))) (values_of change.new) has_after has_new later (ap values_of c.turn_of.ensures.new) in
    subst (λ (n : SetDraft). OnOk c.note_met.result (c.note_met.new.draft ≡ n)) (λ i. noted_met p (result_key p (here i)) (was i) (is i) c.args.draft.now) c.note_met.ensures
