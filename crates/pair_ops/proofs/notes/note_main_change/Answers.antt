-- The partner is looked up, as it was, and its news are searched.
use Rattle.std.proofs.Common.{◌≡◌, List, sym, ap, subst, ◌∙◌, arith}
use Rattle.std.specs.FinMap.{get}
use Rattle.std.specs.Option.{option_copied}
use Rattle.std.specs.Result.{OnOk}
use Rattle.vtl_values.specs.declared.value.Value.{Value}
use Rattle.data_model.specs.Deltas.{after}
use Rattle.point_sets.specs.Changes.{values_of}
use Rattle.point_sets.specs.DataSets.{HasKey}
use Rattle.held_index.specs.Drafts.{SetDraft}
use Rattle.held_index.specs.Walks.{point_values}
use Rattle.held_index.proofs.Plain.{found_at-plain}
use Rattle.operator_meaning.specs.pairs.Pairs.{partner_key, result_key}
use Rattle.pair_ops.specs.Noted.{noted_met}
use Rattle.pair_ops.proofs.Folds.{met-values}
use Rattle.pair_ops.proofs.ReachLemmas.{few_steps}
use Rattle.pair_ops.proofs.notes.note_main_change.Goals as goal

pub returns-clause-noted : goal.returns-clause-noted
returns-clause-noted g c =
    let p = c.args.plan.now in
    let change = c.args.change.now in
    let q = c.args.partner.now.content in
    let e = c.args.partner_news.now in
    let key : List Value = partner_key p change.key in
    let at : c.place_at-at.result.key ≡ key = c.place_at-at.ensures ∙ c.in_ok-partner_key.ensures in
    let has_old = subst (HasKey change.key) (sym c.turn_of.ensures.old) c.requires.change.old in
    let has_new = subst (HasKey change.key) (sym c.turn_of.ensures.new) c.requires.change.new in
    let has_before = subst (λ (k : List Value). HasKey k (option_copied c.get-before.result)) at c.get-before.ensures.key in
    let has_after = subst (λ (k : List Value). HasKey k (option_copied c.point_after-after.result)) at (c.point_after-after.ensures.key c.get-before.ensures.key) in
    let before : values_of (option_copied c.get-before.result) ≡ get q key = c.get-before.ensures.value ∙ found_at-plain c.args.partner.now.want (point_values c.place_at-at.result) q c.requires.plain ∙ ap (get q) at in
    let later : values_of (option_copied c.point_after-after.result) ≡ after (get e key) (get q key) = c.point_after-after.ensures.value ∙ (λ i. after (get e (at i)) (before i)) in
    let was = met-values p change.key key (option_copied c.turn_of.result.old) (option_copied c.get-before.result) (values_of change.old) (get q key) has_old has_before (ap values_of c.turn_of.ensures.old) before in
    let is = met-values p change.key key (option_copied c.turn_of.result.new) (option_copied c.point_after-after.result) (values_of change.new) (after (get e key) (get q key)) has_new has_after (ap values_of c.turn_of.ensures.new) later in
    subst (λ (n : SetDraft). OnOk c.note_met.result (c.note_met.new.draft ≡ n)) (λ i. noted_met p (result_key p change.key) (was i) (is i) c.args.draft.now) c.note_met.ensures

pub returns-clause-steps : goal.returns-clause-steps
returns-clause-steps g c = let look = c.get-before.ensures.steps in let few = few_steps (option_copied c.get-before.result) in omega (arith, look, few)
