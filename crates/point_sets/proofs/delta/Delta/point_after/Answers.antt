-- The change that the search finds, or that there is none.
use Rattle.std.proofs.Common.{Option, List, sym, ◌∙◌, ap, subst, rules}
use Rattle.std.specs.Option.{option_copied}
use Rattle.std.proofs.lemmas.Fn.{always_returns_same}
use Rattle.vtl_values.specs.declared.value.Value.{Value}
use Rattle.vtl_values.specs.Order.{key_cmp}
use Rattle.data_model.specs.Deltas.{Pair, after}
use Rattle.point_sets.specs.declared.delta.Change.{Change}
use Rattle.point_sets.specs.Changes.{values_of}
use Rattle.point_sets.specs.DataSets.{HasKey}
use Rattle.point_sets.proofs.Found.{change_found, change_absent, left_there}
use Rattle.point_sets.proofs.delta.Delta.point_after.Goals as goal

pub returns-in-Ok-clause-value : goal.returns-in-Ok-clause-value
returns-in-Ok-clause-value c =
    let by_key = c.in-Ok.ensures.position (λ d. key_cmp d.key c.args.key.now) (always_returns_same _ _ _ (λ a r g called. search rules)) in
    let item = c.index-changes-place in
    let there = change_found c.changes-changes.result.now c.args.self.now c.changes-changes.ensures.entries c.changes-changes.ensures.changes c.args.key.now c.in-Ok.place item.result c.in-Ok.ensures.bound item.is by_key in
    ap values_of (c.as_ref.ensures.value ∙ ap (λ (d : Change). d.new) (sym item.is)) ∙ sym (ap (λ (o : Option (Pair (List Value))). after o (values_of (option_copied c.args.before))) there)

pub returns-in-Err-clause-value : goal.returns-in-Err-clause-value
returns-in-Err-clause-value c =
    let by_key = c.in-Err.ensures.position (λ d. key_cmp d.key c.args.key.now) (always_returns_same _ _ _ (λ a r g called. search rules)) in
    let absent = change_absent c.changes-changes.result.now c.args.self.now c.changes-changes.ensures.entries c.changes-changes.ensures.changes c.args.key.now c.in-Err.field-0 by_key in
    sym (ap (λ (o : Option (Pair (List Value))). after o (values_of (option_copied c.args.before))) absent)

pub returns-in-Ok-clause-key : goal.returns-in-Ok-clause-key
returns-in-Ok-clause-key c = λ before.
    let by_key = c.in-Ok.ensures.position (λ d. key_cmp d.key c.args.key.now) (always_returns_same _ _ _ (λ a r g called. search rules)) in
    let item = c.index-changes-place in
    subst (HasKey c.args.key.now) (sym (c.as_ref.ensures.value ∙ ap (λ (d : Change). d.new) (sym item.is)))
    (left_there c.changes-changes.result.now c.args.self.now c.changes-changes.ensures.entries c.changes-changes.ensures.changes c.args.key.now c.in-Ok.place item.result c.in-Ok.ensures.bound item.is by_key)
