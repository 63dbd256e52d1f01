-- What was made and what is are noted.
use Rattle.std.proofs.Common.{List, Result, Ok, Err, refl, sym, ap, ◌∙◌}
use Rattle.std.specs.Prelude.{OnOk, map}
use Rattle.std.specs.Arc.{arc_value}
use Rattle.vtl_values.specs.declared.value.Value.{Value}
use Rattle.data_model.specs.Deltas.{after}
use Rattle.data_model.specs.Drafts.{note_key}
use Rattle.point_sets.specs.Changes.{values_eq}
use Rattle.held_index.specs.Holdings.{contents}
use Rattle.operator_meaning.specs.choices.Choices.{ChoiceOn}
use Rattle.choice_ops.specs.Plans.{choice_in}
use Rattle.choice_ops.specs.Noted.{change_at, noted_at}
use Rattle.choice_ops.proofs.notes.note_change.Goals as goal

on-ok : {A E : Type 0} (P Q : Type 0) (r : Result A E) → (P → Q) → OnOk r P → OnOk r Q
on-ok P Q (Ok x) f h = f h
on-ok P Q (Err e) f h = h

pub returns-clause-noted : goal.returns-clause-noted
returns-clause-noted g c =
    on-ok _ _ c.note.result
    (λ is. λ sets plain sees.
    let on : ChoiceOn = choice_in c.args.plan.now in
    let key = c.in_ok-condition_key.field-0 in
    let found = c.look-before.ensures.found plain in
    let old = c.in_ok-old.ensures.made (contents c.args.held.now) plain (λ n k. refl) (sym found) c.look-before.ensures.key in
    let new = c.in_ok-new.ensures.made sets plain sees
    (sees 0 key ∙ ap (after (change_at (map arc_value c.args.news.now) 0 key)) (sym found) ∙ sym c.after_news-after.ensures.found)
    (c.after_news-after.ensures.key c.look-before.ensures.key) in
    is ∙ (λ i. note_key values_eq key (new.range i) (old.values_are i) (new.values_are i) c.args.draft.now)
    ∙ ap (λ (k : List Value). noted_at on (contents c.args.held.now) sets k c.args.draft.now) c.in_ok-condition_key.ensures)
    c.note.ensures
