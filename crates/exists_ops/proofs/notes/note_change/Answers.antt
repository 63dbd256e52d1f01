-- Whether the key of the change is met goes by what is kept of its part.
use Rattle.std.proofs.Common.{◌≡◌, List, ◌∙◌, ap}
use Rattle.std.proofs.lemmas.Result.{IfOk-weaker}
use Rattle.vtl_values.specs.declared.value.Value.{Value}
use Rattle.point_sets.specs.Changes.{values_of}
use Rattle.exists_ops.specs.Noted.{noted_at}
use Rattle.exists_ops.specs.Parts.{has_part, has_part_after, key_part, shift_at}
use Rattle.exists_ops.specs.Walked.{met_in}
use Rattle.exists_ops.proofs.Noting.{same-met}
use Rattle.exists_ops.proofs.notes.note_change.Goals as goal

pub returns-clause-noted : goal.returns-clause-noted
returns-clause-noted g c =
    let b = c.args.right.now in
    let part : List Value = c.in_ok-part.part in
    let is : part ≡ key_part c.args.numbers.now c.args.change.now.key = c.in_ok-part.ensures in
    let met : c.of-met.result ≡ met_in b c.args.shifts.now (key_part c.args.numbers.now c.args.change.now.key) =
    same-met c.of-met.result (met_in b c.args.shifts.now (key_part c.args.numbers.now c.args.change.now.key))
    (c.of-met.ensures.was ∙ ap (has_part b.want b.content) is)
    (c.of-met.ensures.is ∙ (λ i. has_part_after b.want b.content (is i) ((c.shift_at.ensures ∙ ap (shift_at c.args.shifts.now) is) i))) in
    IfOk-weaker c.note_at.result _ _
    (λ u h. h ∙ (λ i. noted_at c.args.told.now (met i) c.args.change.now.key (values_of (c.as_ref-old.ensures.value i)) (values_of (c.as_ref-new.ensures.value i)) c.args.draft.now))
    c.note_at.ensures
