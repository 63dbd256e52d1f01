use Rattle.std.proofs.Common.{◌≡◌, ◌+◌, ◌++◌, ◌∷◌, [], List, drop, map, sym, ◌∙◌, ap, subst}
use Rattle.std.specs.Prelude.{slice_get}
use Rattle.structured_sets.specs.Fitting.{is_identifier}
use Rattle.point_sets.specs.declared.revision.RawField.{RawField}
use Rattle.revision_judge.specs.Fields.{Cell, key_fields, field_or_empty}
use Rattle.revision_judge.proofs.Cells.{chosen, chosen-next, chosen-over, fields-next}
use Rattle.revision_judge.proofs.fields.key_fields.Goals as goal
use Rattle.revision_judge.proofs.fields.key_fields.Goals.{then-is_identifier+in_ok-copy_field+in_ok-push, else-is_identifier}

pub loop-n-preserved : goal.loop-n-preserved
loop-n-preserved c =
    let components = c.args.components.now in
    let fields = c.args.fields.now in
    let left : List Cell = chosen is_identifier (drop (c.loop-n.n + 1) components) (drop (c.loop-n.n + 1) fields) in
    let fit : List RawField → Type 0 = λ key. key_fields components fields ≡ key ++ map (λ (cell : Cell). cell.1) left in
    elim c.if-is_identifier.branch [
      | then-is_identifier+in_ok-copy_field+in_ok-push w ↦
          let field = w.in_ok-copy_field.ensures ∙ ap field_or_empty w.at.ensures in
          let next = chosen-next is_identifier components fields c.loop-n.n c.index-components-n.result c.loop-n-test.true c.index-components-n.is (sym c.is_identifier.ensures ∙ w.if-is_identifier.true) in
          subst fit (sym (ap (λ v. v.items) w.key-is ∙ w.in_ok-push.ensures.items ∙ ap (λ (f : RawField). c.loop-n.key.items ++ f ∷ []) field))
          (fields-next (key_fields components fields) c.loop-n.key.items (c.index-components-n.result, field_or_empty (slice_get fields c.loop-n.n)) left (c.loop-n.invariant ∙ ap (λ (cells : List Cell). c.loop-n.key.items ++ map (λ (cell : Cell). cell.1) cells) next))
      | else-is_identifier w ↦
          let over = chosen-over is_identifier components fields c.loop-n.n c.index-components-n.result c.loop-n-test.true c.index-components-n.is (sym c.is_identifier.ensures ∙ w.if-is_identifier.false) in
          subst fit (sym (ap (λ v. v.items) w.key-is)) (c.loop-n.invariant ∙ ap (λ (cells : List Cell). c.loop-n.key.items ++ map (λ (cell : Cell). cell.1) cells) over)
    ]
