use Rattle.std.proofs.Common.{◌≡◌, ◌+◌, List, drop, sym, ◌∙◌, ap, subst}
use Rattle.std.specs.Prelude.{slice_get}
use Rattle.structured_sets.specs.Fitting.{is_identifier}
use Rattle.vtl_values.specs.declared.value.Value.{Value}
use Rattle.point_sets.specs.declared.revision.RawField.{RawField}
use Rattle.revision_judge.specs.Fields.{Cell, key_cells, field_or_empty, value_in, values_in}
use Rattle.revision_judge.specs.Stops.{Refuses}
use Rattle.revision_judge.proofs.Cells.{behind, chosen, chosen-next, chosen-over, read-next, read-stops, passed_on}
use Rattle.revision_judge.proofs.fields.key_in.Goals as goal
use Rattle.revision_judge.proofs.fields.key_in.Goals.{then-is_identifier+in_ok-value_in+in_ok-push, else-is_identifier}

pub loop-n-preserved : goal.loop-n-preserved
loop-n-preserved c =
    let components = c.args.components.now in
    let fields = c.args.fields.now in
    let left : List Cell = chosen is_identifier (drop (c.loop-n.n + 1) components) (drop (c.loop-n.n + 1) fields) in
    let fit : List Value → Type 0 = λ values. values_in (key_cells components fields) ≡ behind values (values_in left) in
    elim c.if-is_identifier.branch [
      | then-is_identifier+in_ok-value_in+in_ok-push w ↦
          let next = chosen-next is_identifier components fields c.loop-n.n c.index-components-n.result c.loop-n-test.true c.index-components-n.is (sym c.is_identifier.ensures ∙ w.if-is_identifier.true) in
          let read = ap (λ (f : RawField). value_in (c.index-components-n.result, f)) (ap field_or_empty (sym w.at.ensures)) ∙ w.in_ok-value_in.ensures.ok in
          subst fit (sym (ap (λ v. v.items) w.values-is ∙ w.in_ok-push.ensures.items))
          (read-next (values_in (key_cells components fields)) c.loop-n.values.items (c.index-components-n.result, field_or_empty (slice_get fields c.loop-n.n)) left _ (c.loop-n.invariant ∙ ap (λ (cells : List Cell). behind c.loop-n.values.items (values_in cells)) next) read)
      | else-is_identifier w ↦
          let over = chosen-over is_identifier components fields c.loop-n.n c.index-components-n.result c.loop-n-test.true c.index-components-n.is (sym c.is_identifier.ensures ∙ w.if-is_identifier.false) in
          subst fit (sym (ap (λ v. v.items) w.values-is)) (c.loop-n.invariant ∙ ap (λ (cells : List Cell). behind c.loop-n.values.items (values_in cells)) over)
    ]

pub returns-in_err-value_in-clause-err : goal.returns-in_err-value_in-clause-err
returns-in_err-value_in-clause-err c =
    let components = c.args.components.now in
    let fields = c.args.fields.now in
    let next = chosen-next is_identifier components fields c.loop-n.n c.index-components-n.result c.loop-n-test.true c.index-components-n.is (sym c.is_identifier.ensures ∙ c.if-is_identifier.true) in
    let same = ap (λ (f : RawField). value_in (c.index-components-n.result, f)) (ap field_or_empty c.at.ensures) in
    passed_on (values_in (key_cells components fields)) c.from_residual-in_err-value_in.result c.in_err-value_in.field-0.0
    (read-stops (values_in (key_cells components fields)) c.loop-n.values.items (c.index-components-n.result, field_or_empty (slice_get fields c.loop-n.n)) (chosen is_identifier (drop (c.loop-n.n + 1) components) (drop (c.loop-n.n + 1) fields)) c.in_err-value_in.field-0.0
    (c.loop-n.invariant ∙ ap (λ (cells : List Cell). behind c.loop-n.values.items (values_in cells)) next)
    (subst (λ r. Refuses r c.in_err-value_in.field-0.0) same c.in_err-value_in.ensures.err))
    c.from_residual-in_err-value_in.ensures.1
