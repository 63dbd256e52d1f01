use Rattle.std.proofs.Common.{◌≡◌, Ok, sym, ap, subst, ◌∙◌}
use Rattle.vtl_values.specs.Structures.{IsStructure}
use Rattle.data_set_trees.specs.clauses.Frames.{frame_of}
use Rattle.data_set_trees.specs.declared.operand.DataSet.{DataSet}
use Rattle.statement_typing.proofs.Leaves.{leaves_structure, leaves_on_parts}
use Rattle.statement_typing.proofs.clauses.on_data_set.Goals as goal

pub with_clause-requires : goal.with_clause-requires
with_clause-requires c =
    let s = c.into_inner.result.structure in
    let read : c.get.result.now.structure ≡ s = ap (λ (d : DataSet). d.structure) (c.get.ensures ∙ sym c.into_inner.ensures) in
    leaves_structure s (subst IsStructure read c.components.ensures.structure) c.args.clause.now c.in_ok-frame.frame c.in-Alone.checked
    (c.in_ok-frame.ensures ∙ ap frame_of (c.components.ensures.value ∙ read)) (c.in_ok-checked.ensures.ok ∙ ap Ok c.in-Alone.is)

pub with_window-requires : goal.with_window-requires
with_window-requires c =
    let s = c.into_inner-in-Analytic.result.structure in
    let read : c.get.result.now.structure ≡ s = ap (λ (d : DataSet). d.structure) (c.get.ensures ∙ sym c.into_inner-in-Analytic.ensures) in
    leaves_on_parts s (subst IsStructure read c.components.ensures.structure) c.args.clause.now c.in_ok-frame.frame c.in-Analytic.window
    (c.in_ok-frame.ensures ∙ ap frame_of (c.components.ensures.value ∙ read)) (c.in_ok-checked.ensures.ok ∙ ap Ok c.in-Analytic.is)
