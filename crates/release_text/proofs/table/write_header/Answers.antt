use Rattle.std.proofs.Common.{[], take_all, refl}
use Rattle.vtl_values.specs.declared.structure.Component.{Component}
use Rattle.release_text.specs.Tables.{header_row}
use Rattle.release_text.proofs.RowFacts.{texts_more}
use Rattle.release_text.proofs.table.write_header.Goals as goal

pub loop-component-preserved : goal.loop-component-preserved
loop-component-preserved c = λ written h.
    let items = c.components-component-items.result.now in
    let after = c.in_ok-push.ensures written _ (c.loop-component.invariant written h) in
    rw (texts_more (λ (x : Component). x.name) [] items c.loop-component.component-index c.component-item.result _ c.loop-component-test.true c.component-item.is refl) at after

pub returns : goal.returns
unfolding header_row
returns c = λ written h.
    let items = c.components-component-items.result.now in
    let after = c.end_row.ensures written _ (c.loop-component.invariant written h) in
    rw (take_all c.loop-component.component-index items c.loop-component-test.false, c.components-component-items.ensures.value) at after
