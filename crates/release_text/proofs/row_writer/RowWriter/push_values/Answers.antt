use Rattle.std.proofs.Common.{take_all, refl}
use Rattle.vtl_values.specs.Texts.{text_of}
use Rattle.release_text.proofs.RowFacts.{texts_more}
use Rattle.release_text.proofs.row_writer.RowWriter.push_values.Goals as goal

pub loop-value-preserved : goal.loop-value-preserved
loop-value-preserved c = λ written texts h.
    let after = c.in_ok-push_value.ensures written _ (c.loop-value.invariant written texts h) in
    rw (texts_more text_of texts c.args.values.now c.loop-value.value-index c.value-item.result _ c.loop-value-test.true c.value-item.is refl) at after

pub returns : goal.returns
returns c = λ written texts h.
    let after = c.loop-value.invariant written texts h in
    rw (take_all c.loop-value.value-index c.args.values.now c.loop-value-test.false) at after
