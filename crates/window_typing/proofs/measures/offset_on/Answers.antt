use Rattle.std.proofs.Common.{◌≡◌, false, ap, sym, ◌∙◌}
use Rattle.operator_typing.proofs.Steps.{stops_same}
use Rattle.scalar_trees.specs.Kinds.{ANY}
use Rattle.data_set_trees.specs.declared.clauses.frame.Frame.{Frame}
use Rattle.data_set_trees.specs.clauses.Frames.{frame_of}
use Rattle.data_set_trees.specs.declared.windows.analytic.CheckedWindow.TheVariants as window
use Rattle.data_set_trees.specs.windows.Parts.{is_offset}
use Rattle.data_set_trees.specs.windows.Windows.{may_state}
use Rattle.data_set_trees.proofs.windows.Made.{measures_give_structures}
use Rattle.window_typing.specs.declared.measures.OnEach.TheVariants.{Offset}
use Rattle.window_typing.specs.Each.{fits, on_measures}
use Rattle.window_typing.proofs.Measured.{measures_are, measures_refused}
use Rattle.window_typing.proofs.measures.offset_on.Goals as goal

pub returns-in_err-fits-clause-err : goal.returns-in_err-fits-clause-err
returns-in_err-fits-clause-err c =
    let place = c.args.place in
    let cs = c.args.components.now in
    let over = c.args.over.now in
    let each = Offset c.args.function c.args.offset in
    let frame = c.in_ok-frame.frame in
    let on_cs : frame ≡ frame_of cs = c.in_ok-frame.ensures in
    let meant = on_measures (frame_of cs) over each in
    let items : c.in_ok-items.items ≡ meant = c.in_ok-items.ensures ∙ ap (λ (q : Frame). on_measures q over each) on_cs in
    let stop = c.in_err-fits.field-0.0 in
    let takes = c.any_kind.result.now in
    let asked = fits place frame over takes c.may_state.result c.is_offset.result in
    measures_refused place cs over frame on_cs takes ANY c.any_kind.ensures c.may_state.result (may_state false over) c.may_state.ensures c.is_offset.result (is_offset c.args.offset) c.is_offset.ensures
    c.in_ok-items.items meant items c.from_residual-in_err-fits.result stop
    (stops_same (asked c.as_slice.result.now) (asked c.in_ok-items.items) stop (ap asked c.as_slice.ensures) c.in_err-fits.ensures.err) c.from_residual-in_err-fits.ensures.1

pub returns-clause-ok : goal.returns-clause-ok
returns-clause-ok c =
    let place = c.args.place in
    let cs = c.args.components.now in
    let over = c.args.over.now in
    let each = Offset c.args.function c.args.offset in
    let frame = c.in_ok-frame.frame in
    let on_cs : frame ≡ frame_of cs = c.in_ok-frame.ensures in
    let meant = on_measures (frame_of cs) over each in
    let items : c.in_ok-items.items ≡ meant = c.in_ok-items.ensures ∙ ap (λ (q : Frame). on_measures q over each) on_cs in
    let takes = c.any_kind.result.now in
    let asked = fits place frame over takes c.may_state.result c.is_offset.result in
    measures_are place cs over frame on_cs takes ANY c.any_kind.ensures c.may_state.result (may_state false over) c.may_state.ensures c.is_offset.result (is_offset c.args.offset) c.is_offset.ensures
    c.in_ok-items.items meant items c.in_ok-fits.field-0 (ap asked (sym c.as_slice.ensures) ∙ c.in_ok-fits.ensures.ok)

pub returns-clause-structure : goal.returns-clause-structure
returns-clause-structure c =
    let place = c.args.place in
    let cs = c.args.components.now in
    let over = c.args.over.now in
    let each = Offset c.args.function c.args.offset in
    let frame = c.in_ok-frame.frame in
    let on_cs : frame ≡ frame_of cs = c.in_ok-frame.ensures in
    let meant = on_measures (frame_of cs) over each in
    let items : c.in_ok-items.items ≡ meant = c.in_ok-items.ensures ∙ ap (λ (q : Frame). on_measures q over each) on_cs in
    let takes = c.any_kind.result.now in
    let asked = fits place frame over takes c.may_state.result c.is_offset.result in
    λ is.
    measures_give_structures place cs over ANY (may_state false over) (is_offset c.args.offset) meant (window.Measures c.in_ok-items.items) is
    (measures_are place cs over frame on_cs takes ANY c.any_kind.ensures c.may_state.result (may_state false over) c.may_state.ensures c.is_offset.result (is_offset c.args.offset) c.is_offset.ensures
    c.in_ok-items.items meant items c.in_ok-fits.field-0 (ap asked (sym c.as_slice.ensures) ∙ c.in_ok-fits.ensures.ok))
