use Rattle.std.proofs.Common.{◌≡◌, Bool, ap, sym, ◌∙◌}
use Rattle.operator_typing.proofs.Steps.{stops_same}
use Rattle.data_set_trees.specs.declared.clauses.frame.Frame.{Frame}
use Rattle.data_set_trees.specs.clauses.Frames.{frame_of}
use Rattle.data_set_trees.specs.declared.windows.analytic.CheckedWindow.TheVariants as window
use Rattle.data_set_trees.specs.windows.Functions.{takes_window, window_takes}
use Rattle.data_set_trees.specs.windows.Parts.{points_within}
use Rattle.data_set_trees.specs.windows.Windows.{may_state, window_items}
use Rattle.data_set_trees.proofs.windows.Made.{measures_give_structures}
use Rattle.window_typing.specs.Each.{fits}
use Rattle.window_typing.proofs.Measured.{measures_are, measures_refused}
use Rattle.window_typing.proofs.measures.window_on.Goals as goal

pub returns-in_err-fits-clause-err : goal.returns-in_err-fits-clause-err
returns-in_err-fits-clause-err c =
    let f = c.args.function in
    let place = c.args.place in
    let cs = c.args.components.now in
    let over = c.args.over.now in
    let frame = c.in_ok-frame.frame in
    let on_cs : frame ≡ frame_of cs = c.in_ok-frame.ensures in
    let stated = c.may_state.ensures ∙ ap (λ (b : Bool). may_state b over) c.takes_window.ensures in
    let items : c.in_ok-items.items ≡ window_items f (frame_of cs) over = c.in_ok-items.ensures ∙ ap (λ (q : Frame). window_items f q over) on_cs in
    let stop = c.in_err-fits.field-0.0 in
    let takes = c.window_takes.result.now in
    let asked = fits place frame over takes c.may_state.result c.points_within.result in
    measures_refused place cs over frame on_cs takes (window_takes f) c.window_takes.ensures c.may_state.result (may_state (takes_window f) over) stated c.points_within.result (points_within over.points) c.points_within.ensures
    c.in_ok-items.items (window_items f (frame_of cs) over) items c.from_residual-in_err-fits.result stop
    (stops_same (asked c.as_slice.result.now) (asked c.in_ok-items.items) stop (ap asked c.as_slice.ensures) c.in_err-fits.ensures.err) c.from_residual-in_err-fits.ensures.1

pub returns-clause-ok : goal.returns-clause-ok
returns-clause-ok c =
    let f = c.args.function in
    let place = c.args.place in
    let cs = c.args.components.now in
    let over = c.args.over.now in
    let frame = c.in_ok-frame.frame in
    let on_cs : frame ≡ frame_of cs = c.in_ok-frame.ensures in
    let stated = c.may_state.ensures ∙ ap (λ (b : Bool). may_state b over) c.takes_window.ensures in
    let items : c.in_ok-items.items ≡ window_items f (frame_of cs) over = c.in_ok-items.ensures ∙ ap (λ (q : Frame). window_items f q over) on_cs in
    let takes = c.window_takes.result.now in
    let asked = fits place frame over takes c.may_state.result c.points_within.result in
    measures_are place cs over frame on_cs takes (window_takes f) c.window_takes.ensures c.may_state.result (may_state (takes_window f) over) stated c.points_within.result (points_within over.points) c.points_within.ensures
    c.in_ok-items.items (window_items f (frame_of cs) over) items c.in_ok-fits.field-0 (ap asked (sym c.as_slice.ensures) ∙ c.in_ok-fits.ensures.ok)

pub returns-clause-structure : goal.returns-clause-structure
returns-clause-structure c =
    let f = c.args.function in
    let place = c.args.place in
    let cs = c.args.components.now in
    let over = c.args.over.now in
    let frame = c.in_ok-frame.frame in
    let on_cs : frame ≡ frame_of cs = c.in_ok-frame.ensures in
    let stated = c.may_state.ensures ∙ ap (λ (b : Bool). may_state b over) c.takes_window.ensures in
    let meant = window_items f (frame_of cs) over in
    let items : c.in_ok-items.items ≡ meant = c.in_ok-items.ensures ∙ ap (λ (q : Frame). window_items f q over) on_cs in
    let takes = c.window_takes.result.now in
    let asked = fits place frame over takes c.may_state.result c.points_within.result in
    λ is.
    measures_give_structures place cs over (window_takes f) (may_state (takes_window f) over) (points_within over.points) meant (window.Measures c.in_ok-items.items) is
    (measures_are place cs over frame on_cs takes (window_takes f) c.window_takes.ensures c.may_state.result (may_state (takes_window f) over) stated c.points_within.result (points_within over.points) c.points_within.ensures
    c.in_ok-items.items meant items c.in_ok-fits.field-0 (ap asked (sym c.as_slice.ensures) ∙ c.in_ok-fits.ensures.ok))
