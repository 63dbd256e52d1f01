use Rattle.std.proofs.Common.{◌≡◌, List, ap, sym, subst, ◌∙◌}
use Rattle.std.specs.Prelude.{IfOk}
use Rattle.vtl_values.specs.declared.structure.Component.{Component}
use Rattle.data_set_trees.specs.clauses.Frames.{frame_of}
use Rattle.data_set_trees.specs.declared.windows.analytic.AnalyticItem.{AnalyticItem}
use Rattle.data_set_trees.specs.declared.windows.analytic.AnalyticMeasure.{AnalyticMeasure}
use Rattle.data_set_trees.specs.declared.windows.analytic.CheckedWindow.{CheckedWindow}
use Rattle.data_set_trees.specs.declared.windows.analytic.CheckedWindow.TheVariants as window
use Rattle.data_set_trees.specs.windows.Results.{after}
use Rattle.window_typing.proofs.after.components_after.Goals as goal

pub returns-in-Measures : goal.returns-in-Measures
returns-in-Measures c =
    let cs = c.args.components.now in
    let left : CheckedWindow → List Component = λ w. (after w (frame_of cs)).components in
    let given : left (window.Measures c.as_slice.result.now) ≡ left c.args.window.now = ap (λ (items : List AnalyticMeasure). left (window.Measures items)) c.as_slice.ensures ∙ ap left (sym c.in-Measures.is) in
    subst (λ (q : List Component). IfOk c.measured_components.result (λ found. found ≡ q)) given c.measured_components.ensures

pub returns-in-Calc : goal.returns-in-Calc
returns-in-Calc c =
    let cs = c.args.components.now in
    let left : CheckedWindow → List Component = λ w. (after w (frame_of cs)).components in
    let given : left (window.Calc c.as_slice-in-Calc.result.now) ≡ left c.args.window.now = ap (λ (items : List AnalyticItem). left (window.Calc items)) c.as_slice-in-Calc.ensures ∙ ap left (sym c.in-Calc.is) in
    subst (λ (q : List Component). IfOk c.calculated_components.result (λ found. found ≡ q)) given c.calculated_components.ensures
