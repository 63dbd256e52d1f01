use Rattle.std.proofs.Common.{◌≡◌, ℕ, Bool, ap, ◌∙◌}
use Rattle.vtl_values.specs.declared.kind.Kind.{Kind}
use Rattle.data_set_trees.specs.windows.Functions.{takes_window, window_gives, window_takes}
use Rattle.data_set_trees.specs.windows.Parts.{points_within}
use Rattle.data_set_trees.specs.windows.Windows.{Answer, finished, may_state, window_of, window_typed}
use Rattle.window_typing.proofs.Components.{goes_on_with, stops_without}
use Rattle.window_typing.proofs.Same.{err_same, ok_same}
use Rattle.window_typing.proofs.operands.window_typed.Goals as goal

pub returns-in_err-taken-clause-err : goal.returns-in_err-taken-clause-err
returns-in_err-taken-clause-err c =
    let f = c.args.function in
    let place = c.args.place in
    let frame = c.args.frame.now in
    let over = c.args.over.now in
    let next : Kind → ℕ → Answer = λ kind number. finished place frame over (may_state (takes_window f) over) (points_within over.points) (window_gives f kind) (window_of f number over) in
    stops_without place frame over (window_takes f) next c.window_takes.result.now c.window_takes.ensures c.args.operand.now c.from_residual.result c.in_err-taken.field-0.0 c.in_err-taken.ensures.err c.from_residual.ensures.1

pub returns-clause-ok : goal.returns-clause-ok
returns-clause-ok c =
    let f = c.args.function in
    let place = c.args.place in
    let frame = c.args.frame.now in
    let over = c.args.over.now in
    let a = c.args.operand.now in
    let t = c.in_ok-taken.taken in
    let next : Kind → ℕ → Answer = λ kind number. finished place frame over (may_state (takes_window f) over) (points_within over.points) (window_gives f kind) (window_of f number over) in
    let stated = c.may_state.ensures ∙ ap (λ (b : Bool). may_state b over) c.takes_window.ensures in
    let given = finished place frame over c.may_state.result c.points_within.result c.window_gives.result c.window_of.result in
    let told : given ≡ next t.kind t.component = λ i. finished place frame over (stated i) (c.points_within.ensures i) (c.window_gives.ensures i) (c.window_of.ensures i) in
    ok_same given (window_typed f a over place frame) c.finished.result (told ∙ goes_on_with place frame over (window_takes f) next c.window_takes.result.now c.window_takes.ensures a t c.in_ok-taken.ensures.ok) c.finished.ensures.ok

pub returns-clause-err : goal.returns-clause-err
returns-clause-err c =
    let f = c.args.function in
    let place = c.args.place in
    let frame = c.args.frame.now in
    let over = c.args.over.now in
    let a = c.args.operand.now in
    let t = c.in_ok-taken.taken in
    let next : Kind → ℕ → Answer = λ kind number. finished place frame over (may_state (takes_window f) over) (points_within over.points) (window_gives f kind) (window_of f number over) in
    let stated = c.may_state.ensures ∙ ap (λ (b : Bool). may_state b over) c.takes_window.ensures in
    let given = finished place frame over c.may_state.result c.points_within.result c.window_gives.result c.window_of.result in
    let told : given ≡ next t.kind t.component = λ i. finished place frame over (stated i) (c.points_within.ensures i) (c.window_gives.ensures i) (c.window_of.ensures i) in
    err_same given (window_typed f a over place frame) c.finished.result (told ∙ goes_on_with place frame over (window_takes f) next c.window_takes.result.now c.window_takes.ensures a t c.in_ok-taken.ensures.ok) c.finished.ensures.err
