use Rattle.std.proofs.Common.{◌≡◌, ℕ, false, ◌∙◌}
use Rattle.vtl_values.specs.declared.kind.Kind.{Kind}
use Rattle.scalar_trees.specs.Kinds.{ANY}
use Rattle.data_set_trees.specs.declared.windows.analytic.Analytic.TheVariants as analytic
use Rattle.data_set_trees.specs.windows.Parts.{is_offset}
use Rattle.data_set_trees.specs.windows.Windows.{Answer, finished, may_state, offset_typed}
use Rattle.window_typing.proofs.Components.{goes_on_with, stops_without}
use Rattle.window_typing.proofs.Same.{err_same, ok_same}
use Rattle.window_typing.proofs.operands.offset_typed.Goals as goal

pub returns-in_err-taken-clause-err : goal.returns-in_err-taken-clause-err
returns-in_err-taken-clause-err c =
    let f = c.args.function in
    let place = c.args.place in
    let frame = c.args.frame.now in
    let over = c.args.over.now in
    let offset = c.args.offset in
    let next : Kind → ℕ → Answer = λ kind number. finished place frame over (may_state false over) (is_offset offset) kind (analytic.Offset f number offset) in
    stops_without place frame over ANY next c.any_kind.result.now c.any_kind.ensures c.args.operand.now c.from_residual.result c.in_err-taken.field-0.0 c.in_err-taken.ensures.err c.from_residual.ensures.1

pub returns-clause-ok : goal.returns-clause-ok
returns-clause-ok c =
    let f = c.args.function in
    let place = c.args.place in
    let frame = c.args.frame.now in
    let over = c.args.over.now in
    let offset = c.args.offset in
    let a = c.args.operand.now in
    let t = c.in_ok-taken.taken in
    let next : Kind → ℕ → Answer = λ kind number. finished place frame over (may_state false over) (is_offset offset) kind (analytic.Offset f number offset) in
    let of = analytic.Offset f t.component offset in
    let given = finished place frame over c.may_state.result c.is_offset.result t.kind of in
    let told : given ≡ next t.kind t.component = λ i. finished place frame over (c.may_state.ensures i) (c.is_offset.ensures i) t.kind of in
    ok_same given (offset_typed f a offset over place frame) c.finished.result (told ∙ goes_on_with place frame over ANY next c.any_kind.result.now c.any_kind.ensures a t c.in_ok-taken.ensures.ok) c.finished.ensures.ok

pub returns-clause-err : goal.returns-clause-err
returns-clause-err c =
    let f = c.args.function in
    let place = c.args.place in
    let frame = c.args.frame.now in
    let over = c.args.over.now in
    let offset = c.args.offset in
    let a = c.args.operand.now in
    let t = c.in_ok-taken.taken in
    let next : Kind → ℕ → Answer = λ kind number. finished place frame over (may_state false over) (is_offset offset) kind (analytic.Offset f number offset) in
    let of = analytic.Offset f t.component offset in
    let given = finished place frame over c.may_state.result c.is_offset.result t.kind of in
    let told : given ≡ next t.kind t.component = λ i. finished place frame over (c.may_state.ensures i) (c.is_offset.ensures i) t.kind of in
    err_same given (offset_typed f a offset over place frame) c.finished.result (told ∙ goes_on_with place frame over ANY next c.any_kind.result.now c.any_kind.ensures a t c.in_ok-taken.ensures.ok) c.finished.ensures.err
