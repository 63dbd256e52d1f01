use Rattle.std.proofs.Common.{◌+◌, ◌<◌, ◌^◌, List, length, ap, sym, subst, ◌∙◌}
use Rattle.std.specs.List.{All}
use Rattle.data_set_trees.specs.declared.measure.Measure.{Measure}
use Rattle.operator_typing.proofs.Steps.{fails_there, goes_on}
use Rattle.data_set_parts.specs.Walks.{each}
use Rattle.data_set_typing.specs.Plans.{pair_checked, met_of, demands_on_two, items_on_two}
use Rattle.data_set_parts.proofs.Follows.{ok_same, err_same}
use Rattle.data_set_typing.proofs.call.Call.items_on_two.Goals as goal

pub returns-in_err-demands_on_two-clause-err : goal.returns-in_err-demands_on_two-clause-err
returns-in_err-demands_on_two-clause-err c =
    let call = c.args.self.now in
    let s = c.args.components.now in
    let t = c.args.others.now in
    let changed = c.args.changed.now in
    fails_there (demands_on_two call.form.now call.place call.operands.now changed s t) (λ agree. each (pair_checked call.form.now call.place call.operands.now changed (length s)) (met_of changed s t)) c.from_residual-in_err-demands_on_two.result c.in_err-demands_on_two.field-0.0 c.in_err-demands_on_two.ensures.err c.from_residual-in_err-demands_on_two.ensures.1

pub demands_on_two-requires-clause-met : goal.demands_on_two-requires-clause-met
demands_on_two-requires-clause-met c = c.as_slice.ensures ∙ c.in_ok-met.ensures.met

pub demands_on_two-requires-clause-room : goal.demands_on_two-requires-clause-room
demands_on_two-requires-clause-room c =
    subst (All (λ (p : Measure × Measure). length c.args.components.now + p.1.number < 2 ^ 64)) (sym c.as_slice.ensures) c.in_ok-met.ensures.room

pub pairs_checked-requires : goal.pairs_checked-requires
pairs_checked-requires c =
    subst (All (λ (p : Measure × Measure). length c.args.components.now + p.1.number < 2 ^ 64)) (sym c.as_slice-2.ensures) c.in_ok-met.ensures.room

pub returns-clause-ok : goal.returns-clause-ok
returns-clause-ok c =
    let call = c.args.self.now in
    let s = c.args.components.now in
    let t = c.args.others.now in
    let changed = c.args.changed.now in
    let asked = demands_on_two call.form.now call.place call.operands.now changed s t in
    let checked = λ (met : List (Measure × Measure)). each (pair_checked call.form.now call.place call.operands.now changed (length s)) met in
    let met = c.as_slice-2.ensures ∙ c.in_ok-met.ensures.met in
    let same = ap checked met ∙ sym (goes_on asked (λ agree. checked (met_of changed s t)) c.in_ok-demands_on_two.field-0 c.in_ok-demands_on_two.ensures.ok) in
    ok_same (checked c.as_slice-2.result.now) (items_on_two call.form.now call.place call.operands.now changed s t) c.pairs_checked.result same c.pairs_checked.ensures.ok

pub returns-clause-err : goal.returns-clause-err
returns-clause-err c =
    let call = c.args.self.now in
    let s = c.args.components.now in
    let t = c.args.others.now in
    let changed = c.args.changed.now in
    let asked = demands_on_two call.form.now call.place call.operands.now changed s t in
    let checked = λ (met : List (Measure × Measure)). each (pair_checked call.form.now call.place call.operands.now changed (length s)) met in
    let met = c.as_slice-2.ensures ∙ c.in_ok-met.ensures.met in
    let same = ap checked met ∙ sym (goes_on asked (λ agree. checked (met_of changed s t)) c.in_ok-demands_on_two.field-0 c.in_ok-demands_on_two.ensures.ok) in
    err_same (checked c.as_slice-2.result.now) (items_on_two call.form.now call.place call.operands.now changed s t) c.pairs_checked.result same c.pairs_checked.ensures.err
