use Rattle.std.proofs.Common.{Ok, ap, sym, ◌∙◌}
use Rattle.operator_typing.proofs.Steps.{stops_same, fails_there}
use Rattle.data_set_typing.specs.Plans.{items_on_one, of_one}
use Rattle.data_set_typing.proofs.Measured.{measured_structure}
use Rattle.data_set_typing.proofs.call.Call.planned_on_one.Goals as goal

pub of_one-requires : goal.of_one-requires
of_one-requires c =
    let call = c.args.self.now in
    let s = c.args.structure.now in
    let of = items_on_one call.form.now call.place call.operands.now c.args.changed.now in
    measured_structure call.form.now call.place call.operands.now c.args.changed.now s c.in_ok-items.items c.components.ensures.structure (ap of (sym c.components.ensures.value) ∙ c.in_ok-items.ensures.ok)

pub returns-in_err-items-clause-err : goal.returns-in_err-items-clause-err
returns-in_err-items-clause-err c =
    let call = c.args.self.now in
    let s = c.args.structure.now in
    let stop = c.in_err-items.field-0.0 in
    let of = items_on_one call.form.now call.place call.operands.now c.args.changed.now in
    fails_there (of s) (λ items. Ok (of_one s items)) c.from_residual.result stop (stops_same (of c.components.result.now) (of s) stop (ap of c.components.ensures.value) c.in_err-items.ensures.err) c.from_residual.ensures.1
