use Rattle.std.proofs.Common.{[]}
use Rattle.scalar_trees.specs.typing.Steps.{◌>>=◌}
use Rattle.operator_typing.proofs.Steps.{stops_there, fails_there, fails_after}
use Rattle.data_set_trees.specs.Components.{measures}
use Rattle.data_set_trees.specs.Lifted.{answer}
use Rattle.data_set_parts.specs.Walks.{each}
use Rattle.data_set_typing.specs.Plans.{measure_checked, demands_on_one}
use Rattle.data_set_typing.proofs.call.Call.items_on_one.Goals as goal

pub returns-in_err-demands_on_one-clause-err : goal.returns-in_err-demands_on_one-clause-err
returns-in_err-demands_on_one-clause-err c =
    let call = c.args.self.now in
    let s = c.args.components.now in
    let h = measure_checked call.form.now call.place call.operands.now c.args.changed.now in
    fails_there (demands_on_one call.form.now call.place call.operands.now c.args.changed.now s) (λ met. answer call.form.now call.place call.operands.now [] >>= (λ constants. each h (measures s))) c.from_residual.result c.in_err-demands_on_one.field-0.0 c.in_err-demands_on_one.ensures.err c.from_residual.ensures.1

pub returns-in_err-constants-clause-err : goal.returns-in_err-constants-clause-err
returns-in_err-constants-clause-err c =
    let call = c.args.self.now in
    let s = c.args.components.now in
    let h = measure_checked call.form.now call.place call.operands.now c.args.changed.now in
    let stop = c.in_err-constants.field-0.0 in
    fails_after (demands_on_one call.form.now call.place call.operands.now c.args.changed.now s) (λ met. answer call.form.now call.place call.operands.now [] >>= (λ constants. each h (measures s))) c.in_ok-demands_on_one.field-0 c.from_residual-in_err-constants.result stop c.in_ok-demands_on_one.ensures.ok
    (stops_there (answer call.form.now call.place call.operands.now []) (λ constants. each h (measures s)) stop c.in_err-constants.ensures.err) c.from_residual-in_err-constants.ensures.1
