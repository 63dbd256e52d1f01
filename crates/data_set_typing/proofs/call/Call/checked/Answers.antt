use Rattle.std.proofs.Common.{Ok, unwrap_or}
use Rattle.data_set_trees.specs.Lifted.{answer, checked_measure}
use Rattle.operator_typing.proofs.Steps.{fails_there}
use Rattle.data_set_typing.proofs.call.Call.checked.Goals as goal

pub returns-in_err-typed-clause-err : goal.returns-in_err-typed-clause-err
returns-in_err-typed-clause-err c =
    let call = c.args.self.now in
    fails_there (answer call.form.now call.place call.operands.now c.args.slots.now) (λ t. Ok (checked_measure (unwrap_or c.args.changed.now c.args.name.now) t)) c.from_residual.result c.in_err-typed.field-0.0 c.in_err-typed.ensures.err c.from_residual.ensures.1
