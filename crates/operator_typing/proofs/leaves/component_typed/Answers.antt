use Rattle.std.proofs.Common.{Ok}
use Rattle.scalar_trees.specs.declared.typing.stop.Fault.TheVariants.{UnknownComponent}
use Rattle.scalar_trees.specs.typing.Steps.{or_refused}
use Rattle.scalar_trees.specs.typing.Scalars.{slot_typed}
use Rattle.operator_typing.proofs.Steps.{fails_there}
use Rattle.operator_typing.proofs.leaves.component_typed.Goals as goal

pub returns-in_err-slot-clause-err : goal.returns-in_err-slot-clause-err
returns-in_err-slot-clause-err c =
    fails_there (or_refused c.args.slot UnknownComponent c.args.place) (λ s. Ok (slot_typed s)) c.from_residual.result c.in_err-slot.field-0.0 c.in_err-slot.ensures.err c.from_residual.ensures.1
