use Rattle.std.proofs.Common.{[], ◌∷◌, Ok}
use Rattle.scalar_trees.specs.typing.Scalars.{joint, widened}
use Rattle.operator_typing.proofs.Steps.{fails_there}
use Rattle.operator_typing.proofs.operands.wanted.Goals as goal

pub returns-in_err-kind-clause-err : goal.returns-in_err-kind-clause-err
returns-in_err-kind-clause-err c = fails_there (joint c.args.place (c.args.kind ∷ []) (c.args.operand.kind ∷ [])) (λ q. Ok (widened q c.args.operand)) c.from_residual.result c.in_err-kind.field-0.0 c.in_err-kind.ensures.err c.from_residual.ensures.1
