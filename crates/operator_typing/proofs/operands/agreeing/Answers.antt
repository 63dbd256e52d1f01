use Rattle.std.proofs.Common.{[], ◌∷◌, Result, Ok}
use Rattle.vtl_values.specs.declared.kind.Kind.{Kind}
use Rattle.scalar_trees.specs.declared.typing.stop.Refusal.{Refusal}
use Rattle.scalar_trees.specs.typing.Scalars.{Agreed, joint, widened}
use Rattle.scalar_trees.specs.typing.Steps.{◌>>=◌}
use Rattle.operator_typing.proofs.Steps.{stops_there, passed_on}
use Rattle.operator_typing.proofs.operands.agreeing.Goals as goal

pub returns-in_err-kind-clause-err : goal.returns-in_err-kind-clause-err
returns-in_err-kind-clause-err c =
    let kind : Result Kind Refusal = joint c.args.place c.args.takes.now (c.args.left.kind ∷ c.args.right.kind ∷ []) in
    let next : Kind → Result Agreed Refusal = λ q. Ok (record { kind = q; left = widened q c.args.left; right = widened q c.args.right }) in
    let stop = c.in_err-kind.field-0.0 in
    passed_on (kind >>= next) c.from_residual.result stop (stops_there kind next stop c.in_err-kind.ensures.err) c.from_residual.ensures.1
