use Rattle.std.proofs.Common.{Ok, ap}
use Rattle.vtl_values.specs.declared.kind.Kind.TheVariants.{Number}
use Rattle.scalar_trees.specs.declared.typing.stop.Fault.TheVariants.{BadConstant}
use Rattle.scalar_trees.specs.declared.tree.CheckedExpr.TheVariants as tree
use Rattle.scalar_trees.specs.WellTyped.{digits_fit}
use Rattle.scalar_trees.specs.Kinds.{round_gives}
use Rattle.scalar_trees.specs.typing.Steps.{◌>>=◌, demanded}
use Rattle.scalar_trees.specs.typing.Scalars.{wanted, typed_as}
use Rattle.operator_typing.proofs.Steps.{stops_same, stops_there, fails_there, fails_after}
use Rattle.operator_typing.proofs.numbers.round_typed.Goals as goal

pub returns-in_err-operand-clause-err : goal.returns-in_err-operand-clause-err
returns-in_err-operand-clause-err c =
    fails_there (wanted c.args.place Number c.args.operand) (λ w. demanded (digits_fit c.args.digits) BadConstant c.args.place >>= (λ met. Ok (typed_as (round_gives c.args.digits) (tree.Round c.args.function w c.args.digits)))) c.from_residual.result c.in_err-operand.field-0.0 c.in_err-operand.ensures.err c.from_residual.ensures.1

pub returns-in_err-demand-clause-err : goal.returns-in_err-demand-clause-err
returns-in_err-demand-clause-err c =
    let stop = c.in_err-demand.field-0.0 in
    let w = c.in_ok-operand.operand in
    fails_after (wanted c.args.place Number c.args.operand) (λ w. demanded (digits_fit c.args.digits) BadConstant c.args.place >>= (λ met. Ok (typed_as (round_gives c.args.digits) (tree.Round c.args.function w c.args.digits)))) w c.from_residual-in_err-demand.result stop
    c.in_ok-operand.ensures.ok
    (stops_there (demanded (digits_fit c.args.digits) BadConstant c.args.place) (λ met. Ok (typed_as (round_gives c.args.digits) (tree.Round c.args.function w c.args.digits))) stop
    (stops_same (demanded c.digits_fit.result BadConstant c.args.place) (demanded (digits_fit c.args.digits) BadConstant c.args.place) stop (ap (λ b. demanded b BadConstant c.args.place) c.digits_fit.ensures) c.in_err-demand.ensures.err))
    c.from_residual-in_err-demand.ensures.1
