use Rattle.std.proofs.Common.{Ok}
use Rattle.vtl_values.specs.declared.kind.Kind.TheVariants.{Text, Integer}
use Rattle.scalar_trees.specs.declared.tree.CheckedExpr.TheVariants as tree
use Rattle.scalar_trees.specs.typing.Steps.{◌>>=◌}
use Rattle.scalar_trees.specs.typing.Scalars.{wanted, wanted_if, typed_as}
use Rattle.operator_typing.proofs.Steps.{stops_there, stops_after, fails_there, fails_after}
use Rattle.operator_typing.proofs.texts.substr_typed.Goals as goal

pub returns-in_err-operand-clause-err : goal.returns-in_err-operand-clause-err
returns-in_err-operand-clause-err c =
    fails_there (wanted c.args.place Text c.args.operand) (λ x. wanted_if c.args.place Integer c.args.start >>= (λ y. wanted_if c.args.place Integer c.args.length >>= (λ z. Ok (typed_as Text (tree.Substr x y z))))) c.from_residual.result c.in_err-operand.field-0.0 c.in_err-operand.ensures.err c.from_residual.ensures.1

pub returns-in_err-start-clause-err : goal.returns-in_err-start-clause-err
returns-in_err-start-clause-err c =
    let stop = c.in_err-start.field-0.0 in
    let x = c.in_ok-operand.operand in
    fails_after (wanted c.args.place Text c.args.operand) (λ x. wanted_if c.args.place Integer c.args.start >>= (λ y. wanted_if c.args.place Integer c.args.length >>= (λ z. Ok (typed_as Text (tree.Substr x y z))))) x c.from_residual-in_err-start.result stop c.in_ok-operand.ensures.ok
    (stops_there (wanted_if c.args.place Integer c.args.start) (λ y. wanted_if c.args.place Integer c.args.length >>= (λ z. Ok (typed_as Text (tree.Substr x y z)))) stop c.in_err-start.ensures.err)
    c.from_residual-in_err-start.ensures.1

pub returns-in_err-length-clause-err : goal.returns-in_err-length-clause-err
returns-in_err-length-clause-err c =
    let stop = c.in_err-length.field-0.0 in
    let x = c.in_ok-operand.operand in
    let y = c.in_ok-start.start in
    fails_after (wanted c.args.place Text c.args.operand) (λ x. wanted_if c.args.place Integer c.args.start >>= (λ y. wanted_if c.args.place Integer c.args.length >>= (λ z. Ok (typed_as Text (tree.Substr x y z))))) x c.from_residual-in_err-length.result stop c.in_ok-operand.ensures.ok
    (stops_after (wanted_if c.args.place Integer c.args.start) (λ y. wanted_if c.args.place Integer c.args.length >>= (λ z. Ok (typed_as Text (tree.Substr x y z)))) y stop c.in_ok-start.ensures.ok
    (stops_there (wanted_if c.args.place Integer c.args.length) (λ z. Ok (typed_as Text (tree.Substr x y z))) stop c.in_err-length.ensures.err))
    c.from_residual-in_err-length.ensures.1
