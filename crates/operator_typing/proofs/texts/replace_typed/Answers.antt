use Rattle.std.proofs.Common.{Ok}
use Rattle.vtl_values.specs.declared.kind.Kind.TheVariants.{Text}
use Rattle.scalar_trees.specs.declared.tree.CheckedExpr.TheVariants as tree
use Rattle.scalar_trees.specs.typing.Steps.{◌>>=◌}
use Rattle.scalar_trees.specs.typing.Scalars.{wanted, wanted_if, typed_as}
use Rattle.operator_typing.proofs.Steps.{stops_there, stops_after, fails_there, fails_after}
use Rattle.operator_typing.proofs.texts.replace_typed.Goals as goal

pub returns-in_err-operand-clause-err : goal.returns-in_err-operand-clause-err
returns-in_err-operand-clause-err c =
    fails_there (wanted c.args.place Text c.args.operand) (λ x. wanted c.args.place Text c.args.pattern >>= (λ y. wanted_if c.args.place Text c.args.by >>= (λ z. Ok (typed_as Text (tree.Replace x y z))))) c.from_residual.result c.in_err-operand.field-0.0 c.in_err-operand.ensures.err c.from_residual.ensures.1

pub returns-in_err-pattern-clause-err : goal.returns-in_err-pattern-clause-err
returns-in_err-pattern-clause-err c =
    let stop = c.in_err-pattern.field-0.0 in
    let x = c.in_ok-operand.operand in
    fails_after (wanted c.args.place Text c.args.operand) (λ x. wanted c.args.place Text c.args.pattern >>= (λ y. wanted_if c.args.place Text c.args.by >>= (λ z. Ok (typed_as Text (tree.Replace x y z))))) x c.from_residual-in_err-pattern.result stop c.in_ok-operand.ensures.ok
    (stops_there (wanted c.args.place Text c.args.pattern) (λ y. wanted_if c.args.place Text c.args.by >>= (λ z. Ok (typed_as Text (tree.Replace x y z)))) stop c.in_err-pattern.ensures.err)
    c.from_residual-in_err-pattern.ensures.1

pub returns-in_err-by-clause-err : goal.returns-in_err-by-clause-err
returns-in_err-by-clause-err c =
    let stop = c.in_err-by.field-0.0 in
    let x = c.in_ok-operand.operand in
    let y = c.in_ok-pattern.pattern in
    fails_after (wanted c.args.place Text c.args.operand) (λ x. wanted c.args.place Text c.args.pattern >>= (λ y. wanted_if c.args.place Text c.args.by >>= (λ z. Ok (typed_as Text (tree.Replace x y z))))) x c.from_residual-in_err-by.result stop c.in_ok-operand.ensures.ok
    (stops_after (wanted c.args.place Text c.args.pattern) (λ y. wanted_if c.args.place Text c.args.by >>= (λ z. Ok (typed_as Text (tree.Replace x y z)))) y stop c.in_ok-pattern.ensures.ok
    (stops_there (wanted_if c.args.place Text c.args.by) (λ z. Ok (typed_as Text (tree.Replace x y z))) stop c.in_err-by.ensures.err))
    c.from_residual-in_err-by.ensures.1
