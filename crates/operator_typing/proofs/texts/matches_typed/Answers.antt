use Rattle.std.proofs.Common.{Ok}
use Rattle.vtl_values.specs.declared.kind.Kind.TheVariants.{Text, Truth}
use Rattle.scalar_trees.specs.declared.typing.stop.Fault.TheVariants.{BadPattern}
use Rattle.scalar_trees.specs.declared.tree.CheckedExpr.TheVariants as tree
use Rattle.scalar_texts.specs.Patterns.{is_pattern}
use Rattle.scalar_trees.specs.typing.Steps.{◌>>=◌, demanded}
use Rattle.scalar_trees.specs.typing.Scalars.{wanted, typed_as}
use Rattle.operator_typing.proofs.Steps.{stops_there, fails_there, fails_after}
use Rattle.operator_typing.proofs.texts.matches_typed.Goals as goal

pub returns-in_err-operand-clause-err : goal.returns-in_err-operand-clause-err
returns-in_err-operand-clause-err c =
    fails_there (wanted c.args.place Text c.args.operand) (λ w. demanded (is_pattern c.args.pattern.now) BadPattern c.args.place >>= (λ met. Ok (typed_as Truth (tree.Matches w c.args.pattern.now)))) c.from_residual.result c.in_err-operand.field-0.0 c.in_err-operand.ensures.err c.from_residual.ensures.1

pub returns-in_err-pattern-clause-err : goal.returns-in_err-pattern-clause-err
returns-in_err-pattern-clause-err c =
    let stop = c.in_err-pattern.field-0.0 in
    let w = c.in_ok-operand.operand in
    fails_after (wanted c.args.place Text c.args.operand) (λ w. demanded (is_pattern c.args.pattern.now) BadPattern c.args.place >>= (λ met. Ok (typed_as Truth (tree.Matches w c.args.pattern.now)))) w c.from_residual-in_err-pattern.result stop
    c.in_ok-operand.ensures.ok
    (stops_there (demanded (is_pattern c.args.pattern.now) BadPattern c.args.place) (λ met. Ok (typed_as Truth (tree.Matches w c.args.pattern.now))) stop c.in_err-pattern.ensures.err)
    c.from_residual-in_err-pattern.ensures.1
