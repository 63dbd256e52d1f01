use Rattle.std.proofs.Common.{Ok, ap}
use Rattle.scalar_trees.specs.declared.tree.CheckedExpr.TheVariants as tree
use Rattle.scalar_trees.specs.Kinds.{binary_takes, binary_gives}
use Rattle.scalar_trees.specs.typing.Scalars.{agreeing, typed_as}
use Rattle.operator_typing.proofs.Steps.{stops_same, fails_there}
use Rattle.operator_typing.proofs.tables.binary_typed.Goals as goal

pub returns-in_err-agreed-clause-err : goal.returns-in_err-agreed-clause-err
returns-in_err-agreed-clause-err c =
    let takes = c.binary_takes.result.now in
    let stop = c.in_err-agreed.field-0.0 in
    fails_there (agreeing c.args.place (binary_takes c.args.operator) c.args.left c.args.right) (λ j. Ok (typed_as (binary_gives c.args.operator j.kind) (tree.Binary c.args.operator j.left j.right))) c.from_residual.result stop
    (stops_same (agreeing c.args.place takes c.args.left c.args.right) (agreeing c.args.place (binary_takes c.args.operator) c.args.left c.args.right) stop (ap (λ ks. agreeing c.args.place ks c.args.left c.args.right) c.binary_takes.ensures) c.in_err-agreed.ensures.err)
    c.from_residual.ensures.1
