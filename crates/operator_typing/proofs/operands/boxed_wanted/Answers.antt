use Rattle.scalar_trees.specs.typing.Scalars.{wanted}
use Rattle.operator_typing.proofs.Steps.{passed_on}
use Rattle.operator_typing.proofs.operands.boxed_wanted.Goals as goal

pub returns-in_err-tree-clause-err : goal.returns-in_err-tree-clause-err
returns-in_err-tree-clause-err c = passed_on (wanted c.args.place c.args.kind c.args.operand) c.from_residual.result c.in_err-tree.field-0.0 c.in_err-tree.ensures.err c.from_residual.ensures.1
