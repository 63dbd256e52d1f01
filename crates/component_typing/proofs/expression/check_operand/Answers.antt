use Rattle.component_typing.proofs.Steps.{as_written}
use Rattle.component_typing.proofs.expression.check_operand.Goals as goal

pub returns-clause-as_written : goal.returns-clause-as_written
returns-clause-as_written c = as_written c.args.scope.now c.args.basis c.args.tree.now c.types.result c.types.ensures.ok
