use Rattle.std.proofs.Common.{List, take_all, subst}
use Rattle.std.specs.List.{All}
use Rattle.vtl_values.specs.Structures.{IsStructure}
use Rattle.vtl_values.specs.declared.structure.Component.{Component}
use Rattle.built_scripts.proofs.Lists.{all-more}
use Rattle.built_scripts.proofs.operators.have_structures.Goals as goal

pub loop-operand-preserved : goal.loop-operand-preserved
loop-operand-preserved c = all-more IsStructure c.args.operands.now c.loop-operand.operand-index c.operand-item.result c.loop-operand-test.true c.operand-item.is c.loop-operand.invariant c.components.ensures.structure

pub returns-clause-operands : goal.returns-clause-operands
returns-clause-operands c = subst (λ (ss : List (List Component)). All IsStructure ss) (take_all c.loop-operand.operand-index c.args.operands.now c.loop-operand-test.false) c.loop-operand.invariant
