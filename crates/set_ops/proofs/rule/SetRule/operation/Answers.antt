use Rattle.std.proofs.Common.{sym, ap, subst, ◌∙◌}
use Rattle.data_set_trees.specs.declared.tree.DataSetOperator.{DataSetOperator}
use Rattle.data_set_trees.specs.checked.Operators.{Operator, IsTyped}
use Rattle.set_ops.specs.Rules.{IsSet}
use Rattle.set_ops.proofs.rule.SetRule.operation.Goals as goal

pub operation_of-requires : goal.operation_of-requires
operation_of-requires c = subst (λ (o : DataSetOperator). IsSet o) (sym c.get.ensures) c.self.invariant.set

pub returns-clause-typed : goal.returns-clause-typed
returns-clause-typed c = subst (λ (o : Operator). IsTyped o) c.self.view_is c.self.invariant.typed

pub returns-clause-operation : goal.returns-clause-operation
returns-clause-operation c = ap (λ (o : Operator). o.operator) (sym c.self.view_is) ∙ sym c.get.ensures ∙ c.operation_of.ensures
