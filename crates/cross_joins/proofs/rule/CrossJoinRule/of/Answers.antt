-- The operator is a join, and its plan is for these operands.
use Rattle.std.proofs.Common.{List, sym, subst}
use Rattle.vtl_values.specs.declared.structure.Component.{Component}
use Rattle.vtl_syntax.specs.declared.words.JoinFunction.TheVariants.{Cross}
use Rattle.data_set_trees.specs.declared.tree.DataSetOperator.{DataSetOperator}
use Rattle.data_set_trees.specs.checked.Operators.{IsTypedJoin, TakesOperands, an_operator}
use Rattle.operator_meaning.specs.joins.Joins.{join_on}
use Rattle.operator_meaning.specs.joins.Typed.{IsTypedJoinOn}
use Rattle.cross_joins.proofs.rule.CrossJoinRule.of.Goals as goal

pub of-requires : goal.of-requires
of-requires c =
    let node = c.args.node.now in
    let typed : IsTypedJoinOn (join_on Cross node.operands node.structure) = record {
      structures = c.requires.typed.structures;
      structure_is = c.requires.typed.result;
      join = let takes : IsTypedJoin Cross node.operands node.structure = subst (λ (operator : DataSetOperator). TakesOperands (an_operator operator node.operands node.structure)) c.requires.cross c.requires.typed.takes in takes;
    } in
    subst (λ (ss : List (List Component)). IsTypedJoinOn (join_on Cross ss node.structure)) (sym c.as_slice-operands.ensures) typed
