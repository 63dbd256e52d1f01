use Rattle.std.proofs.Common.{List, sym, subst}
use Rattle.vtl_values.specs.declared.structure.Component.{Component}
use Rattle.vtl_syntax.specs.declared.words.JoinFunction.TheVariants.{Inner}
use Rattle.data_set_trees.specs.checked.Operators.{an_operator, Operator}
use Rattle.operator_meaning.specs.joins.Joins.{join_on}
use Rattle.operator_meaning.specs.joins.Typed.{IsTypedJoinOn}
use Rattle.inner_joins.proofs.Wanted.{inner-on}
use Rattle.inner_joins.proofs.rule.InnerJoinRule.of.Goals as goal

pub of-requires : goal.of-requires
of-requires c =
    let node = c.args.node.now in
    let o : Operator = an_operator node.operator node.operands node.structure in
    subst (λ (ss : List (List Component)). IsTypedJoinOn (join_on Inner ss node.structure)) (sym c.as_slice.ensures) (inner-on o c.requires.typed c.requires.inner).typed
