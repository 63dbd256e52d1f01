-- Expressions: names, and operators at places with their operands.
use Rattle.std.specs.Prelude.{List, [], ◌∷◌, map}
use Rattle.vtl_values.specs.declared.place.Place.{Place}
use Rattle.data_set_trees.specs.declared.tree.DataSetNode.{DataSetNode}
use Rattle.data_set_trees.specs.declared.tree.Source.{Source}
use Rattle.data_set_trees.specs.declared.tree.DataSetTree.{DataSetTree, fold-DataSetTree}
use Rattle.data_set_trees.specs.declared.tree.DataSetTree.TheOpen.{DataSetTree-F, DataSetNode-F}
use Rattle.data_set_trees.specs.checked.Operators.{an_operator, Operator}

mutual
  -- a name of the sort N, or an operator at its place on its operands
  pub data Expression (N : Type 0) : Type 0 where
    Named : N → Expression N
    Applied : Operator → Place → Expressions N → Expression N

  pub data Expressions (N : Type 0) : Type 0 where
    none : Expressions N
    more : Expression N → Expressions N → Expressions N

abbrev pub expressions : {N : Type 0} → List (Expression N) → Expressions N
expressions [] = none
expressions (e ∷ es) = more e (expressions es)

abbrev pub name_step : DataSetTree-F (Expression Source) (Expression Source) → Expression Source
name_step (DataSetTree-F.Name source) = Named source
name_step (DataSetTree-F.Operator e) = e

abbrev pub node_step : DataSetNode-F (Expression Source) (Expression Source) → Expression Source
node_step n = Applied (an_operator n.operator n.operands n.structure) n.place (expressions n.children)

-- the expression of a tree
abbrev pub expression_of : DataSetTree → Expression Source
expression_of = fold-DataSetTree (Expression Source) (Expression Source) name_step node_step

-- the expression of an operator of a tree
abbrev pub expression_of_node : DataSetNode → Expression Source
expression_of_node n = Applied (an_operator n.operator n.operands n.structure) n.place (expressions (map expression_of n.children))

abbrev mutual
  -- the expression with other names
  pub renamed : {N M : Type 0} → (N → M) → Expression N → Expression M
  renamed f (Named n) = Named (f n)
  renamed f (Applied o place es) = Applied o place (all_renamed f es)

  pub all_renamed : {N M : Type 0} → (N → M) → Expressions N → Expressions M
  all_renamed f none = none
  all_renamed f (more e es) = more (renamed f e) (all_renamed f es)
