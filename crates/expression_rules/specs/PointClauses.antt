-- What clauses on points leave, and which operators they are (docs/language.md, "Clauses", "Analytic operators").
use Rattle.std.specs.Prelude.{List, [], ◌∷◌, map}
use Rattle.vtl_values.specs.declared.place.Place.{Place}
use Rattle.data_set_trees.specs.declared.clauses.frame.Frame.{Frame}
use Rattle.data_set_trees.specs.clauses.After as clauses
use Rattle.data_set_trees.specs.clauses.Frames.{frame_of}
use Rattle.data_set_trees.specs.windows.Results as windows
use Rattle.data_set_trees.specs.declared.operand.DataSet.{DataSet}
use Rattle.data_set_trees.specs.declared.tree.DataSetOperator.{DataSetOperator}
use Rattle.data_set_trees.specs.declared.tree.DataSetOperator.TheVariants as operator
use Rattle.data_set_trees.specs.Components.{unlisted}
use Rattle.data_set_trees.specs.Trees.{applied}
use Rattle.expression_rules.specs.declared.point_clause.PointClause.{PointClause}
use Rattle.expression_rules.specs.declared.point_clause.PointClause.TheVariants.{Alone, Analytic}

-- what it leaves of a frame
abbrev pub after : PointClause → Frame → Frame
after (Alone c) frame = clauses.after c frame
after (Analytic w) frame = windows.after w frame

-- the operator that it is on a data set
abbrev pub operator_of : PointClause → DataSetOperator
operator_of (Alone c) = operator.Clause c
operator_of (Analytic w) = operator.Window w

-- and inside a join
abbrev pub operator_inside : PointClause → DataSetOperator
operator_inside (Alone c) = operator.InJoin c
operator_inside (Analytic w) = operator.WindowInJoin w

-- at its place on a data set
abbrev pub with_clause : PointClause → Place → DataSet → DataSet
with_clause c place d = applied (operator_of c) place (d ∷ []) (map unlisted (after c (frame_of d.structure)).components)
