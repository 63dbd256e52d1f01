-- What an operator gives on its operands (docs/language.md, "Data set operators").
use Rattle.std.specs.Prelude.{List, ◌∷◌}
use Rattle.std.specs.List.{AllZip}
use Rattle.std.specs.FinMap.{empty}
use Rattle.vtl_values.specs.declared.structure.Component.{Component}
use Rattle.vtl_values.specs.declared.value.Value.{Value}
use Rattle.vtl_values.specs.Order.{key_cmp}
use Rattle.vtl_syntax.specs.declared.words.ExistsRows.{ExistsRows}
use Rattle.data_model.specs.Outcomes.{Outcome, made}
use Rattle.point_sets.specs.DataSets.{DataSet}
use Rattle.structured_sets.specs.Fitting.{IsBoundedSetOf}
use Rattle.data_set_trees.specs.declared.clauses.clause.CheckedClause.{CheckedClause}
use Rattle.data_set_trees.specs.declared.clauses.clause.CheckedMeasure.{CheckedMeasure}
use Rattle.data_set_trees.specs.clauses.Frames.{frame_of}
use Rattle.data_set_trees.specs.declared.aggregates.aggregate.CheckedAggregate.{CheckedAggregate}
use Rattle.operator_meaning.specs.aggregates.Aggregates.{aggregate_meaning}
use Rattle.data_set_trees.specs.declared.tree.DataSetOperator.{DataSetOperator}
use Rattle.data_set_trees.specs.declared.tree.DataSetOperator.TheVariants.{Clause, Pair, Choice, ExistsIn, Set, Join, InJoin, Aggregate, Window, WindowInJoin, Time, Check, Datapoint, Hierarchy}
use Rattle.data_set_trees.specs.checked.Operators.{Operator}
use Rattle.clause_meaning.specs.Clauses.{clause_meaning}
use Rattle.operator_meaning.specs.pairs.Pairs.{pair_meaning}
use Rattle.operator_meaning.specs.pairs.Typed.{pair_on}
use Rattle.operator_meaning.specs.sets.Sets.{set_on, set_meaning}
use Rattle.operator_meaning.specs.exists.Exists.{exists_on, exists_meaning}
use Rattle.operator_meaning.specs.choices.Choices.{choice_on, choice_meaning}
use Rattle.operator_meaning.specs.joins.Joins.{join_on, join_meaning}

-- a data set, the least key at which an evaluation is out of range, or that there are too many points
abbrev pub SetOutcome : Type 0
SetOutcome = Outcome key_cmp (List Value)

-- what a scalar operator makes of its two operands, which have these structures
abbrev pub pair_on_two : List CheckedMeasure → List (List Component) → List Component → List DataSet → SetOutcome
pair_on_two items (left ∷ right ∷ operands) structure (a ∷ b ∷ xs) = pair_meaning (pair_on items left right structure) a b
pair_on_two items operands structure xs = made empty

-- what `exists_in` makes of its two operands, which have these structures
abbrev pub exists_on_two : ExistsRows → List (List Component) → List Component → List DataSet → SetOutcome
exists_on_two rows (left ∷ right ∷ operands) structure (a ∷ b ∷ xs) = exists_meaning (exists_on rows left right structure) a b
exists_on_two rows operands structure xs = made empty

-- what a clause makes of its one operand, which has this structure
abbrev pub clause_on : CheckedClause → List (List Component) → List DataSet → SetOutcome
clause_on clause (operand ∷ operands) (a ∷ xs) = clause_meaning clause (frame_of operand) a
clause_on clause operands xs = made empty

-- nothing, in place of what isn't written down yet
abbrev pub unwritten : List DataSet → SetOutcome
unwritten xs = made empty

-- what aggregates make of their one operand, which has these components
abbrev pub aggregate_on : CheckedAggregate → List (List Component) → List DataSet → SetOutcome
aggregate_on aggregate (operand ∷ operands) (a ∷ xs) = aggregate_meaning aggregate operand a
aggregate_on aggregate operands xs = made empty

-- What the operator gives. The meaning of analytic operators, of operators on time series, of `check` and of uses of
-- rulesets isn't written down here yet: no script that runs has one (`built_scripts`).
abbrev pub meaning_of : Operator → List DataSet → SetOutcome
meaning_of o = by_operator o.operator
  where
    by_operator : DataSetOperator → List DataSet → SetOutcome
    by_operator (Clause clause) = clause_on clause o.operands
    by_operator (Pair items) = pair_on_two items o.operands o.structure
    by_operator (Choice holds fails items) = choice_meaning (choice_on holds fails items o.operands o.structure)
    by_operator (ExistsIn rows) = exists_on_two rows o.operands o.structure
    by_operator (Set operation) = set_meaning (set_on operation o.operands o.structure)
    by_operator (Join f) = join_meaning (join_on f o.operands o.structure)
    by_operator (InJoin clause) = clause_on clause o.operands
    by_operator (Aggregate a) = aggregate_on a o.operands
    by_operator (Window w) = unwritten
    by_operator (WindowInJoin w) = unwritten
    by_operator (Time t) = unwritten
    by_operator (Check c) = unwritten
    by_operator (Datapoint d) = unwritten
    by_operator (Hierarchy h) = unwritten

-- operands of these structures
abbrev pub AreOperands : List (List Component) → List DataSet → Type 0
AreOperands structures xs = AllZip IsBoundedSetOf structures xs
