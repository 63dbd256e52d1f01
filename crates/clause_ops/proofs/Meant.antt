-- A clause gives in a join what it gives on a data set.
use Rattle.std.proofs.Common.{◌≡◌, List, [], ◌∷◌, Some, ap}
use Rattle.vtl_values.specs.declared.structure.Component.{Component}
use Rattle.data_set_trees.specs.declared.clauses.clause.CheckedClause.{CheckedClause}
use Rattle.data_set_trees.specs.declared.tree.DataSetOperator.{DataSetOperator}
use Rattle.data_set_trees.specs.declared.tree.DataSetOperator.TheVariants.{Clause, Pair, Choice, ExistsIn, Set, Join, InJoin, Aggregate, Window, WindowInJoin, Time, Check, Datapoint, Hierarchy}
use Rattle.operator_meaning.specs.Operators.{clause_on, meaning_of}
use Rattle.clause_ops.specs.Rules.{clause_in, on_one}

-- what an operator gives that is a clause
pub meaning-one : (operator : DataSetOperator) (clause : CheckedClause) (operand structure : List Component) → clause_in operator ≡ Some clause → meaning_of (on_one operator operand structure) ≡ clause_on clause (operand ∷ [])
meaning-one (Clause own) clause operand structure e = let same : own ≡ clause = cc in ap (λ (c : CheckedClause). clause_on c (operand ∷ [])) same
meaning-one (InJoin own) clause operand structure e = let same : own ≡ clause = cc in ap (λ (c : CheckedClause). clause_on c (operand ∷ [])) same
meaning-one (Pair items) clause operand structure e = cc
meaning-one (Choice holds fails items) clause operand structure e = cc
meaning-one (ExistsIn rows) clause operand structure e = cc
meaning-one (Set operation) clause operand structure e = cc
meaning-one (Join f) clause operand structure e = cc
meaning-one (Aggregate a) clause operand structure e = cc
meaning-one (Window w) clause operand structure e = cc
meaning-one (WindowInJoin w) clause operand structure e = cc
meaning-one (Time t) clause operand structure e = cc
meaning-one (Check c) clause operand structure e = cc
meaning-one (Datapoint d) clause operand structure e = cc
meaning-one (Hierarchy h) clause operand structure e = cc
