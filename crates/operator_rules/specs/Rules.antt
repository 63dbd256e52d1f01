-- The rules of operators: what each wants held of its operands, and how many steps it may take.
use Rattle.std.specs.Prelude.{ℕ, ◌<◌, List, [], length, slice_index_or}
use Rattle.std.specs.List.{All}
use Rattle.vtl_values.specs.declared.structure.Component.{Component}
use Rattle.vtl_syntax.specs.declared.words.JoinFunction.{JoinFunction}
use Rattle.vtl_syntax.specs.declared.words.JoinFunction.TheVariants.{Inner, Left, Full, Cross}
use Rattle.data_set_trees.specs.declared.tree.DataSetOperator.{DataSetOperator}
use Rattle.data_set_trees.specs.declared.tree.DataSetOperator.TheVariants.{Pair, Choice, ExistsIn, Set, Join}
use Rattle.data_set_trees.specs.checked.Operators.{Operator}
use Rattle.point_sets.specs.Changes.{Changes}
use Rattle.held_index.specs.Holdings.{Holding, FitsStructure}
use Rattle.held_index.specs.declared.want.Want.{Want}
use Rattle.held_index.specs.Wants.{all_whole}
use Rattle.choice_ops.specs.Reach.{choice_reach}
use Rattle.cross_joins.specs.Reach.{cross_reach}
use Rattle.exists_ops.specs.Rules as exists
use Rattle.inner_joins.specs.Reach.{inner_reach}
use Rattle.inner_joins.specs.Rules as inner
use Rattle.outer_joins.specs.Reach.{outer_reach}
use Rattle.pair_ops.specs.Reach.{matching_reach}
use Rattle.pair_ops.specs.Rules as pair
use Rattle.set_ops.specs.Reach.{set_reach}

abbrev pub wanted_by_join : JoinFunction → Operator → List Want
wanted_by_join Inner o = inner.wanted_of o
wanted_by_join Left o = all_whole (length o.operands)
wanted_by_join Full o = all_whole (length o.operands)
wanted_by_join Cross o = all_whole (length o.operands)

abbrev pub wanted_by : DataSetOperator → Operator → List Want
wanted_by (Pair items) o = pair.wanted_of o
wanted_by (Choice holds fails measures) o = all_whole (length o.operands)
wanted_by (ExistsIn rows) o = exists.wanted_of o
wanted_by (Set operation) o = all_whole (length o.operands)
wanted_by (Join function) o = wanted_by_join function o
wanted_by _ o = []

-- what the rule of an operator wants held: of a clause nothing
unfoldable pub wanted_of : Operator → List Want
wanted_of o = wanted_by o.operator o

abbrev pub reach_by_join : JoinFunction → Operator → List Holding → List Changes → ℕ
reach_by_join Inner o held news = inner_reach (inner.join_in o) held news
reach_by_join Left o held news = outer_reach (length o.operands) news
reach_by_join Full o held news = outer_reach (length o.operands) news
reach_by_join Cross o held news = cross_reach (length o.operands) held news

abbrev pub reach_by : DataSetOperator → Operator → List Holding → List Changes → ℕ
reach_by (Pair items) o held news = matching_reach o.operands (pair.main_number (pair.pair_in o)) held news
reach_by (Choice holds fails measures) o held news = choice_reach o.operands held news
reach_by (ExistsIn rows) o held news = matching_reach o.operands 0 held news
reach_by (Set operation) o held news = set_reach (length o.operands) news
reach_by (Join function) o held news = reach_by_join function o held news
reach_by _ o held news = 0

-- how many steps the rule of an operator may take, for what is held and the news of its operands: that of a clause takes none
unfoldable pub reach_of : Operator → List Holding → List Changes → ℕ
reach_of o held news = reach_by o.operator o held news

-- a want is of an operand that there is, and names components of that
pub record IsWanted (w : Want) (operands : List (List Component)) : Type 0 where
  pub below : w.operand < length operands
  pub fits : (operand : List Component) → FitsStructure w (slice_index_or operands w.operand operand)

abbrev pub AreWanted : List Want → List (List Component) → Type 0
AreWanted wants operands = All (λ w. IsWanted w operands) wants
