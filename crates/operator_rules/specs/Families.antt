-- The rules of the families. Each is seen as its operator, and what it wants and reaches is told by that.
use Rattle.std.specs.Prelude.{ℕ, List, [], length}
use Rattle.data_set_trees.specs.checked.Operators.{Operator}
use Rattle.point_sets.specs.Changes.{Changes}
use Rattle.held_index.specs.Holdings.{Holding}
use Rattle.held_index.specs.declared.want.Want.{Want}
use Rattle.held_index.specs.Wants.{all_whole}
use Rattle.choice_ops.specs.Reach.{choice_reach}
use Rattle.choice_ops.specs.Rules as choice
use Rattle.clause_ops.specs.Rules.{IsClause}
use Rattle.cross_joins.specs.Reach.{cross_reach}
use Rattle.cross_joins.specs.Rules.{IsCross}
use Rattle.exists_ops.specs.Rules as exists
use Rattle.inner_joins.specs.Reach.{inner_reach}
use Rattle.inner_joins.specs.Rules as inner
use Rattle.outer_joins.specs.Reach.{outer_reach}
use Rattle.outer_joins.specs.Rules as outer
use Rattle.pair_ops.specs.Reach.{matching_reach}
use Rattle.pair_ops.specs.Rules as pair
use Rattle.set_ops.specs.Reach.{set_reach}
use Rattle.set_ops.specs.Rules as set
use Rattle.operator_rules.specs.declared.family.FamilyRule.{FamilyRule}
use Rattle.operator_rules.specs.declared.family.FamilyRule.TheVariants.{Clause, Pair, Choice, Exists, Set, OuterJoin, InnerJoin, CrossJoin}

-- the operator of a rule
unfoldable pub operator_of : FamilyRule → Operator
operator_of (Clause rule) = rule
operator_of (Pair rule) = rule
operator_of (Choice rule) = rule
operator_of (Exists rule) = rule
operator_of (Set rule) = rule
operator_of (OuterJoin rule) = rule
operator_of (InnerJoin rule) = rule
operator_of (CrossJoin rule) = rule

-- a rule is of the family to which its operator belongs
unfoldable pub IsOfItsFamily : FamilyRule → Type 0
IsOfItsFamily (Clause rule) = IsClause rule.operator
IsOfItsFamily (Pair rule) = pair.IsPair rule.operator
IsOfItsFamily (Choice rule) = choice.IsChoice rule.operator
IsOfItsFamily (Exists rule) = exists.IsExists rule.operator
IsOfItsFamily (Set rule) = set.IsSet rule.operator
IsOfItsFamily (OuterJoin rule) = outer.IsOuter rule.operator
IsOfItsFamily (InnerJoin rule) = inner.IsInner rule.operator
IsOfItsFamily (CrossJoin rule) = IsCross rule.operator

-- what a rule wants held
unfoldable pub wanted_in : FamilyRule → List Want
wanted_in (Clause rule) = []
wanted_in (Pair rule) = pair.wanted_of rule
wanted_in (Choice rule) = choice.wanted_of rule
wanted_in (Exists rule) = exists.wanted_of rule
wanted_in (Set rule) = set.wanted_of rule
wanted_in (OuterJoin rule) = outer.wanted_of rule
wanted_in (InnerJoin rule) = inner.wanted_of rule
wanted_in (CrossJoin rule) = all_whole (length rule.operands)

-- how many steps a rule may take, for what is held and the news of its operands
unfoldable pub reach_in : FamilyRule → List Holding → List Changes → ℕ
reach_in (Clause rule) = λ held news. 0
reach_in (Pair rule) = matching_reach rule.operands (pair.main_number (pair.pair_in rule))
reach_in (Choice rule) = choice_reach rule.operands
reach_in (Exists rule) = matching_reach rule.operands 0
reach_in (Set rule) = λ held news. set_reach (length rule.operands) news
reach_in (OuterJoin rule) = λ held news. outer_reach (length rule.operands) news
reach_in (InnerJoin rule) = inner_reach (inner.join_in rule)
reach_in (CrossJoin rule) = cross_reach (length rule.operands)
