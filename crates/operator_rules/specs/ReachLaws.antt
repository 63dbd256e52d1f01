-- Without a change no rule reaches anything.
use Rattle.std.specs.Prelude.{◌≡◌, List, length, refl}
use Rattle.vtl_syntax.specs.declared.words.JoinFunction.{JoinFunction}
use Rattle.vtl_syntax.specs.declared.words.JoinFunction.TheVariants.{Inner, Left, Full, Cross}
use Rattle.data_set_trees.specs.declared.tree.DataSetOperator.{DataSetOperator}
use Rattle.data_set_trees.specs.declared.tree.DataSetOperator.TheVariants as operator
use Rattle.data_set_trees.specs.checked.Operators.{Operator}
use Rattle.held_index.specs.Holdings.{Holding}
use Rattle.held_index.specs.Reach.{changes_in}
use Rattle.choice_ops.specs.ReachLaws as choice
use Rattle.cross_joins.specs.Reach as cross
use Rattle.inner_joins.specs.ReachLaws as inner
use Rattle.inner_joins.specs.Rules.{join_in}
use Rattle.outer_joins.specs.Reach as outer
use Rattle.pair_ops.specs.ReachLaws.{no_reach}
use Rattle.pair_ops.specs.Rules.{main_number, pair_in}
use Rattle.point_sets.specs.Changes.{Changes}
use Rattle.set_ops.specs.Reach as set
use Rattle.operator_rules.specs.Families.{reach_in}
use Rattle.operator_rules.specs.Rules.{reach_by_join, reach_by, reach_of}
use Rattle.operator_rules.specs.declared.family.FamilyRule.{FamilyRule}
use Rattle.operator_rules.specs.declared.family.FamilyRule.TheVariants.{Clause, Pair, Choice, Exists, Set, OuterJoin, InnerJoin, CrossJoin}

pub no_reach_in : (rule : FamilyRule) (held : List Holding) (news : List Changes) → changes_in news ≡ 0 → reach_in rule held news ≡ 0
unfolding reach_in
no_reach_in (Clause rule) held news none = refl
no_reach_in (Pair rule) held news none = no_reach rule.operands (main_number (pair_in rule)) held news none
no_reach_in (Choice rule) held news none = choice.no_reach rule.operands held news none
no_reach_in (Exists rule) held news none = no_reach rule.operands 0 held news none
no_reach_in (Set rule) held news none = set.no_reach (length rule.operands) news none
no_reach_in (OuterJoin rule) held news none = outer.no_reach (length rule.operands) news none
no_reach_in (InnerJoin rule) held news none = inner.no_reach (join_in rule) held news none
no_reach_in (CrossJoin rule) held news none = cross.no_reach (length rule.operands) held news none

no_reach_by_join : (function : JoinFunction) (o : Operator) (held : List Holding) (news : List Changes) → changes_in news ≡ 0 → reach_by_join function o held news ≡ 0
no_reach_by_join Inner o held news none = inner.no_reach (join_in o) held news none
no_reach_by_join Left o held news none = outer.no_reach (length o.operands) news none
no_reach_by_join Full o held news none = outer.no_reach (length o.operands) news none
no_reach_by_join Cross o held news none = cross.no_reach (length o.operands) held news none

no_reach_by : (operator : DataSetOperator) (o : Operator) (held : List Holding) (news : List Changes) → changes_in news ≡ 0 → reach_by operator o held news ≡ 0
no_reach_by (operator.Pair items) o held news none = no_reach o.operands (main_number (pair_in o)) held news none
no_reach_by (operator.Choice holds fails measures) o held news none = choice.no_reach o.operands held news none
no_reach_by (operator.ExistsIn rows) o held news none = no_reach o.operands 0 held news none
no_reach_by (operator.Set operation) o held news none = set.no_reach (length o.operands) news none
no_reach_by (operator.Join function) o held news none = no_reach_by_join function o held news none
no_reach_by _ o held news none = refl

pub no_rule_reach : (o : Operator) (held : List Holding) (news : List Changes) → changes_in news ≡ 0 → reach_of o held news ≡ 0
unfolding reach_of
no_rule_reach o held news none = no_reach_by o.operator o held news none
