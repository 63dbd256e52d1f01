-- What the rules of the families want and reach is what the rules of their operators do.
use Rattle.std.proofs.Common.{◌≡◌, true, List, [], refl, ap, ◌∙◌, length}
use Rattle.std.proofs.lemmas.Bool.{false≢true}
use Rattle.vtl_syntax.specs.declared.words.JoinFunction.{JoinFunction}
use Rattle.vtl_syntax.specs.declared.words.JoinFunction.TheVariants as joining
use Rattle.data_set_trees.specs.declared.tree.DataSetOperator.{DataSetOperator}
use Rattle.data_set_trees.specs.declared.tree.DataSetOperator.TheVariants as operator
use Rattle.data_set_trees.specs.checked.Operators.{Operator}
use Rattle.held_index.specs.Holdings.{Holding}
use Rattle.clause_ops.specs.Rules.{IsClause}
use Rattle.outer_joins.specs.Reach.{outer_reach}
use Rattle.outer_joins.specs.Rules as outer
use Rattle.point_sets.specs.Changes.{Changes}
use Rattle.operator_rules.specs.Families.{operator_of, IsOfItsFamily, wanted_in, reach_in}
use Rattle.operator_rules.specs.Rules.{wanted_by, wanted_by_join, wanted_of, reach_by, reach_by_join, reach_of}
use Rattle.operator_rules.specs.declared.family.FamilyRule.{FamilyRule}
use Rattle.operator_rules.specs.declared.family.FamilyRule.TheVariants.{Clause, Pair, Choice, Exists, Set, OuterJoin, InnerJoin, CrossJoin}

-- ---- wants

clause-wanted : (operator : DataSetOperator) (o : Operator) → IsClause operator → wanted_by operator o ≡ []
clause-wanted (operator.Clause clause) o is = refl
clause-wanted (operator.InJoin clause) o is = refl
clause-wanted _ o is = absurd (false≢true is)

outer-wanted : (function : JoinFunction) (o : Operator) → outer.is_outer function ≡ true → wanted_by_join function o ≡ outer.wanted_of o
outer-wanted joining.Inner o is = absurd (false≢true is)
outer-wanted joining.Left o is = refl
outer-wanted joining.Full o is = refl
outer-wanted joining.Cross o is = absurd (false≢true is)

-- what the rule of a family wants is what the rule of its operator does
pub wanted-in_family : (rule : FamilyRule) → IsOfItsFamily rule → wanted_of (operator_of rule) ≡ wanted_in rule
unfolding operator_of IsOfItsFamily wanted_in wanted_of
wanted-in_family (Clause rule) is = clause-wanted rule.operator rule is
wanted-in_family (Pair rule) is = ap (λ o. wanted_by o rule) is.1
wanted-in_family (Choice rule) is = ap (λ o. wanted_by o rule) is.is
wanted-in_family (Exists rule) is = ap (λ o. wanted_by o rule) is.1
wanted-in_family (Set rule) is = ap (λ o. wanted_by o rule) is.1
wanted-in_family (OuterJoin rule) is = ap (λ o. wanted_by o rule) is.is ∙ outer-wanted is.function rule is.outer
wanted-in_family (InnerJoin rule) is = ap (λ o. wanted_by o rule) is
wanted-in_family (CrossJoin rule) is = ap (λ o. wanted_by o rule) is

-- ---- reaches

clause-reach : (operator : DataSetOperator) (o : Operator) (held : List Holding) (news : List Changes) → IsClause operator → reach_by operator o held news ≡ 0
clause-reach (operator.Clause clause) o held news is = refl
clause-reach (operator.InJoin clause) o held news is = refl
clause-reach _ o held news is = absurd (false≢true is)

outer-reach : (function : JoinFunction) (o : Operator) (held : List Holding) (news : List Changes) → outer.is_outer function ≡ true → reach_by_join function o held news ≡ outer_reach (length o.operands) news
outer-reach joining.Inner o held news is = absurd (false≢true is)
outer-reach joining.Left o held news is = refl
outer-reach joining.Full o held news is = refl
outer-reach joining.Cross o held news is = absurd (false≢true is)

-- and so does what it reaches
pub reach-in_family : (rule : FamilyRule) (held : List Holding) (news : List Changes) → IsOfItsFamily rule → reach_of (operator_of rule) held news ≡ reach_in rule held news
unfolding operator_of IsOfItsFamily reach_in reach_of
reach-in_family (Clause rule) held news is = clause-reach rule.operator rule held news is
reach-in_family (Pair rule) held news is = ap (λ o. reach_by o rule held news) is.1
reach-in_family (Choice rule) held news is = ap (λ o. reach_by o rule held news) is.is
reach-in_family (Exists rule) held news is = ap (λ o. reach_by o rule held news) is.1
reach-in_family (Set rule) held news is = ap (λ o. reach_by o rule held news) is.1
reach-in_family (OuterJoin rule) held news is = ap (λ o. reach_by o rule held news) is.is ∙ outer-reach is.function rule held news is.outer
reach-in_family (InnerJoin rule) held news is = ap (λ o. reach_by o rule held news) is
reach-in_family (CrossJoin rule) held news is = ap (λ o. reach_by o rule held news) is
