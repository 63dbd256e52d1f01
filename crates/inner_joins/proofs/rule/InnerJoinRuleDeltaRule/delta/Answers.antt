-- The changes of all operands are noted, and so the draft ends in the right answer, within the reach.
use Rattle.std.proofs.Common.{◌≤◌, ◌+◌, List, length, map, sym, ap, subst, ◌∙◌}
use Rattle.std.specs.Arc.{arc_value}
use Rattle.data_set_trees.specs.checked.Operators.{Operator}
use Rattle.point_sets.specs.Changes.{Changes}
use Rattle.held_index.specs.Holdings.{Holding}
use Rattle.operator_meaning.specs.joins.Joins.{JoinOn}
use Rattle.inner_joins.specs.Reach.{inner_reach}
use Rattle.inner_joins.specs.Rules.{wants_on}
use Rattle.inner_joins.proofs.Right.{right-for-all}
use Rattle.inner_joins.proofs.Wanted.{wanted-is}
use Rattle.inner_joins.proofs.rule.InnerJoinRuleDeltaRule.delta.Goals as goal

pub noted-requires-clause-held : goal.noted-requires-clause-held
noted-requires-clause-held g c = c.requires.held ∙ wanted-is c.args.self.now c.plan.ensures.inner ∙ ap wants_on (sym c.plan.ensures.planned)

pub noted-requires-clause-news : goal.noted-requires-clause-news
noted-requires-clause-news g c = c.requires.news ∙ ap (λ (j : JoinOn). length j.operands) (sym c.plan.ensures.planned)

pub returns-clause-answer : goal.returns-clause-answer
returns-clause-answer g c =
    let o : Operator = c.args.self.now in
    let held : List Holding = c.args.held.now in
    let news : List Changes = map arc_value c.args.news.now in
    right-for-all o c.plan.ensures.inner c.plan.result.now c.plan.ensures.planned c.plan.ensures.join held news c.args.before c.in_ok-draft.draft c.in_ok-draft.ensures.noted c.finish.result c.finish.ensures

pub returns-clause-steps : goal.returns-clause-steps
returns-clause-steps g c =
    let held : List Holding = c.args.held.now in
    let news : List Changes = map arc_value c.args.news.now in
    subst (λ (j : JoinOn). c.noted.new.steps ≤ c.args.steps.now + inner_reach j held news) c.plan.ensures.planned c.in_ok-draft.ensures.steps

pub returns-in_err-draft-clause-steps : goal.returns-in_err-draft-clause-steps
returns-in_err-draft-clause-steps g c =
    let held : List Holding = c.args.held.now in
    let news : List Changes = map arc_value c.args.news.now in
    subst (λ (j : JoinOn). c.noted.new.steps ≤ c.args.steps.now + inner_reach j held news) c.plan.ensures.planned c.in_err-draft.ensures.steps
