use Rattle.std.proofs.Common.{List, map, length, sym, ap, ◌∙◌}
use Rattle.std.specs.Arc.{arc_value}
use Rattle.std.proofs.lemmas.List.{length-map}
use Rattle.point_sets.specs.Changes.{Changes}
use Rattle.held_index.specs.Holdings.{Holding}
use Rattle.held_index.specs.Reach.{changes_in}
use Rattle.held_index.proofs.WantLemmas.{length-all_whole}
use Rattle.data_set_trees.specs.checked.Operators.{Operator}
use Rattle.operator_meaning.specs.joins.Joins.{JoinOn}
use Rattle.outer_joins.proofs.Asked.{as-many, few-steps, right-for-all}
use Rattle.outer_joins.proofs.rule.OuterJoinRuleDeltaRule.delta.Goals as goal

pub noted-requires-clause-held : goal.noted-requires-clause-held
noted-requires-clause-held g c =
    let o : Operator = c.args.self.now in
    sym (length-map c.args.held.now (λ h. h.want)) ∙ ap length c.requires.held ∙ length-all_whole (length o.operands) ∙ as-many o c.plan.result.now c.plan.ensures.operator

pub noted-requires-clause-news : goal.noted-requires-clause-news
noted-requires-clause-news g c = c.requires.news ∙ as-many c.args.self.now c.plan.result.now c.plan.ensures.operator

pub returns-clause-answer : goal.returns-clause-answer
returns-clause-answer g c =
    let o : Operator = c.args.self.now in
    let held : List Holding = c.args.held.now in
    let news : List Changes = map arc_value c.args.news.now in
    right-for-all o c.plan.result.now c.plan.ensures.operator c.plan.ensures.typed c.plan.ensures.outer held news c.args.before c.in_ok-draft.draft c.finish.result c.finish.ensures c.in_ok-draft.ensures.differs c.in_ok-draft.ensures.noted

pub returns-clause-steps : goal.returns-clause-steps
returns-clause-steps g c =
    let o : Operator = c.args.self.now in
    let j : JoinOn = c.plan.result.now in
    few-steps (length j.operands) (length o.operands) (changes_in (map arc_value c.args.news.now)) c.args.steps.now c.noted.new.steps (sym (as-many o j c.plan.ensures.operator)) c.in_ok-draft.ensures.steps

pub returns-in_err-draft-clause-steps : goal.returns-in_err-draft-clause-steps
returns-in_err-draft-clause-steps g c =
    let o : Operator = c.args.self.now in
    let j : JoinOn = c.plan.result.now in
    few-steps (length j.operands) (length o.operands) (changes_in (map arc_value c.args.news.now)) c.args.steps.now c.noted.new.steps (sym (as-many o j c.plan.ensures.operator)) c.in_err-draft.ensures.steps
