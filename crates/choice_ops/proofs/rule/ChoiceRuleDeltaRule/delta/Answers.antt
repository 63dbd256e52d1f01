-- All news are noted, and so the draft ends in the right answer.
use Rattle.std.proofs.Common.{List, map, length, ◌∙◌, subst, arith}
use Rattle.std.specs.Arc.{arc_value}
use Rattle.std.proofs.lemmas.List.{length-map}
use Rattle.point_sets.specs.Changes.{Changes}
use Rattle.held_index.specs.Reach.{changes_in}
use Rattle.held_index.specs.Holdings.{contents}
use Rattle.data_set_trees.specs.checked.Operators.{Operator}
use Rattle.choice_ops.specs.Plans.{choice_in}
use Rattle.choice_ops.specs.Noted.{keys_from, IsNoted}
use Rattle.choice_ops.proofs.Chosen.{some-branches}
use Rattle.choice_ops.proofs.Marked.{right-answer, within-reach}
use Rattle.choice_ops.proofs.rule.ChoiceRuleDeltaRule.delta.Goals as goal

pub returns-clause-answer : goal.returns-clause-answer
returns-clause-answer g c =
    let o : Operator = c.args.self.now in
    let ds : List Changes = map arc_value c.args.news.now in
    right-answer o c.plan.ensures.typed c.plan.ensures.choice c.args.held.now ds (length-map c.args.news.now arc_value ∙ c.requires.news) c.in_ok-noted.field-0
    (λ sets plain sees. subst (λ (q : Operator). IsNoted (choice_in q) (contents c.args.held.now) sets (keys_from (choice_in q) 0 ds) c.in_ok-noted.field-0) c.plan.ensures.planned (c.in_ok-noted.ensures.noted sets plain sees))
    c.args.before c.finish.result c.finish.ensures

pub returns-in_err-noted-clause-steps : goal.returns-in_err-noted-clause-steps
returns-in_err-noted-clause-steps g c =
    let o : Operator = c.args.self.now in
    let within = within-reach (length o.operands) (changes_in (map arc_value c.args.news.now)) (some-branches o c.plan.ensures.typed c.plan.ensures.choice) in
    let taken = c.in_err-noted.ensures.steps in
    omega (arith, within, taken)

pub returns-clause-steps : goal.returns-clause-steps
returns-clause-steps g c =
    let o : Operator = c.args.self.now in
    let within = within-reach (length o.operands) (changes_in (map arc_value c.args.news.now)) (some-branches o c.plan.ensures.typed c.plan.ensures.choice) in
    let taken = c.in_ok-noted.ensures.steps in
    omega (arith, within, taken)
