use Rattle.std.proofs.Common.{◌+◌, ◌≤◌, ℕ, List, ◌∙◌, map, sym, ap, subst}
use Rattle.std.specs.Arc.{arc_value}
use Rattle.point_sets.specs.Changes.{Changes}
use Rattle.held_index.specs.Holdings.{Holding}
use Rattle.held_index.specs.Rules.{IsRightAnswer}
use Rattle.held_index.specs.declared.want.Want.{Want}
use Rattle.data_set_trees.specs.checked.Operators.{Operator}
use Rattle.operator_meaning.specs.Operators.{meaning_of, AreOperands}
use Rattle.operator_rules.specs.Families.{operator_of, reach_in, wanted_in}
use Rattle.operator_rules.specs.declared.family.FamilyRule.{FamilyRule}
use Rattle.operator_rules.specs.Rules.{reach_of, wanted_of}
use Rattle.operator_rules.proofs.FamilyLemmas.{reach-in_family, wanted-in_family}
use Rattle.operator_rules.proofs.rule.OperatorRuleDeltaRule.delta.Goals as goal

pub delta-requires-clause-held : goal.delta-requires-clause-held
delta-requires-clause-held g c = c.requires.held ∙ sym (ap wanted_of c.self.view_is) ∙ wanted-in_family c.self.inside.family c.self.invariant ∙ sym (ap wanted_in c.get.ensures)

pub returns-clause-answer : goal.returns-clause-answer
returns-clause-answer g c =
    let family = c.self.inside.family in
    let held : List Holding = c.args.held.now in
    let news : List Changes = map arc_value c.args.news.now in
    let answer = subst (λ (f : FamilyRule). IsRightAnswer (AreOperands (operator_of f).operands) (meaning_of (operator_of f)) (wanted_in f) held news c.args.before c.delta.result) c.get.ensures c.delta.ensures.answer in
    subst (λ (o : Operator). IsRightAnswer (AreOperands o.operands) (meaning_of o) (wanted_of o) held news c.args.before c.delta.result) c.self.view_is
    (subst (λ (wants : List Want). IsRightAnswer (AreOperands (operator_of family).operands) (meaning_of (operator_of family)) wants held news c.args.before c.delta.result) (sym (wanted-in_family family c.self.invariant)) answer)

pub returns-clause-steps : goal.returns-clause-steps
returns-clause-steps g c =
    let family = c.self.inside.family in
    let held : List Holding = c.args.held.now in
    let news : List Changes = map arc_value c.args.news.now in
    let few = subst (λ (f : FamilyRule). c.delta.new.steps ≤ c.args.steps.now + reach_in f held news) c.get.ensures c.delta.ensures.steps in
    subst (λ (o : Operator). c.delta.new.steps ≤ c.args.steps.now + reach_of o held news) c.self.view_is
    (subst (λ (n : ℕ). c.delta.new.steps ≤ c.args.steps.now + n) (sym (reach-in_family family held news c.self.invariant)) few)
