-- Nothing is new, there are too many combinations, or what is noted is finished.
use Rattle.std.proofs.Common.{◌≡◌, ◌≢◌, ◌↔◌, ℕ, List, Bool, Result, Err, IfSome, IsTrue, map, length, false, true, refl, sym, subst, ◌∙◌}
use Rattle.std.specs.Arc.{arc_value}
use Rattle.data_model.specs.Drafts.{finished}
use Rattle.point_sets.specs.Changes.{Changes}
use Rattle.held_index.specs.Drafts.{SetDraft}
use Rattle.held_index.specs.Holdings.{Holding}
use Rattle.held_index.specs.Reach.{changes_in}
use Rattle.held_index.specs.Rules.{answer_of}
use Rattle.held_index.specs.declared.stop.Stop.{Stop}
use Rattle.held_index.specs.declared.stop.Stop.TheVariants.{TooMany}
use Rattle.data_set_trees.specs.checked.Operators.{Operator}
use Rattle.cross_joins.proofs.Asked.{as-held, as-many, few-counted, few-steps, right-many, right-noted, right-nothing}
use Rattle.cross_joins.proofs.rule.CrossJoinRuleDeltaRule.delta.Goals as goal

-- what isn't answered with yes isn't so
not-so : (b : Bool) (n : ℕ) → (IsTrue b ↔ (n ≡ 0)) → b ≡ false → n ≢ 0
not-so b n tells no' none = let never : true ≡ false = sym (tells.1 none) ∙ no' in cc

pub are_too_many-requires-clause-news : goal.are_too_many-requires-clause-news
are_too_many-requires-clause-news g c = let o : Operator = c.args.self.now in c.requires.news ∙ sym (as-held (length o.operands) c.args.held.now c.requires.held)

pub noted-requires-clause-held : goal.noted-requires-clause-held
noted-requires-clause-held g c = let o : Operator = c.args.self.now in as-held (length o.operands) c.args.held.now c.requires.held ∙ as-many o c.plan-plan.result.now c.plan-plan.ensures

pub noted-requires-clause-news : goal.noted-requires-clause-news
noted-requires-clause-news g c = c.requires.news ∙ as-many c.args.self.now c.plan-plan.result.now c.plan-plan.ensures

pub returns-then-is_nothing_new-clause-answer : goal.returns-then-is_nothing_new-clause-answer
returns-then-is_nothing_new-clause-answer g c =
    let news : List Changes = map arc_value c.args.news.now in
    right-nothing c.args.self.now c.plan-plan.result.now c.plan-plan.ensures c.args.held.now news c.args.before c.no_change.result (c.is_nothing_new.ensures.0 c.if-is_nothing_new.true) c.no_change.ensures

pub returns-then-are_too_many-clause-answer : goal.returns-then-are_too_many-clause-answer
returns-then-are_too_many-clause-answer g c =
    let news : List Changes = map arc_value c.args.news.now in
    let answer : Result Changes Stop = Err TooMany in
    right-many c.args.self.now c.plan-plan.result.now c.plan-plan.ensures c.args.held.now news c.args.before answer (c.are_too_many.ensures.many.0 c.if-are_too_many.true) refl

pub returns-clause-answer : goal.returns-clause-answer
returns-clause-answer g c =
    let news : List Changes = map arc_value c.args.news.now in
    right-noted c.args.self.now c.plan-plan.result.now c.plan-plan.ensures c.args.held.now news c.args.before c.finish.result
    (subst (λ (n : SetDraft). IfSome (answer_of c.finish.result) (λ a. a ≡ finished c.args.before n)) c.in_ok-draft.ensures.noted c.finish.ensures)

pub returns-then-are_too_many-clause-steps : goal.returns-then-are_too_many-clause-steps
returns-then-are_too_many-clause-steps g c =
    let o : Operator = c.args.self.now in
    let held : List Holding = c.args.held.now in
    let news : List Changes = map arc_value c.args.news.now in
    let some = not-so c.is_nothing_new.result (changes_in news) c.is_nothing_new.ensures c.if-is_nothing_new.false in
    few-counted (length o.operands) held news c.args.steps.now c.are_too_many.new.steps c.requires.held some c.are_too_many.ensures.steps

pub returns-clause-steps : goal.returns-clause-steps
returns-clause-steps g c =
    let o : Operator = c.args.self.now in
    let held : List Holding = c.args.held.now in
    let news : List Changes = map arc_value c.args.news.now in
    let some = not-so c.is_nothing_new.result (changes_in news) c.is_nothing_new.ensures c.if-is_nothing_new.false in
    few-steps (length o.operands) held news c.args.steps.now c.are_too_many.new.steps c.noted.new.steps c.requires.held some c.are_too_many.ensures.steps c.in_ok-draft.ensures.steps

pub returns-in_err-draft-clause-steps : goal.returns-in_err-draft-clause-steps
returns-in_err-draft-clause-steps g c =
    let o : Operator = c.args.self.now in
    let held : List Holding = c.args.held.now in
    let news : List Changes = map arc_value c.args.news.now in
    let some = not-so c.is_nothing_new.result (changes_in news) c.is_nothing_new.ensures c.if-is_nothing_new.false in
    few-steps (length o.operands) held news c.args.steps.now c.are_too_many.new.steps c.noted.new.steps c.requires.held some c.are_too_many.ensures.steps c.in_err-draft.ensures.steps
