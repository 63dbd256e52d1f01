-- The changes of both operands are noted, and so the draft ends in the right answer, within the reach.
use Rattle.std.proofs.Common.{◌≡◌, ap, subst, ◌∙◌, arith}
use Rattle.std.specs.Prelude.{fold}
use Rattle.std.specs.Arc.{arc_value}
use Rattle.std.specs.Option.{IfSome}
use Rattle.std.specs.FinMap.{entries}
use Rattle.data_model.specs.Deltas.{Differs}
use Rattle.data_model.specs.Drafts.{finished}
use Rattle.point_sets.specs.Changes.{Changes}
use Rattle.held_index.specs.Drafts.{SetDraft}
use Rattle.held_index.specs.Rules.{answer_of}
use Rattle.pair_ops.specs.Noted.{noted_main, noted_partner}
use Rattle.pair_ops.proofs.Asked.{drafted, of_two}
use Rattle.pair_ops.proofs.Both.{answers, plain, within}
use Rattle.pair_ops.proofs.rule.PairRuleDeltaRule.delta.Goals as goal

pub note_main-requires : goal.note_main-requires
note_main-requires g c =
    let own = c.plan-plan.ensures in
    plain c.args.self.now (of_two c.args.self.now own.typed own.pair) c.plan-plan.result.now own.planned c.args.held.now c.requires.held c.args.news.now
    c.index-held-main.result c.index-held-partner.result c.index-news-main.result c.index-news-partner.result c.numbers_of-main.result.0 c.numbers_of-main.result.1 c.numbers_of-main.ensures.main c.numbers_of-main.ensures.partner
    c.index-held-main.is c.index-held-partner.is c.index-news-main.is c.index-news-partner.is

pub returns-clause-answer : goal.returns-clause-answer
returns-clause-answer g c =
    let own = c.plan-plan.ensures in
    let plan = c.plan-plan.result.now in
    let h = c.index-held-main.result in
    let k = c.index-held-partner.result in
    let d : Changes = arc_value c.index-news-main.result in
    let e : Changes = arc_value c.index-news-partner.result in
    let first = rw (c.deref.ensures, c.deref-2.ensures) at c.in_ok-note_main.ensures.noted in
    let second = rw (c.deref-3.ensures, c.deref-4.ensures) at c.in_ok-note_partner.ensures.noted in
    let noted : c.note_partner.new.draft ≡ drafted plan h k.content d e =
    second ∙ ap (λ (n : SetDraft). fold (noted_partner plan h d) n (entries e)) (first ∙ ap (λ (n : SetDraft). fold (noted_main plan k.content e) n (entries d)) c.new-draft.ensures) in
    let differs : Differs d = subst (λ (x : Changes). Differs x) c.deref.ensures c.in_ok-note_main.ensures.differs in
    answers c.args.self.now (of_two c.args.self.now own.typed own.pair) plan own.planned c.args.held.now c.requires.held c.args.news.now
    h k c.index-news-main.result c.index-news-partner.result c.numbers_of-main.result.0 c.numbers_of-main.result.1 c.numbers_of-main.ensures.main c.numbers_of-main.ensures.partner
    c.index-held-main.is c.index-held-partner.is c.index-news-main.is c.index-news-partner.is
    c.args.before differs c.finish.result (subst (λ (n : SetDraft). IfSome (answer_of c.finish.result) (λ x. x ≡ finished c.args.before n)) noted c.finish.ensures)

pub returns-clause-steps : goal.returns-clause-steps
returns-clause-steps g c =
    let own = c.plan-plan.ensures in
    let most =
    within c.args.self.now (of_two c.args.self.now own.typed own.pair) c.plan-plan.result.now own.planned c.args.held.now c.requires.held c.args.news.now
    c.index-held-main.result c.index-held-partner.result c.index-news-main.result c.index-news-partner.result c.numbers_of-main.result.0 c.numbers_of-main.result.1 c.numbers_of-main.ensures.main c.numbers_of-main.ensures.partner
    c.index-held-main.is c.index-held-partner.is c.index-news-main.is c.index-news-partner.is (c.requires.news ∙ own.two) in
    let first = rw c.deref.ensures at c.in_ok-note_main.ensures.steps in
    let second = rw c.deref-3.ensures at c.in_ok-note_partner.ensures.steps in
    omega (arith, most, first, second)

pub returns-in_err-note_main-clause-steps : goal.returns-in_err-note_main-clause-steps
returns-in_err-note_main-clause-steps g c =
    let own = c.plan-plan.ensures in
    let most =
    within c.args.self.now (of_two c.args.self.now own.typed own.pair) c.plan-plan.result.now own.planned c.args.held.now c.requires.held c.args.news.now
    c.index-held-main.result c.index-held-partner.result c.index-news-main.result c.index-news-partner.result c.numbers_of-main.result.0 c.numbers_of-main.result.1 c.numbers_of-main.ensures.main c.numbers_of-main.ensures.partner
    c.index-held-main.is c.index-held-partner.is c.index-news-main.is c.index-news-partner.is (c.requires.news ∙ own.two) in
    let first = rw c.deref.ensures at c.in_err-note_main.ensures.steps in
    omega (arith, most, first)

pub returns-in_err-note_partner-clause-steps : goal.returns-in_err-note_partner-clause-steps
returns-in_err-note_partner-clause-steps g c =
    let own = c.plan-plan.ensures in
    let most =
    within c.args.self.now (of_two c.args.self.now own.typed own.pair) c.plan-plan.result.now own.planned c.args.held.now c.requires.held c.args.news.now
    c.index-held-main.result c.index-held-partner.result c.index-news-main.result c.index-news-partner.result c.numbers_of-main.result.0 c.numbers_of-main.result.1 c.numbers_of-main.ensures.main c.numbers_of-main.ensures.partner
    c.index-held-main.is c.index-held-partner.is c.index-news-main.is c.index-news-partner.is (c.requires.news ∙ own.two) in
    let first = rw c.deref.ensures at c.in_ok-note_main.ensures.steps in
    let second = rw c.deref-3.ensures at c.in_err-note_partner.ensures.steps in
    omega (arith, most, first, second)
