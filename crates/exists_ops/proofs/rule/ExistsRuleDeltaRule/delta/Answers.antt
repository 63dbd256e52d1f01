-- All changes and all parts that turn are noted, and so the draft ends in the right answer.
use Rattle.std.proofs.Common.{◌≡◌, List, [], ◌∷◌, map, length, get_or, refl, sym, ap, subst, ◌∙◌, arith}
use Rattle.std.specs.Arc.{arc_value}
use Rattle.std.specs.BTreeMap.{BTreeMap}
use Rattle.std.specs.FinMap.{entries, keys}
use Rattle.vtl_values.specs.declared.value.Value.{Value}
use Rattle.point_sets.specs.Changes.{Changes}
use Rattle.data_set_trees.specs.checked.Operators.{Operator}
use Rattle.operator_meaning.specs.Operators.{meaning_of, AreOperands}
use Rattle.held_index.specs.Drafts.{SetDraft}
use Rattle.held_index.specs.Holdings.{Holding}
use Rattle.held_index.specs.Rules.{IsRightAnswer}
use Rattle.held_index.specs.declared.want.Want.{Want}
use Rattle.operator_meaning.specs.exists.Exists.{ExistsOn, exists_on}
use Rattle.exists_ops.specs.Noted.{IsFor, IsNoted}
use Rattle.exists_ops.specs.Parts.{AreShifts, left_numbers, left_want, right_numbers, right_want}
use Rattle.exists_ops.specs.Rules.{both, operator_of, wanted_of}
use Rattle.exists_ops.specs.declared.parts.Shift.{Shift}
use Rattle.exists_ops.proofs.Answered.{held-two, right-for-all, two-in, typed-two, within-reach}
use Rattle.exists_ops.proofs.Noting.{noted-nothing}
use Rattle.exists_ops.proofs.rule.ExistsRuleDeltaRule.delta.Goals as goal

pub returns-clause-answer : goal.returns-clause-answer
returns-clause-answer g c =
    let told = c.self.inside.told in
    let e : ExistsOn = exists_on told.rows c.self.inside.left c.self.inside.right c.self.inside.structure in
    let h : Holding = c.index-held-0.result in
    let k : Holding = c.index-held-1.result in
    let d : Changes = arc_value c.index-news-0.result in
    let f : Changes = arc_value c.index-news-1.result in
    let shifts : BTreeMap (List Value) Shift = c.in_ok-shifts.shifts in
    let wants : c.as_slice-wants.result.now ≡ both e = c.as_slice-wants.ensures ∙ c.self.invariant.wants_are in
    let wanted : wanted_of c.args.self.now ≡ both e = sym (ap wanted_of c.self.view_is) in
    let held = held-two c.args.held.now h k (left_want e) (right_want e) (c.requires.held ∙ wanted) c.index-held-0.is c.index-held-1.is in
    let two : length c.args.self.now.operands ≡ 2 = subst (λ (o : Operator). length o.operands ≡ 2) c.self.view_is refl in
    let news = two-in c.args.news.now c.index-news-0.result c.index-news-1.result (c.requires.news ∙ two) c.index-news-0.is c.index-news-1.is in
    let numbers : c.as_slice-numbers.result.now ≡ left_numbers e = c.as_slice-numbers.ensures ∙ ap (λ (ws : List Want). (get_or ws 0 c.index-wants-0.result).part) wants in
    let theirs : c.as_slice.result.now ≡ right_numbers e = c.as_slice.ensures ∙ ap (λ (ws : List Want). (get_or ws 1 c.index-wants-1.result).part) wants in
    let kept : AreShifts (right_numbers e) (entries f) shifts = subst (λ ns. AreShifts ns (entries f) shifts) theirs (rw c.deref.ensures at c.in_ok-shifts.ensures) in
    let first = rw c.deref-2.ensures at c.in_ok-note_changes.ensures.noted in
    let second = rw c.deref-3.ensures at c.in_ok-note_parts.ensures.noted in
    let noted = λ (for : IsFor e told h k d f).
    second e f for kept (keys d) (first e h f for numbers kept (subst (λ (n : SetDraft). IsNoted e h.content k.content d f [] n) (sym c.new-draft.ensures) (noted-nothing e told h k d f for))) in
    let AnswersRight : Operator → List Want → List Holding → List Changes → Type 0 = λ o ws hs ds. IsRightAnswer (AreOperands o.operands) (meaning_of o) ws hs ds c.args.before c.finish.result in
    subst (λ (ws : List Want). AnswersRight c.args.self.now ws c.args.held.now (map arc_value c.args.news.now)) (sym wanted)
    (subst (λ (o : Operator). AnswersRight o (both e) c.args.held.now (map arc_value c.args.news.now)) c.self.view_is
    (subst (λ (hs : List Holding). AnswersRight (operator_of e) (both e) hs (map arc_value c.args.news.now)) held.0
    (subst (λ (ds : List Changes). AnswersRight (operator_of e) (both e) (h ∷ k ∷ []) ds) (ap (map arc_value) news)
    (right-for-all e told h k d f shifts c.args.before c.note_parts.new.draft (typed-two e c.self.invariant.typed) c.self.invariant.rows_are c.self.invariant.virals_are held.1 held.2 kept noted c.finish.result c.finish.ensures))))

pub returns-clause-steps : goal.returns-clause-steps
returns-clause-steps g c =
    let e : ExistsOn = exists_on c.self.inside.told.rows c.self.inside.left c.self.inside.right c.self.inside.structure in
    let f : Changes = arc_value c.index-news-1.result in
    let shifts : BTreeMap (List Value) Shift = c.in_ok-shifts.shifts in
    let wants : c.as_slice-wants.result.now ≡ both e = c.as_slice-wants.ensures ∙ c.self.invariant.wants_are in
    let two : length c.args.self.now.operands ≡ 2 = subst (λ (o : Operator). length o.operands ≡ 2) c.self.view_is refl in
    let news = two-in c.args.news.now c.index-news-0.result c.index-news-1.result (c.requires.news ∙ two) c.index-news-0.is c.index-news-1.is in
    let theirs : c.as_slice.result.now ≡ right_numbers e = c.as_slice.ensures ∙ ap (λ (ws : List Want). (get_or ws 1 c.index-wants-1.result).part) wants in
    let kept : AreShifts (right_numbers e) (entries f) shifts = subst (λ ns. AreShifts ns (entries f) shifts) theirs (rw c.deref.ensures at c.in_ok-shifts.ensures) in
    let within =
    within-reach e c.args.self.now c.self.view_is (typed-two e c.self.invariant.typed) c.args.held.now c.index-held-0.result c.index-held-1.result c.requires.held c.index-held-0.is c.index-held-1.is
    (map arc_value c.args.news.now) (arc_value c.index-news-0.result) f (ap (map arc_value) news) shifts kept in
    let looks = rw c.deref-2.ensures at c.in_ok-note_changes.ensures.steps in
    let walks = c.in_ok-note_parts.ensures.steps in
    omega (arith, within, looks, walks)

pub returns-in_err-note_parts-clause-steps : goal.returns-in_err-note_parts-clause-steps
returns-in_err-note_parts-clause-steps g c =
    let e : ExistsOn = exists_on c.self.inside.told.rows c.self.inside.left c.self.inside.right c.self.inside.structure in
    let f : Changes = arc_value c.index-news-1.result in
    let shifts : BTreeMap (List Value) Shift = c.in_ok-shifts.shifts in
    let wants : c.as_slice-wants.result.now ≡ both e = c.as_slice-wants.ensures ∙ c.self.invariant.wants_are in
    let two : length c.args.self.now.operands ≡ 2 = subst (λ (o : Operator). length o.operands ≡ 2) c.self.view_is refl in
    let news = two-in c.args.news.now c.index-news-0.result c.index-news-1.result (c.requires.news ∙ two) c.index-news-0.is c.index-news-1.is in
    let theirs : c.as_slice.result.now ≡ right_numbers e = c.as_slice.ensures ∙ ap (λ (ws : List Want). (get_or ws 1 c.index-wants-1.result).part) wants in
    let kept : AreShifts (right_numbers e) (entries f) shifts = subst (λ ns. AreShifts ns (entries f) shifts) theirs (rw c.deref.ensures at c.in_ok-shifts.ensures) in
    let within =
    within-reach e c.args.self.now c.self.view_is (typed-two e c.self.invariant.typed) c.args.held.now c.index-held-0.result c.index-held-1.result c.requires.held c.index-held-0.is c.index-held-1.is
    (map arc_value c.args.news.now) (arc_value c.index-news-0.result) f (ap (map arc_value) news) shifts kept in
    let looks = rw c.deref-2.ensures at c.in_ok-note_changes.ensures.steps in
    let walks = c.in_err-note_parts.ensures.steps in
    omega (arith, within, looks, walks)
