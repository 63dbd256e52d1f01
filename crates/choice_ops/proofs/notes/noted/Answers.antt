-- No news, those of one operand more, and all.
use Rattle.std.proofs.Common.{◌≡◌, ◌<◌, ◌≤◌, ◌+◌, List, [], ◌++◌, map, take, length, get_or, sym, ◌∙◌, ap, subst, zero-add, arith}
use Rattle.std.specs.Arc.{arc_value}
use Rattle.std.specs.FinMap.{keys}
use Rattle.std.proofs.lemmas.List.{length-map, take_all}
use Rattle.std.proofs.Math.ListN.{get_or-map}
use Rattle.vtl_values.specs.declared.value.Value.{Value}
use Rattle.point_sets.specs.Changes.{Changes}
use Rattle.held_index.specs.Drafts.{SetDraft}
use Rattle.held_index.specs.Holdings.{contents}
use Rattle.operator_meaning.specs.choices.Choices.{ChoiceOn, condition_key}
use Rattle.choice_ops.specs.Plans.{choice_in}
use Rattle.choice_ops.specs.Noted.{keys_from, IsNoted}
use Rattle.choice_ops.proofs.Marked.{noted-nothing, keys-more, changes-more, changes-within}
use Rattle.choice_ops.proofs.notes.noted.Goals as goal

pub loop-number-init : goal.loop-number-init
loop-number-init g c = record {
  noted = λ sets plain sees. subst (λ (n : SetDraft). IsNoted (choice_in c.args.plan.now) (contents c.args.held.now) sets [] n) (sym c.new-draft.ensures) (noted-nothing (choice_in c.args.plan.now) (contents c.args.held.now) sets);
  steps = omega arith;
}

pub loop-number-preserved : goal.loop-number-preserved
loop-number-preserved g c =
    let on : ChoiceOn = choice_in c.args.plan.now in
    let ds : List Changes = map arc_value c.args.news.now in
    let n = c.loop-number.number in
    let d : Changes = arc_value c.index-news-number.result in
    let at : d ≡ get_or ds n d = ap arc_value c.index-news-number.is ∙ sym (get_or-map arc_value c.args.news.now n c.index-news-number.result) in
    let test = c.loop-number-test.true in
    let within : n < length ds = omega (arith, test, length-map c.args.news.now arc_value) in
    let own : c.deref.result.now ≡ d = c.deref.ensures in
    let before = c.loop-number.invariant.steps in
    let one = rw own at c.in_ok-note_changes.ensures.steps in
    let more = changes-more ds n d within at in
    record {
      noted = λ sets plain sees.
          subst (λ (ks : List (List Value)). IsNoted on (contents c.args.held.now) sets ks c.note_changes.new.draft) (sym (keys-more on 0 ds n d within at ∙ ap (λ i. keys_from on 0 (take n ds) ++ map (condition_key on i) (keys d)) (zero-add n)))
          (subst (λ (e : Changes). IsNoted on (contents c.args.held.now) sets (keys_from on 0 (take n ds) ++ map (condition_key on n) (keys e)) c.note_changes.new.draft) own
          (c.in_ok-note_changes.ensures.noted sets plain sees (keys_from on 0 (take n ds)) (c.loop-number.invariant.noted sets plain sees)));
      steps = omega (arith, before, one, more);
    }

pub returns-clause-noted : goal.returns-clause-noted
returns-clause-noted g c = λ sets plain sees.
    let ds : List Changes = map arc_value c.args.news.now in
    let test = c.loop-number-test.false in
    let long : length ds ≤ c.loop-number.number = omega (arith, test, length-map c.args.news.now arc_value) in
    subst (λ (es : List Changes). IsNoted (choice_in c.args.plan.now) (contents c.args.held.now) sets (keys_from (choice_in c.args.plan.now) 0 es) c.loop-number.draft) (take_all c.loop-number.number ds long) (c.loop-number.invariant.noted sets plain sees)

pub returns-in_err-note_changes-clause-steps : goal.returns-in_err-note_changes-clause-steps
returns-in_err-note_changes-clause-steps g c =
    let ds : List Changes = map arc_value c.args.news.now in
    let n = c.loop-number.number in
    let d : Changes = arc_value c.index-news-number.result in
    let at : d ≡ get_or ds n d = ap arc_value c.index-news-number.is ∙ sym (get_or-map arc_value c.args.news.now n c.index-news-number.result) in
    let test = c.loop-number-test.true in
    let within : n < length ds = omega (arith, test, length-map c.args.news.now arc_value) in
    let own : c.deref.result.now ≡ d = c.deref.ensures in
    let before = c.loop-number.invariant.steps in
    let one = rw own at c.in_err-note_changes.ensures.steps in
    let more = changes-more ds n d within at in
    let all = changes-within ds (n + 1) in
    omega (arith, before, one, more, all)
