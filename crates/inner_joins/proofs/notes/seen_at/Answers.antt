-- What is known is shared, and of another operand a look finds it.
use Rattle.std.proofs.Common.{rules, ◌≡◌, ℕ, ◌<◌, List, Result, Ok, Err, length, map, get_or, refl, subst, ap, ◌∙◌, arith}
use Rattle.std.specs.Arc.{arc_value}
use Rattle.std.specs.FinMap.{get}
use Rattle.std.specs.Result.{IfOk}
use Rattle.data_model.specs.Deltas.{apply}
use Rattle.point_sets.specs.Changes.{Changes, values_of}
use Rattle.held_index.specs.Holdings.{Holding, IsPlain}
use Rattle.operator_meaning.specs.joins.Joins.{JoinOn}
use Rattle.join_eval.specs.Plans.{own_key}
use Rattle.inner_joins.specs.Noted.{news_of}
use Rattle.inner_joins.specs.Rules.{main_number, place_of}
use Rattle.inner_joins.proofs.Folded.{news-at}
use Rattle.inner_joins.proofs.Places.{place-held}
use Rattle.inner_joins.proofs.Sights.{has-looked, held-whole}
use Rattle.inner_joins.proofs.notes.seen_at.Goals as goal

-- what follows from two facts on the value in an `Ok`
both : {A E : Type 0} (r : Result A E) (P Q S : A → Type 0) → ((a : A) → P a → Q a → S a) → IfOk r P → IfOk r Q → IfOk r S
both (Ok a) P Q S f h i = f a h i
both (Err e) P Q S f h i = h

there : (j : JoinOn) (main : ℕ) → main ≡ main_number j → main < length j.operands → main_number j < length j.operands
there j main is within = subst (λ m. m < length j.operands) is within

pub offset_bounds-held-place : goal.offset_bounds-held-place
offset_bounds-held-place g c =
    let j : JoinOn = c.args.plan.now in
    let inside : c.place_of-place.result < length c.args.held.now =
    place-held j c.args.held.now c.requires.held c.args.number (there j c.main.result c.main.ensures.number c.main.ensures.within) c.requires.number c.in_default.ensures.other c.place_of-place.result
    (c.place_of-place.ensures ∙ ap (λ m. place_of m c.args.number) c.main.ensures.number) in
    search rules

pub bounds-held-place : goal.bounds-held-place
bounds-held-place g c =
    let j : JoinOn = c.args.plan.now in
    place-held j c.args.held.now c.requires.held c.args.number (there j c.main.result c.main.ensures.number c.main.ensures.within) c.requires.number c.in_default.ensures.other c.place_of-place.result
    (c.place_of-place.ensures ∙ ap (λ m. place_of m c.args.number) c.main.ensures.number)

pub returns-clause-has : goal.returns-clause-has
returns-clause-has g c =
    let j : JoinOn = c.args.plan.now in
    let held : List Holding = c.args.held.now in
    let news : List Changes = map arc_value c.args.news.now in
    let number = c.args.number in
    let key = c.args.meeting.now.key in
    let h : Holding = c.index-held-place.result in
    let d : Changes = c.deref.result.now in
    let inside = there j c.main.result c.main.ensures.number c.main.ensures.within in
    let many = c.requires.news in
    let within = c.requires.number in
    let place = c.place_of-place.ensures ∙ ap (λ m. place_of m number) c.main.ensures.number in
    let h_at : h ≡ get_or held (place_of (main_number j) number) h = c.index-held-place.is ∙ ap (λ i. get_or held i h) place in
    let d_is : d ≡ news_of number news = news-at c.args.news.now number number c.index-news-number.result d (omega (arith, many, within)) c.index-news-number.is c.deref.ensures refl in
    let plain : IsPlain h.want = held-whole j inside held c.requires.held news number within c.in_default.ensures.other h h_at d d_is in
    let joined = c.join.ensures.join in
    both c.look.result (λ seen. IsPlain h.want → values_of seen.before ≡ get h.content (own_key c.join.result.now number key)) (λ seen. IsPlain h.want → values_of seen.after ≡ get (apply d h.content) (own_key c.join.result.now number key)) _
    (λ seen was is xs behind met.
    has-looked j inside held c.requires.held news number within c.in_default.ensures.other h h_at d d_is xs behind key seen
    (was plain ∙ ap (λ (i : JoinOn). get h.content (own_key i number key)) joined) (is plain ∙ ap (λ (i : JoinOn). get (apply d h.content) (own_key i number key)) joined))
    c.look.ensures.before c.look.ensures.after
