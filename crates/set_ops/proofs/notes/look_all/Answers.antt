use Rattle.std.proofs.Common.{◌≡◌, ◌<◌, ◌+◌, List, Option, length, map, get_or, sym, ap, subst, ◌∙◌, arith}
use Rattle.std.specs.Arc.{arc_value}
use Rattle.std.specs.FinMap.{get}
use Rattle.std.specs.declared.alloc.Global.{Global}
use Rattle.std.specs.declared.sync.Arc.{Arc}
use Rattle.std.proofs.lemmas.List.{length_push, length-map}
use Rattle.data_model.specs.Deltas.{apply}
use Rattle.point_sets.specs.Changes.{Changes}
use Rattle.point_sets.specs.declared.point.Point.{Point}
use Rattle.held_index.specs.Holdings.{AllPlain, Holding, IsPlain, contents}
use Rattle.held_index.specs.Rules.{after_news}
use Rattle.clause_meaning.specs.Clauses.{values_at}
use Rattle.set_ops.specs.declared.reading.Reading.{Reading}
use Rattle.set_ops.proofs.Looked.{content-at, arc-at, after-at, as-many-after, own-more}
use Rattle.set_ops.proofs.notes.look_all.Goals as goal

pub loop-i-preserved : goal.loop-i-preserved
loop-i-preserved g c =
    let i = c.loop-i.i in
    let rs : List Reading = c.args.readings.now in
    let held : List Holding = c.args.held.now in
    let news : List Changes = map arc_value c.args.news.now in
    let key = c.args.key.now in
    let r : Reading = c.index-readings-i.result in
    let h : Holding = c.index-held-i.result in
    let d : Changes = arc_value c.index-news-i.result in
    let seen = c.in_ok-seen.seen in
    let within : i < length rs = c.loop-i-test.true in
    let held_long : length (contents held) ≡ length rs = length-map held (λ (h : Holding). h.content) ∙ c.requires.held in
    let news_long : length news ≡ length rs = length-map c.args.news.now arc_value ∙ c.requires.news in
    let after_long : length (after_news news (contents held)) ≡ length rs = as-many-after news (contents held) (news_long ∙ sym held_long) ∙ held_long in
    let content : h.content ≡ get_or (contents held) i h.content = content-at held i h c.index-held-i.is in
    let change : d ≡ get_or news i d = arc-at c.args.news.now i c.index-news-i.result c.index-news-i.is in
    let plain_at = λ (plain : AllPlain held). subst (λ (k : Holding). IsPlain k.want) (sym c.index-held-i.is) (plain i h (omega (arith, within, c.requires.held))) in
    let pushed = c.in_ok-push.ensures.items in
    let pushed_after = c.in_ok-push-2.ensures.items in
    let before = c.loop-i.invariant.steps in
    let one = c.in_ok-seen.ensures.steps in
    record {
      before = λ plain. own-more rs (contents held) key i r h.content c.loop-i.before.items c.push.new.self.items seen.before within (omega (arith, within, held_long)) c.index-readings-i.is content (c.in_ok-seen.ensures.before (plain_at plain)) pushed (c.loop-i.invariant.before plain);
      after = λ plain.
          own-more rs (after_news news (contents held)) key i r (apply d h.content) c.loop-i.after.items c.push-in-loop-i.new.self.items seen.after within (omega (arith, within, after_long)) c.index-readings-i.is
          (after-at news (contents held) i d h.content (omega (arith, within, news_long)) (omega (arith, within, held_long)) change content)
          (c.in_ok-seen.ensures.after (plain_at plain) ∙ ap (λ (e : Changes). get (apply e h.content) (values_at r.own key)) c.deref.ensures) pushed_after (c.loop-i.invariant.after plain);
      before_len = ap (λ (ps : List (Option (Arc Point Global))). length ps) pushed ∙ length_push c.loop-i.before.items seen.before ∙ ap (λ n. n + 1) c.loop-i.invariant.before_len;
      after_len = ap (λ (ps : List (Option (Arc Point Global))). length ps) pushed_after ∙ length_push c.loop-i.after.items seen.after ∙ ap (λ n. n + 1) c.loop-i.invariant.after_len;
      steps = omega (arith, before, one);
    }
