use Rattle.std.proofs.Common.{◌≡◌, ◌<◌, ◌+◌, List, Option, length, map, get_or, sym, ap, subst, ◌∙◌, arith}
use Rattle.std.specs.Arc.{arc_value}
use Rattle.std.specs.FinMap.{get}
use Rattle.std.specs.declared.alloc.Global.{Global}
use Rattle.std.specs.declared.sync.Arc.{Arc}
use Rattle.std.proofs.lemmas.List.{length_push, length-map}
use Rattle.data_model.specs.Deltas.{apply}
use Rattle.point_sets.specs.Changes.{Changes}
use Rattle.point_sets.specs.declared.point.Point.{Point}
use Rattle.held_index.specs.Holdings.{AllPlain, Holding, IsPlain, contents}
use Rattle.held_index.specs.Rules.{after_news}
use Rattle.operator_meaning.specs.joins.Joins.{JoinOn}
use Rattle.join_eval.specs.Plans.{own_key}
use Rattle.outer_joins.proofs.Looked.{content-at, arc-at, after-at, as-many-after, own-more, points-end}
use Rattle.outer_joins.proofs.notes.look_all.Goals as goal

pub loop-i-preserved : goal.loop-i-preserved
loop-i-preserved g c =
    let i = c.loop-i.i in
    let j : JoinOn = c.args.plan.now in
    let held : List Holding = c.args.held.now in
    let news : List Changes = map arc_value c.args.news.now in
    let key = c.args.key.now in
    let h : Holding = c.index-held-i.result in
    let d : Changes = arc_value c.index-news-i.result in
    let seen = c.in_ok-seen.seen in
    let test : i < length held = c.loop-i-test.true in
    let many = c.requires.held in
    let within : i < length j.operands = omega (arith, test, many) in
    let held_long : length (contents held) ≡ length j.operands = length-map held (λ (h : Holding). h.content) ∙ c.requires.held in
    let news_long : length news ≡ length j.operands = length-map c.args.news.now arc_value ∙ c.requires.news in
    let after_long : length (after_news news (contents held)) ≡ length j.operands = as-many-after news (contents held) (news_long ∙ sym held_long) ∙ held_long in
    let content : h.content ≡ get_or (contents held) i h.content = content-at held i h c.index-held-i.is in
    let change : d ≡ get_or news i d = arc-at c.args.news.now i c.index-news-i.result c.index-news-i.is in
    let plain_at = λ (plain : AllPlain held). subst (λ (k : Holding). IsPlain k.want) (sym c.index-held-i.is) (plain i h test) in
    let pushed = c.in_ok-push.ensures.items in
    let pushed_after = c.in_ok-push-2.ensures.items in
    let before = c.loop-i.invariant.steps in
    let one = c.in_ok-seen.ensures.steps in
    record {
      before = λ plain. own-more j (contents held) key i h.content c.loop-i.before.items c.push.new.self.items seen.before within (omega (arith, within, held_long)) content (c.in_ok-seen.ensures.before (plain_at plain)) pushed (c.loop-i.invariant.before plain);
      after = λ plain.
          own-more j (after_news news (contents held)) key i (apply d h.content) c.loop-i.after.items c.push-in-loop-i.new.self.items seen.after within (omega (arith, within, after_long))
          (after-at news (contents held) i d h.content (omega (arith, within, news_long)) (omega (arith, within, held_long)) change content)
          (c.in_ok-seen.ensures.after (plain_at plain) ∙ ap (λ (e : Changes). get (apply e h.content) (own_key j i key)) c.deref.ensures) pushed_after (c.loop-i.invariant.after plain);
      before_len = ap (λ (ps : List (Option (Arc Point Global))). length ps) pushed ∙ length_push c.loop-i.before.items seen.before ∙ ap (λ n. n + 1) c.loop-i.invariant.before_len;
      after_len = ap (λ (ps : List (Option (Arc Point Global))). length ps) pushed_after ∙ length_push c.loop-i.after.items seen.after ∙ ap (λ n. n + 1) c.loop-i.invariant.after_len;
      steps = omega (arith, before, one);
    }

pub returns-clause-before : goal.returns-clause-before
returns-clause-before g c = λ plain.
    let j : JoinOn = c.args.plan.now in
    let held : List Holding = c.args.held.now in
    points-end j (contents held) c.args.key.now c.loop-i.i c.loop-i.before.items (let many = c.requires.held in let past = c.loop-i-test.false in omega (arith, many, past)) (c.loop-i.invariant.before plain)

pub returns-clause-after : goal.returns-clause-after
returns-clause-after g c = λ plain.
    let j : JoinOn = c.args.plan.now in
    let held : List Holding = c.args.held.now in
    points-end j (after_news (map arc_value c.args.news.now) (contents held)) c.args.key.now c.loop-i.i c.loop-i.after.items (let many = c.requires.held in let past = c.loop-i-test.false in omega (arith, many, past)) (c.loop-i.invariant.after plain)
