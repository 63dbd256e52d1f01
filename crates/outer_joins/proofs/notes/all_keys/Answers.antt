use Rattle.std.proofs.Common.{◌≡◌, ◌<◌, ◌++◌, List, length, map, get_or, subst, ap, ◌∙◌, below_more, arith}
use Rattle.std.specs.Arc.{arc_value}
use Rattle.std.specs.FinMap.{keys}
use Rattle.std.proofs.lemmas.List.{length-map, get_or_default}
use Rattle.data_model.specs.Deltas.{Differs}
use Rattle.point_sets.specs.Changes.{Changes}
use Rattle.operator_meaning.specs.joins.Joins.{JoinOn, join_key}
use Rattle.join_eval.specs.Plans.{structure_of}
use Rattle.outer_joins.proofs.Looked.{arc-at, keys-more, keys-end}
use Rattle.outer_joins.proofs.notes.all_keys.Goals as goal

pub loop-i-preserved : goal.loop-i-preserved
loop-i-preserved c =
    let i = c.loop-i.i in
    let j : JoinOn = c.args.plan.now in
    let news : List Changes = map arc_value c.args.news.now in
    let d : Changes = arc_value c.index-news-i.result in
    let long : length news ≡ length c.args.news.now = length-map c.args.news.now arc_value in
    let test = c.loop-i-test.true in
    let many = c.requires in
    let inside : i < length news = omega (arith, test, long) in
    let within : i < length j.operands = omega (arith, test, many) in
    let at : d ≡ get_or news i d = arc-at c.args.news.now i c.index-news-i.result c.index-news-i.is in
    let differs : Differs d = subst (λ (e : Changes). Differs e) c.deref.ensures c.in_ok-push_keys.ensures.differs in
    record {
      keys = keys-more j news i d c.loop-i.keys.items c.push_keys.new.keys.items within inside at (c.in_ok-push_keys.ensures.keys ∙ ap (λ (e : Changes). c.loop-i.keys.items ++ map (join_key j (structure_of j i)) (keys e)) c.deref.ensures) c.loop-i.invariant.keys;
      differs = below_more (λ k. (e : Changes) → Differs (get_or news k e)) i c.loop-i.invariant.differs (λ e. subst (λ (f : Changes). Differs f) (at ∙ get_or_default news i d e inside) differs);
    }

pub returns-clause-keys : goal.returns-clause-keys
returns-clause-keys c =
    let past = c.loop-i-test.false in
    let many = c.requires in
    keys-end c.args.plan.now (map arc_value c.args.news.now) c.loop-i.i c.loop-i.keys.items (omega (arith, past, many)) c.loop-i.invariant.keys

pub returns-clause-differs : goal.returns-clause-differs
returns-clause-differs c = λ k d within.
    let long = length-map c.args.news.now arc_value in
    let past = c.loop-i-test.false in
    c.loop-i.invariant.differs k (omega (arith, within, long, past)) d
