use Rattle.std.proofs.Common.{◌≡◌, ◌<◌, ◌++◌, List, length, map, get_or, subst, ap, ◌∙◌, below_more, arith}
use Rattle.std.specs.Arc.{arc_value}
use Rattle.std.proofs.lemmas.List.{length-map, get_or_default}
use Rattle.data_model.specs.Deltas.{Differs}
use Rattle.point_sets.specs.Changes.{Changes}
use Rattle.set_ops.specs.Noted.{keys_read}
use Rattle.set_ops.specs.declared.reading.Reading.{Reading}
use Rattle.set_ops.proofs.Looked.{arc-at, keys-more}
use Rattle.set_ops.proofs.notes.all_keys.Goals as goal

pub loop-i-preserved : goal.loop-i-preserved
loop-i-preserved c =
    let i = c.loop-i.i in
    let rs : List Reading = c.args.readings.now in
    let news : List Changes = map arc_value c.args.news.now in
    let r : Reading = c.index-readings-i.result in
    let d : Changes = arc_value c.index-news-i.result in
    let within : i < length rs = c.loop-i-test.true in
    let long : length news ≡ length rs = length-map c.args.news.now arc_value ∙ c.requires in
    let inside : i < length news = omega (arith, within, long) in
    let at : d ≡ get_or news i d = arc-at c.args.news.now i c.index-news-i.result c.index-news-i.is in
    let differs : Differs d = subst (λ (e : Changes). Differs e) c.deref.ensures c.in_ok-push_keys.ensures.differs in
    record {
      keys = keys-more rs news i r d c.loop-i.keys.items c.push_keys.new.keys.items within inside c.index-readings-i.is at (c.in_ok-push_keys.ensures.keys ∙ ap (λ (e : Changes). c.loop-i.keys.items ++ keys_read r e) c.deref.ensures) c.loop-i.invariant.keys;
      differs = below_more (λ k. (e : Changes) → Differs (get_or news k e)) i c.loop-i.invariant.differs (λ e. subst (λ (f : Changes). Differs f) (at ∙ get_or_default news i d e inside) differs);
    }

pub returns-clause-differs : goal.returns-clause-differs
returns-clause-differs c = λ k d within.
    let long = length-map c.args.news.now arc_value in
    let past = c.loop-i-test.false in
    let same = c.requires in
    c.loop-i.invariant.differs k (omega (arith, within, long, past, same)) d
