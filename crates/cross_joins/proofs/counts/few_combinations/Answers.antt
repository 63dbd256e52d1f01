use Rattle.std.proofs.Common.{◌≡◌, ◌+◌, ◌*◌, List, map, min, get_or, sym, ap, ◌∙◌, arith}
use Rattle.std.specs.Arc.{arc_value}
use Rattle.std.proofs.Math.ListN.{get_or-map}
use Rattle.std.proofs.lemmas.List.{length-map}
use Rattle.data_model.specs.declared.TheConstants.{POINT_LIMIT}
use Rattle.point_sets.specs.Changes.{Changes}
use Rattle.held_index.specs.Holdings.{Holding}
use Rattle.cross_joins.specs.Counts.{combinations_after, count_after_news}
use Rattle.cross_joins.proofs.Counted.{counted-end, counted-more}
use Rattle.cross_joins.proofs.counts.few_combinations.Goals as goal

pub loop-i-preserved : goal.loop-i-preserved
loop-i-preserved g c =
    let i = c.loop-i.i in
    let held : List Holding = c.args.held.now in
    let news : List Changes = map arc_value c.args.news.now in
    let h : Holding = c.index-held-i.result in
    let d : Changes = arc_value c.index-news-i.result in
    let test = c.loop-i-test.true in
    let many = c.requires.news in
    let long = length-map c.args.news.now arc_value in
    let at : d ≡ get_or news i d = sym (get_or-map arc_value c.args.news.now i c.index-news-i.result ∙ ap arc_value (sym c.index-news-i.is)) in
    let count : c.count_after-count.result ≡ count_after_news h d = c.count_after-count.ensures.count ∙ ap (count_after_news h) c.deref.ensures in
    let product = c.saturating_mul.ensures in
    let least = c.min-product.ensures in
    let next : c.min-product.result ≡ min (count_after_news h d * c.loop-i.product) (POINT_LIMIT + 1) =
    (let own : c.min-product.result ≡ min (c.count_after-count.result * c.loop-i.product) (POINT_LIMIT + 1) = omega (arith, product, least) in own) ∙ ap (λ n. min (n * c.loop-i.product) (POINT_LIMIT + 1)) count in
    let before = c.loop-i.invariant.steps in
    let one = c.count_after-count.ensures.steps in
    record {
      count =
          counted-more held news i h d c.loop-i.product c.min-product.result (POINT_LIMIT + 1) (min (combinations_after held news) (POINT_LIMIT + 1)) test (omega (arith, test, many, long)) c.index-held-i.is at next c.loop-i.invariant.count;
      most = omega (arith, least);
      steps = omega (arith, before, one);
    }

pub returns-clause-count : goal.returns-clause-count
returns-clause-count g c =
    let held : List Holding = c.args.held.now in
    let news : List Changes = map arc_value c.args.news.now in
    let was = c.loop-i.invariant.count in
    let none = counted-end held news c.loop-i.i c.loop-i-test.false in
    let whole : min (c.loop-i.product * 1) (POINT_LIMIT + 1) ≡ min (combinations_after held news) (POINT_LIMIT + 1) = ap (λ n. min (c.loop-i.product * n) (POINT_LIMIT + 1)) (sym none) ∙ was in
    let most = c.loop-i.invariant.most in
    (let own : c.loop-i.product ≡ min (c.loop-i.product * 1) (POINT_LIMIT + 1) = omega (arith, most) in own) ∙ whole
