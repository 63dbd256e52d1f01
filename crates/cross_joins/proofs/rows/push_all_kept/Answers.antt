use Rattle.std.proofs.Common.{◌≡◌, [], List, Some, length, ap, ◌∙◌, arith}
use Rattle.std.specs.Prelude.{slice_get}
use Rattle.vtl_values.specs.declared.value.Value.{Value}
use Rattle.point_sets.specs.DataSets.{entry_of}
use Rattle.held_index.specs.Holdings.{part_of}
use Rattle.held_index.specs.Walks.{PointValues}
use Rattle.cross_joins.proofs.Lists.{kept-more}
use Rattle.cross_joins.proofs.rows.push_all_kept.Goals as goal

pub loop-n-preserved : goal.loop-n-preserved
loop-n-preserved g c =
    let h = c.args.held.now in
    let news = c.args.news.now in
    let ps : List PointValues = part_of h.want [] h.content in
    let whole : c.in_ok-whole.whole ≡ [] = c.in_ok-whole.ensures in
    let part_is : part_of h.want c.in_ok-whole.whole h.content ≡ ps = ap (λ (k : List Value). part_of h.want k h.content) whole in
    let count = c.count_in-count.ensures.count in
    let counted = ap (λ (qs : List PointValues). length qs) part_is in
    let test = c.loop-n-test.true in
    let found : Some (entry_of c.in-Some.point.now) ≡ slice_get ps c.loop-n.n = c.in-Some.ensures.found ∙ ap (λ (qs : List PointValues). slice_get qs c.loop-n.n) part_is in
    let before = c.loop-n.invariant.steps in
    let look = c.in-Some.ensures.steps in
    record {
      rows = kept-more news ps c.loop-n.n (entry_of c.in-Some.point.now) _ _ _ (omega (arith, count, counted, test)) found c.loop-n.invariant.rows c.in_ok-push_kept.ensures;
      steps = omega (arith, before, look);
    }
