use Rattle.std.proofs.Common.{◌≡◌, ◌++◌, ◌∷◌, [], List, map, get_or, sym, ap, ◌∙◌, arith}
use Rattle.std.specs.Arc.{arc_value}
use Rattle.std.proofs.Math.ListN.{get_or-map}
use Rattle.std.proofs.lemmas.List.{length-map, map-append}
use Rattle.std.proofs.lemmas.List.Sums.{sum_by_more, sum_by_more_le}
use Rattle.point_sets.specs.Changes.{Changes}
use Rattle.held_index.specs.Holdings.{Holding}
use Rattle.cross_joins.specs.Reach.{walk_steps}
use Rattle.cross_joins.specs.Rows.{lists_in, rows_in, rows_of}
use Rattle.cross_joins.proofs.Lists.{rows-end, rows-more}
use Rattle.cross_joins.proofs.rows.all_rows.Goals as goal

pub loop-i-preserved : goal.loop-i-preserved
loop-i-preserved g c =
    let i = c.loop-i.i in
    let held : List Holding = c.args.held.now in
    let news : List Changes = map arc_value c.args.news.now in
    let h : Holding = c.index-held-i.result in
    let d : Changes = arc_value c.index-news-i.result in
    let test = c.loop-i-test.true in
    let many = c.requires in
    let long = length-map c.args.news.now arc_value in
    let at : d ≡ get_or news i d = sym (get_or-map arc_value c.args.news.now i c.index-news-i.result ∙ ap arc_value (sym c.index-news-i.is)) in
    let next = ap lists_in c.in_ok-push.ensures.ok ∙ map-append rows_in c.loop-i.all (c.in_ok-rows_of.field-0 ∷ []) in
    let own = c.in_ok-rows_of.ensures.rows ∙ ap (rows_of h) c.deref.ensures in
    let more = sum_by_more walk_steps held i h test in
    let here = ap walk_steps c.index-held-i.is in
    let before = c.loop-i.invariant.steps in
    let one = c.in_ok-rows_of.ensures.steps in
    record {
      rows = rows-more held news i h d (lists_in c.loop-i.all) (lists_in c.push.new.self) test (omega (arith, test, many, long)) c.index-held-i.is at c.loop-i.invariant.rows (next ∙ (λ k. lists_in c.loop-i.all ++ own k ∷ []));
      steps = omega (arith, before, one, more, here);
    }

pub returns-clause-rows : goal.returns-clause-rows
returns-clause-rows g c = rows-end c.args.held.now (map arc_value c.args.news.now) c.loop-i.i (lists_in c.loop-i.all) c.loop-i-test.false c.loop-i.invariant.rows

pub returns-in_err-rows_of-clause-steps : goal.returns-in_err-rows_of-clause-steps
returns-in_err-rows_of-clause-steps g c =
    let most = sum_by_more_le walk_steps c.args.held.now c.loop-i.i c.index-held-i.result c.loop-i-test.true in
    let here = ap walk_steps c.index-held-i.is in
    let before = c.loop-i.invariant.steps in
    let one = c.in_err-rows_of.ensures.steps in
    omega (arith, before, one, most, here)

pub returns-in_err-push-clause-steps : goal.returns-in_err-push-clause-steps
returns-in_err-push-clause-steps g c =
    let most = sum_by_more_le walk_steps c.args.held.now c.loop-i.i c.index-held-i.result c.loop-i-test.true in
    let here = ap walk_steps c.index-held-i.is in
    let before = c.loop-i.invariant.steps in
    let one = c.in_ok-rows_of.ensures.steps in
    omega (arith, before, one, most, here)
