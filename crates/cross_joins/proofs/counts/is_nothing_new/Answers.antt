use Rattle.std.proofs.Common.{◌≡◌, List, length, get_or, map, false, true, sym, ap, ◌∙◌, arith}
use Rattle.std.specs.Arc.{arc_value}
use Rattle.std.specs.FinMap.{len, len-entries}
use Rattle.std.proofs.Math.ListN.{get_or-map}
use Rattle.std.proofs.lemmas.Bool.Decides.{nat_tests}
use Rattle.std.proofs.lemmas.List.{length-map}
use Rattle.std.proofs.lemmas.List.Sums.{sum_by_more, sum_by_more_le}
use Rattle.point_sets.specs.Changes.{Changes, change_entry}
use Rattle.held_index.specs.Reach.{changes_in}
use Rattle.cross_joins.proofs.counts.is_nothing_new.Goals as goal

pub returns-then-not-is_empty : goal.returns-then-not-is_empty
returns-then-not-is_empty c =
    let i = c.loop-delta.delta-index in
    let news : List Changes = map arc_value c.args.news.now in
    let d : Changes = arc_value c.delta-item.result in
    let test = c.loop-delta-test.true in
    let long = length-map c.args.news.now arc_value in
    let at : get_or news i d ≡ d = get_or-map arc_value c.args.news.now i c.delta-item.result ∙ ap arc_value (sym c.delta-item.is) in
    let most = sum_by_more_le len news i d (omega (arith, test, long)) in
    let here : len (get_or news i d) ≡ len d = ap (λ (e : Changes). len e) at in
    let many : length c.changes.result.now ≡ len d = sym (length-map c.changes.result.now change_entry) ∙ ap length c.changes.ensures.entries ∙ sym (len-entries c.deref.result.now) ∙ ap (λ (e : Changes). len e) c.deref.ensures in
    let empty = c.is_empty.ensures in
    let not_empty = c.if-not-is_empty.true in
    (λ (h : false ≡ true). cc, λ (h : changes_in news ≡ 0). let none : length c.changes.result.now ≡ 0 = omega (arith, most, here, many, h) in grind (arith, nat_tests, none, empty, not_empty))

pub loop-delta-preserved : goal.loop-delta-preserved
loop-delta-preserved c =
    let i = c.loop-delta.delta-index in
    let news : List Changes = map arc_value c.args.news.now in
    let d : Changes = arc_value c.delta-item.result in
    let test = c.loop-delta-test.true in
    let long = length-map c.args.news.now arc_value in
    let at : get_or news i d ≡ d = get_or-map arc_value c.args.news.now i c.delta-item.result ∙ ap arc_value (sym c.delta-item.is) in
    let more = sum_by_more len news i d (omega (arith, test, long)) in
    let here : len (get_or news i d) ≡ len d = ap (λ (e : Changes). len e) at in
    let many : length c.changes.result.now ≡ len d = sym (length-map c.changes.result.now change_entry) ∙ ap length c.changes.ensures.entries ∙ sym (len-entries c.deref.result.now) ∙ ap (λ (e : Changes). len e) c.deref.ensures in
    let empty = c.is_empty.ensures in
    let is_empty = c.if-not-is_empty.false in
    let none : length c.changes.result.now ≡ 0 = grind (arith, nat_tests, empty, is_empty) in
    let before = c.loop-delta.invariant in
    omega (arith, more, here, many, none, before)
