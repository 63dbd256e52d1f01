use Rattle.std.proofs.Common.{◌≡◌, ◌-◌, List, get_or, sym, ap, ◌∙◌, arith}
use Rattle.std.proofs.Math.ListN.{get_or-map}
use Rattle.std.proofs.lemmas.List.{length-map}
use Rattle.cross_joins.specs.Combinations.{with_each_first}
use Rattle.cross_joins.specs.Rows.{RowValues, lists_in, rows_in}
use Rattle.cross_joins.proofs.Lists.{combinations-more}
use Rattle.cross_joins.proofs.combinations.combinations.Goals as goal

pub loop-i-preserved : goal.loop-i-preserved
loop-i-preserved c =
    let i = c.loop-i.i - 1 in
    let lists : List (List RowValues) = lists_in c.args.lists.now in
    let own = c.as_slice.result.now in
    let at : rows_in own ≡ get_or lists i (rows_in own) = ap rows_in (c.as_slice.ensures ∙ c.index-lists-i.is) ∙ sym (get_or-map rows_in c.args.lists.now i c.index-lists-i.result) ∙ ap (λ rs. get_or lists i (rows_in rs)) (sym c.as_slice.ensures) in
    let test = c.loop-i-test.true in
    let most = c.loop-i.auto.i in
    let long = length-map c.args.lists.now rows_in in
    combinations-more lists i c.loop-i.i (rows_in own) (lists_in c.loop-i.all) (lists_in c.in_ok-all.all) (omega (arith, test, most, long)) at (omega (arith, test)) c.loop-i.invariant
    (c.in_ok-all.ensures ∙ ap (λ cs. with_each_first (rows_in own) (lists_in cs)) c.as_slice-in-loop-i.ensures)
