use Rattle.std.proofs.Common.{◌≡◌, ◌+◌, ◌++◌, ◌∷◌, [], List, get_or, drop, filter, sym, ap, ◌∙◌, arith}
use Rattle.std.proofs.Math.ListN.{drop_of_length-le, get_or-map}
use Rattle.std.proofs.lemmas.List.{append-nil, length-map, map-append}
use Rattle.cross_joins.specs.Combinations as meant
use Rattle.cross_joins.specs.Rows.{RowValues, is_chosen, lists_in, rows_in}
use Rattle.cross_joins.proofs.Lists.{choices-more}
use Rattle.cross_joins.proofs.combinations.choices.Goals as goal

pub loop-i-preserved : goal.loop-i-preserved
loop-i-preserved c =
    let i = c.loop-i.i-counter in
    let lists : List (List RowValues) = lists_in c.args.rows.now in
    let own = c.as_slice.result.now in
    let at : rows_in own ≡ get_or lists i (rows_in own) = ap rows_in (c.as_slice.ensures ∙ c.index-rows-i.is) ∙ sym (get_or-map rows_in c.args.rows.now i c.index-rows-i.result) ∙ ap (λ rs. get_or lists i (rows_in rs)) (sym c.as_slice.ensures) in
    let test = c.loop-i-test.true in
    let long = length-map c.args.rows.now rows_in in
    let next : lists_in c.push.new.self ≡ lists_in c.loop-i.all ++ rows_in c.in_ok-chosen.field-0 ∷ [] = ap lists_in c.in_ok-push.ensures.ok ∙ map-append rows_in c.loop-i.all (c.in_ok-chosen.field-0 ∷ []) in
    choices-more c.args.side c.args.first i lists (lists_in c.loop-i.all) (rows_in own) (rows_in c.in_ok-chosen.field-0) (omega (arith, test, long)) at
    (c.in_ok-chosen.ensures ∙ ap (λ o. filter (is_chosen c.args.side o) (rows_in own)) c.cmp.ensures) c.loop-i.invariant
    ∙ ap (λ (ls : List (List RowValues)). ls ++ meant.choices c.args.side c.args.first (i + 1) (drop (i + 1) lists)) (sym next)

pub returns : goal.returns
returns c =
    let i = c.loop-i.i-counter in
    let lists : List (List RowValues) = lists_in c.args.rows.now in
    let past = c.loop-i-test.false in
    let long = length-map c.args.rows.now rows_in in
    sym (c.loop-i.invariant ∙ ap (λ (ls : List (List RowValues)). lists_in c.loop-i.all ++ meant.choices c.args.side c.args.first i ls) (drop_of_length-le lists (omega (arith, past, long))) ∙ append-nil (lists_in c.loop-i.all))
