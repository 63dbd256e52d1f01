use Rattle.std.proofs.Common.{◌≡◌, [], ◌∷◌, List, get_or, drop, filter, false, refl, sym, ap, ◌∙◌, arith}
use Rattle.std.specs.List.{list_any}
use Rattle.std.proofs.lemmas.Bool.{false≢true}
use Rattle.std.proofs.Math.ListN.{drop_of_length-le, get_or-map}
use Rattle.std.proofs.lemmas.List.{length-map}
use Rattle.cross_joins.specs.Combinations.{choices, combinations_of}
use Rattle.cross_joins.specs.Rows.{RowValues, is_chosen, lists_in, rows_in, shared_row}
use Rattle.cross_joins.proofs.Lists.{no-combinations, no-later-combinations, nothing-chosen}
use Rattle.cross_joins.proofs.combinations.is_any_without_choice.Goals as goal

pub returns-then-not-has_choice : goal.returns-then-not-has_choice
returns-then-not-has_choice c =
    let i = c.loop-i.i-counter in
    let side = c.args.side in
    let first = c.args.first in
    let lists : List (List RowValues) = lists_in c.args.rows.now in
    let own = c.as_slice.result.now in
    let at : rows_in own ≡ get_or lists i (rows_in own) = ap rows_in (c.as_slice.ensures ∙ c.index-rows-i.is) ∙ sym (get_or-map rows_in c.args.rows.now i c.index-rows-i.result) ∙ ap (λ rs. get_or lists i (rows_in rs)) (sym c.as_slice.ensures) in
    let place = c.cmp.ensures in
    let test = c.loop-i-test.true in
    let long = length-map c.args.rows.now rows_in in
    let none : filter (is_chosen side c.cmp.result) (rows_in own) ≡ [] = nothing-chosen shared_row (is_chosen side c.cmp.result) own (sym c.has_choice.ensures ∙ c.if-not-has_choice.true) in
    (λ yes'. no-combinations side first 0 i i lists (rows_in own) (omega arith) (omega (arith, test, long)) at (ap (λ o. filter (is_chosen side o) (rows_in own)) (sym place) ∙ none), λ none'. refl)

pub loop-i-preserved : goal.loop-i-preserved
loop-i-preserved c = λ none.
    let i = c.loop-i.i-counter in
    let lists : List (List RowValues) = lists_in c.args.rows.now in
    let own = c.as_slice.result.now in
    let at : rows_in own ≡ get_or lists i (rows_in own) = ap rows_in (c.as_slice.ensures ∙ c.index-rows-i.is) ∙ sym (get_or-map rows_in c.args.rows.now i c.index-rows-i.result) ∙ ap (λ rs. get_or lists i (rows_in rs)) (sym c.as_slice.ensures) in
    let test = c.loop-i-test.true in
    let long = length-map c.args.rows.now rows_in in
    let some = ap (λ o. list_any (λ r. is_chosen c.args.side o (shared_row r)) own) (sym c.cmp.ensures) ∙ sym c.has_choice.ensures ∙ c.if-not-has_choice.false in
    no-later-combinations c.args.side c.args.first i lists shared_row own (omega (arith, test, long)) at some (c.loop-i.invariant none)

pub returns : goal.returns
returns c =
    let i = c.loop-i.i-counter in
    let lists : List (List RowValues) = lists_in c.args.rows.now in
    let past = c.loop-i-test.false in
    let long = length-map c.args.rows.now rows_in in
    let ended : drop i lists ≡ [] = drop_of_length-le lists (omega (arith, past, long)) in
    (λ no. absurd (false≢true no), λ none. let last : [] ∷ [] ≡ [] = sym (ap (λ (ls : List (List RowValues)). combinations_of (choices c.args.side c.args.first i ls)) ended) ∙ c.loop-i.invariant none in cc)
