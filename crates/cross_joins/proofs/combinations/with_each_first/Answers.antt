use Rattle.std.proofs.Common.{◌++◌, ◌∷◌, List, map, sym, ap, ◌∙◌}
use Rattle.cross_joins.specs.Combinations.{Combination}
use Rattle.cross_joins.specs.Rows.{lists_in, shared_row}
use Rattle.cross_joins.proofs.Lists.{each-more, map-more}
use Rattle.cross_joins.proofs.combinations.with_each_first.Goals as goal

pub loop-row-preserved : goal.loop-row-preserved
loop-row-preserved c =
    let cs : List Combination = lists_in c.args.combinations.now in
    let row = c.row-item.result in
    c.in_ok-push_with_first.ensures
    ∙ ap (λ (ds : List Combination). ds ++ map (λ d. shared_row row ∷ d) cs) c.loop-row.invariant
    ∙ sym (each-more _ _ (shared_row row) cs (map-more shared_row c.args.rows.now c.loop-row.row-index row c.loop-row-test.true c.row-item.is))
