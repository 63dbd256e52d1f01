use Rattle.std.proofs.Common.{◌≡◌, length, get_or, sym, ap, ◌∙◌, arith}
use Rattle.std.proofs.Math.ListN.{get_or-map}
use Rattle.std.proofs.lemmas.List.{length-map}
use Rattle.cross_joins.specs.Combinations.{Combination}
use Rattle.cross_joins.specs.Noted.{noted_combination}
use Rattle.cross_joins.specs.Rows.{lists_in, rows_in, shared_row}
use Rattle.cross_joins.proofs.Lists.{fold-more}
use Rattle.cross_joins.proofs.notes.note_all.Goals as goal

pub note_combination-requires : goal.note_combination-requires
note_combination-requires c =
    let i = c.loop-combination.combination-index in
    let all = c.args.combinations.now in
    let own = c.combination-item.result in
    let test = c.loop-combination-test.true in
    let many = length-map all rows_in in
    let long = c.requires i (rows_in own) (omega (arith, test, many)) in
    let at : get_or (lists_in all) i (rows_in own) ≡ rows_in own = get_or-map rows_in all i own ∙ ap rows_in (sym c.combination-item.is) in
    ap length c.as_slice.ensures ∙ sym (length-map own shared_row) ∙ ap (λ (rs : Combination). length rs) (sym at) ∙ long

pub loop-combination-preserved : goal.loop-combination-preserved
loop-combination-preserved c =
    fold-more (noted_combination c.args.plan.now) rows_in c.args.draft.now c.args.combinations.now c.loop-combination.combination-index c.combination-item.result c.loop-combination.draft c.note_combination.new.draft
    c.loop-combination-test.true c.combination-item.is c.loop-combination.invariant (c.in_ok-note_combination.ensures ∙ ap (λ rs. noted_combination c.args.plan.now c.loop-combination.draft (rows_in rs)) c.as_slice.ensures)
