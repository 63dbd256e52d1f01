use Rattle.std.proofs.Common.{◌≡◌, List, length, ap, ◌∙◌, arith}
use Rattle.std.specs.Prelude.{flat_map, fold}
use Rattle.std.specs.List.{range_with_len}
use Rattle.std.proofs.lemmas.List.{length-map}
use Rattle.cross_joins.specs.Combinations.{first_changed_at}
use Rattle.cross_joins.specs.Noted.{noted_combination}
use Rattle.cross_joins.specs.Rows.{RowValues, lists_in, rows_in}
use Rattle.cross_joins.proofs.Lists.{fold-lists}
use Rattle.cross_joins.proofs.notes.note_side.Goals as goal

pub loop-first-preserved : goal.loop-first-preserved
loop-first-preserved c =
    fold-lists (noted_combination c.args.plan.now) (first_changed_at c.args.side (lists_in c.args.rows.now)) c.args.draft.now c.loop-first.first c.loop-first.draft c.note_first_changed.new.draft c.loop-first.invariant c.in_ok-note_first_changed.ensures

pub returns : goal.returns
returns c =
    let lists : List (List RowValues) = lists_in c.args.rows.now in
    let long = length-map c.args.rows.now rows_in in
    let past = c.loop-first-test.false in
    let most = c.loop-first.auto.first-end in
    let all : c.loop-first.first ≡ length lists = omega (arith, long, past, most) in
    c.loop-first.invariant ∙ ap (λ n. fold (noted_combination c.args.plan.now) c.args.draft.now (flat_map (first_changed_at c.args.side lists) (range_with_len 0 n))) all
