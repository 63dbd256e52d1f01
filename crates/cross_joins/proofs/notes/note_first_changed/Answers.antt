use Rattle.std.proofs.Common.{◌≡◌, List, OnOk, length, ap, subst, sym, ◌∙◌}
use Rattle.std.specs.List.{All}
use Rattle.std.specs.Prelude.{fold}
use Rattle.std.proofs.lemmas.List.{length-map}
use Rattle.cross_joins.specs.Combinations.{Combination, combinations_of, first_changed_at}
use Rattle.cross_joins.specs.Noted.{noted_combination}
use Rattle.cross_joins.specs.Rows.{RowValues, lists_in, rows_in}
use Rattle.cross_joins.proofs.CombinationLemmas.{first_changed-long}
use Rattle.cross_joins.proofs.notes.note_first_changed.Goals as goal

pub returns-then-is_any_without_choice : goal.returns-then-is_any_without_choice
returns-then-is_any_without_choice c = sym (ap (λ (cs : List Combination). fold (noted_combination c.args.plan.now) c.args.draft.now cs) (c.is_any_without_choice.ensures.0 c.if-is_any_without_choice.true))

pub note_all-requires : goal.note_all-requires
note_all-requires c =
    let rows : List (List RowValues) = lists_in c.args.rows.now in
    let many : length rows ≡ length c.args.plan.now.operands = length-map c.args.rows.now rows_in ∙ c.requires in
    let all : lists_in c.as_slice-2.result.now ≡ first_changed_at c.args.side rows c.args.first = ap lists_in c.as_slice-2.ensures ∙ c.in_ok-all.ensures ∙ ap combinations_of (ap lists_in c.as_slice.ensures ∙ c.in_ok-lists.ensures) in
    subst (All (λ (r : Combination). length r ≡ length c.args.plan.now.operands)) (sym all) (first_changed-long c.args.side rows c.args.first (length c.args.plan.now.operands) many)

pub returns : goal.returns
returns c =
    let rows : List (List RowValues) = lists_in c.args.rows.now in
    let all : lists_in c.as_slice-2.result.now ≡ first_changed_at c.args.side rows c.args.first = ap lists_in c.as_slice-2.ensures ∙ c.in_ok-all.ensures ∙ ap combinations_of (ap lists_in c.as_slice.ensures ∙ c.in_ok-lists.ensures) in
    subst (λ (cs : List Combination). OnOk c.note_all.result (c.note_all.new.draft ≡ fold (noted_combination c.args.plan.now) c.args.draft.now cs)) all c.note_all.ensures
