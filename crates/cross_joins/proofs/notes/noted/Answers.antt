use Rattle.std.proofs.Common.{◌≡◌, List, length, map, ap, sym, ◌∙◌}
use Rattle.std.specs.Arc.{arc_value}
use Rattle.std.specs.Prelude.{fold}
use Rattle.std.proofs.lemmas.List.{length-map}
use Rattle.std.proofs.lemmas.List.Sums.{fold-append}
use Rattle.data_model.specs.Drafts.{nothing}
use Rattle.held_index.specs.Drafts.{SetDraft}
use Rattle.cross_joins.specs.Combinations.{Combination, changed_combinations}
use Rattle.cross_joins.specs.Noted.{noted_combination}
use Rattle.cross_joins.specs.Rows.{RowValues, all_rows, lists_in, rows_in}
use Rattle.cross_joins.specs.declared.rows.Side.TheVariants.{Before, After}
use Rattle.cross_joins.proofs.Lists.{rows-long}
use Rattle.cross_joins.proofs.notes.noted.Goals as goal

pub all_rows-requires : goal.all_rows-requires
all_rows-requires g c = c.requires.news ∙ sym c.requires.held

pub note_side-requires : goal.note_side-requires
note_side-requires g c =
    ap length c.as_slice.ensures ∙ sym (length-map c.in_ok-rows.rows rows_in) ∙ ap length c.in_ok-rows.ensures.rows
    ∙ rows-long c.args.held.now (map arc_value c.args.news.now) (length c.args.plan.now.operands) c.requires.held (length-map c.args.news.now arc_value ∙ c.requires.news)

pub note_side-requires-2 : goal.note_side-requires-2
note_side-requires-2 g c =
    ap length c.as_slice-2.ensures ∙ sym (length-map c.in_ok-rows.rows rows_in) ∙ ap length c.in_ok-rows.ensures.rows
    ∙ rows-long c.args.held.now (map arc_value c.args.news.now) (length c.args.plan.now.operands) c.requires.held (length-map c.args.news.now arc_value ∙ c.requires.news)

pub returns-clause-noted : goal.returns-clause-noted
returns-clause-noted g c =
    let f : SetDraft → Combination → SetDraft = noted_combination c.args.plan.now in
    let rows : List (List RowValues) = all_rows c.args.held.now (map arc_value c.args.news.now) in
    let before : List Combination = changed_combinations Before rows in
    let after : List Combination = changed_combinations After rows in
    let first : lists_in c.as_slice.result.now ≡ rows = ap lists_in c.as_slice.ensures ∙ c.in_ok-rows.ensures.rows in
    let second : lists_in c.as_slice-2.result.now ≡ rows = ap lists_in c.as_slice-2.ensures ∙ c.in_ok-rows.ensures.rows in
    let one : c.note_side.new.draft ≡ fold f nothing before = c.in_ok-note_side.ensures ∙ (λ i. fold f (c.new-draft.ensures i) (changed_combinations Before (first i))) in
    c.in_ok-note_side-2.ensures ∙ (λ i. fold f (one i) (changed_combinations After (second i))) ∙ sym (fold-append f nothing before after)
