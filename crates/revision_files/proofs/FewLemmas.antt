-- A feed has no more revisions than blocks, and its rows no more fields than are counted.
use Rattle.std.proofs.Common.{◌≡◌, ◌∙◌, ◌+◌, ◌≤◌, ◌<◌, ℕ, Bool, true, false, ◌||◌, ◌&&◌, ◌==◌, drop, not, nat_lt, if◌then◌else◌, List, [], ◌∷◌, ◌++◌, length, map, Option, Some, None, Result, Ok, Err, refl, sym, ap, subst, arith, length-append}
use Rattle.std.specs.Str.{is_utf8}
use Rattle.std.specs.List.{fold, sum, sum_by}
use Rattle.csv.specs.Reading.{strip_bom}
use Rattle.std.proofs.lemmas.Bool.Decides.{nat_tests}
use Rattle.std.proofs.lemmas.List.{length-map}
use Rattle.std.proofs.lemmas.List.Sums.{sum-map, sum_by-append, sum_by-cons}
use Rattle.point_sets.specs.declared.revision.Action.{Action}
use Rattle.point_sets.specs.declared.revision.Part.{Part}
use Rattle.point_sets.specs.declared.revision.RawRow.{RawRow}
use Rattle.point_sets.specs.declared.revision.Revision.{Revision}
use Rattle.vtl_values.specs.declared.structure.Component.{Component}
use Rattle.vtl_values.specs.Structures.{NamedStructures, structure_of}
use Rattle.revision_files.specs.declared.columns.Columns.{Columns}
use Rattle.revision_files.specs.declared.rows.BlockRows.{BlockRows}
use Rattle.revision_files.specs.declared.stop.FeedFault.{FeedFault}
use Rattle.revision_files.specs.declared.stop.FeedFault.TheVariants.{NotUtf8, BadHeader, FieldCount, BadAction, TooMany}
use Rattle.revision_files.specs.Answers.{◌>>=◌, or_fault, one_by_one}
use Rattle.revision_files.specs.Blocks.{Cut, cut, is_blank_text, after_line, is_further, set_of}
use Rattle.revision_files.specs.Rows.{raw_field, action_of, text_in, MOST_ROWS, MOST_FIELDS, row_with, fields_counted, next_row}
use Rattle.revision_files.specs.Feeds.{MOST_BLOCKS, Feed, part_fields, fields_of, IsFew, columns_in, table_of, rows_in, join_last, with_part, next_block, no_blocks, blocks_of, feed_of}

-- ---- one item after another

abbrev with_next : {A B : Type 0} → (A → B → Result A FeedFault) → Result A FeedFault → B → Result A FeedFault
with_next next so_far item = so_far >>= (λ before. next before item)

err_stays : {A B : Type 0} (next : A → B → Result A FeedFault) (fault : FeedFault) (items : List B) → fold (with_next next) (Err fault) items ≡ Err fault
err_stays next fault [] = refl
err_stays next fault (x ∷ xs) = err_stays next fault xs

after_step : {A B : Type 0} (P : A → Type 0) (next : A → B → Result A FeedFault) (xs : List B) (last : A) (r : Result A FeedFault) → ((a : A) → r ≡ Ok a → P a) → ((a : A) → P a → one_by_one next a xs ≡ Ok last → P last) → fold (with_next next) r xs ≡ Ok last → P last
after_step P next xs last (Ok a) good rest e = rest a (good a refl) e
after_step P next xs last (Err fault) good rest e = let no' : Err fault ≡ Ok last = sym (err_stays next fault xs) ∙ e in absurd (cc)

-- what holds at the start and is kept by each step holds at the end
kept : {A B : Type 0} (P : A → Type 0) (next : A → B → Result A FeedFault) → ((a : A) (item : B) (b : A) → P a → next a item ≡ Ok b → P b) → (items : List B) (start last : A) → P start → one_by_one next start items ≡ Ok last → P last
kept P next step [] start last p e = let same : start ≡ last = cc in subst P same p
kept P next step (x ∷ xs) start last p e = after_step P next xs last (next start x) (λ a is. step start x a p is) (λ a q r. kept P next step xs a last q r) e

ok_then : {A B : Type 0} (r : Result A FeedFault) (next : A → Result B FeedFault) (b : B) → (r >>= next) ≡ Ok b → (a : A) × (r ≡ Ok a) × (next a ≡ Ok b)
ok_then (Ok a) next b e = (a, refl, e)
ok_then (Err fault) next b e = absurd (cc)

-- two tests that may refuse, and then what is made
made_of : {A B : Type 0} (big : Bool) (f : FeedFault) (bad : Bool) (g : FeedFault) (r : Result A FeedFault) (mk : A → B) (b : B) → (if big then Err f else if bad then Err g else r >>= (λ a. Ok (mk a))) ≡ Ok b → (big ≡ false) × (a : A) × (r ≡ Ok a) × (mk a ≡ b)
made_of true f bad g r mk b e = absurd (cc)
made_of false f true g r mk b e = absurd (cc)
made_of false f false g (Ok a) mk b e = (refl, a, refl, cc)
made_of false f false g (Err fault) mk b e = absurd (cc)

-- ---- rows

abbrev row_fields : RawRow → ℕ
row_fields row = length row.fields

record RowsFew (start : ℕ) (r : BlockRows) : Type 0 where
  counted : start + sum_by row_fields r.rows ≡ r.fields
  few : r.fields ≤ MOST_FIELDS

within_fields : (rows fields : ℕ) → (nat_lt MOST_ROWS rows || nat_lt MOST_FIELDS fields) ≡ false → fields ≤ MOST_FIELDS
within_fields rows fields h = grind (arith, nat_tests, h)

abbrev and_row : Columns → BlockRows → List (List ℕ) → Action → BlockRows
and_row columns a texts action = record { rows = a.rows ++ row_with columns texts action ∷ []; fields = a.fields + fields_counted columns }

rows-step : (start block : ℕ) (columns : Columns) (a : BlockRows) (texts : List (List ℕ)) (b : BlockRows) → RowsFew start a → next_row block columns a texts ≡ Ok b → RowsFew start b
rows-step start block columns a texts b p e =
    let made = made_of (nat_lt MOST_ROWS (length a.rows + 1) || nat_lt MOST_FIELDS (a.fields + fields_counted columns)) (TooMany block (length a.rows + 1)) (not (length texts == columns.width)) (FieldCount block (length a.rows + 1)) (or_fault (BadAction block (length a.rows + 1)) (action_of (text_in texts columns.action))) (and_row columns a texts) b e in
    let row = row_with columns texts made.1 in
    let few = within_fields (length a.rows + 1) (a.fields + fields_counted columns) made.0 in
    let more = sum_by-append row_fields a.rows (row ∷ []) in
    let one = sum_by-cons row_fields row [] in
    let long : length row.fields ≡ fields_counted columns = length-map columns.fields (λ column. raw_field (text_in texts column)) in
    let good : RowsFew start (and_row columns a texts made.1) = record { counted = omega (arith, more, one, long, p.counted); few = few } in
    subst (RowsFew start) made.3 good

rows-few : (structure : Option (List Component)) (number fields : ℕ) (text : List ℕ) (rows : BlockRows) → fields ≤ MOST_FIELDS → rows_in structure number fields text ≡ Ok rows → RowsFew fields rows
rows-few structure number fields text rows few e =
    let p = ok_then (or_fault (BadHeader number) (columns_in structure (table_of text))) (λ (columns : Columns). one_by_one (next_row number columns) (record { rows = []; fields = fields }) (drop 1 (table_of text))) rows e in
    kept (RowsFew fields) (next_row number p.0) (λ a texts b q step. rows-step fields number p.0 a texts b q step) (drop 1 (table_of text)) (record { rows = []; fields = fields }) rows (record { counted = omega arith; few = few }) p.2

-- ---- blocks

fields_join : (revisions : List Revision) (part : Part) → sum_by fields_of (join_last revisions part) ≤ sum_by fields_of revisions + part_fields part
fields_join [] part = omega arith
fields_join (r ∷ []) part =
    let joined : Revision = record { parts = r.parts ++ part ∷ [] } in
    let a = sum_by-cons fields_of joined [] in
    let b = sum_by-cons fields_of r [] in
    let c = sum-map part_fields (r.parts ++ part ∷ []) ∙ sum_by-append part_fields r.parts (part ∷ []) in
    let d = sum-map part_fields r.parts in
    let e = sum_by-cons part_fields part [] in
    omega (arith, a, b, c, d, e)
fields_join (r ∷ n ∷ revisions) part =
    let a = sum_by-cons fields_of r (join_last (n ∷ revisions) part) in
    let b = sum_by-cons fields_of r (n ∷ revisions) in
    let c = fields_join (n ∷ revisions) part in
    omega (arith, a, b, c)

length_join : (revisions : List Revision) (part : Part) → length (join_last revisions part) ≡ length revisions
length_join [] part = refl
length_join (r ∷ []) part = refl
length_join (r ∷ n ∷ revisions) part = let c = length_join (n ∷ revisions) part in omega (arith, c)

fields_with : (revisions : List Revision) (further : Bool) (part : Part) → sum_by fields_of (with_part revisions further part) ≤ sum_by fields_of revisions + part_fields part
fields_with revisions true part = fields_join revisions part
fields_with revisions false part =
    let last : Revision = record { parts = part ∷ [] } in
    let a = sum_by-append fields_of revisions (last ∷ []) in
    let b = sum_by-cons fields_of last [] in
    let c = sum-map part_fields (part ∷ []) ∙ sum_by-cons part_fields part [] in
    omega (arith, a, b, c)

length_with : (revisions : List Revision) (further : Bool) (part : Part) → length (with_part revisions further part) ≤ length revisions + 1
length_with revisions true part = let l = length_join revisions part in omega (arith, l)
length_with revisions false part = omega (arith, length-append revisions ((record { parts = part ∷ [] }) ∷ []))

record FeedFew (feed : Feed) : Type 0 where
  revisions_below : length feed.revisions ≤ feed.blocks
  blocks_few : feed.blocks ≤ MOST_BLOCKS
  counted : sum_by fields_of feed.revisions ≤ feed.fields
  fields_few : feed.fields ≤ MOST_FIELDS

within_blocks : (number : ℕ) → nat_lt MOST_BLOCKS number ≡ false → number ≤ MOST_BLOCKS
within_blocks number h = grind (arith, nat_tests, h)

abbrev and_block : Feed → List ℕ → BlockRows → Feed
and_block a block rows = record { revisions = with_part a.revisions (is_further block) (record { set = set_of block; rows = rows.rows }); blocks = a.blocks + 1; fields = rows.fields }

block-step : (structures : NamedStructures) (a : Feed) (block : List ℕ) (b : Feed) → FeedFew a → next_block structures a block ≡ Ok b → FeedFew b
block-step structures a block b p e =
    let made = made_of (nat_lt MOST_BLOCKS (a.blocks + 1)) (TooMany (a.blocks + 1) 0) (is_further block && (a.blocks == 0)) (BadHeader (a.blocks + 1)) (rows_in (structure_of structures (set_of block)) (a.blocks + 1) a.fields (after_line block)) (and_block a block) b e in
    let rows = made.1 in
    let few = rows-few (structure_of structures (set_of block)) (a.blocks + 1) a.fields (after_line block) rows p.fields_few made.2 in
    let part : Part = record { set = set_of block; rows = rows.rows } in
    let l = length_with a.revisions (is_further block) part in
    let f = fields_with a.revisions (is_further block) part in
    let one = sum-map row_fields rows.rows in
    let good : FeedFew (and_block a block rows) = record {
      revisions_below = omega (arith, l, p.revisions_below);
      blocks_few = within_blocks (a.blocks + 1) made.0;
      counted = omega (arith, f, one, few.counted, p.counted);
      fields_few = few.few;
    } in
    subst FeedFew made.3 good

blocks-few : (structures : NamedStructures) (text : Cut) (feed : Feed) → blocks_of structures text ≡ Ok feed → FeedFew feed
blocks-few structures text feed e = of_test (is_blank_text text.before) e
  where
    of_test : (b : Bool) → (if b then one_by_one (next_block structures) no_blocks text.blocks else Err (BadHeader 0)) ≡ Ok feed → FeedFew feed
    of_test true e = kept FeedFew (next_block structures) (λ a block b p step. block-step structures a block b p step) text.blocks no_blocks feed (record { revisions_below = omega arith; blocks_few = omega arith; counted = omega arith; fields_few = omega arith }) e
    of_test false e = absurd (cc)

-- the revisions of a feed are few
pub feed-few : (structures : NamedStructures) (bytes : List ℕ) (revisions : List Revision) → feed_of structures bytes ≡ Ok revisions → IsFew revisions
feed-few structures bytes revisions e = of_test (is_utf8 bytes) e
  where
    of_test : (b : Bool) → (if b then blocks_of structures (cut (strip_bom bytes)) >>= (λ feed. Ok feed.revisions) else Err NotUtf8) ≡ Ok revisions → IsFew revisions
    of_test true e =
        let p = ok_then (blocks_of structures (cut (strip_bom bytes))) (λ (feed : Feed). Ok feed.revisions) revisions e in
        let few = blocks-few structures (cut (strip_bom bytes)) p.0 p.1 in
        let same : p.0.revisions ≡ revisions = cc in
        let sums = sum-map fields_of p.0.revisions in
        let good : IsFew p.0.revisions = record { revisions_few = omega (arith, few.revisions_below, few.blocks_few); fields_few = omega (arith, sums, few.counted, few.fields_few) } in
        subst IsFew same good
    of_test false e = absurd (cc)
