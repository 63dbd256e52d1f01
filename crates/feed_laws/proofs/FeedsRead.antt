-- A feed that is written reads back as its revisions.
use Rattle.std.proofs.Common.{◌≡◌, ◌==◌, ◌&&◌, ℕ, ◌+◌, ◌<◌, ◌≤◌, Bool, true, false, List, [], ◌∷◌, ◌++◌, length, map, drop, Option, Some, None, Result, Ok, refl, sym, ap, subst, ◌∙◌, arith, append_assoc, append-nil}
use Rattle.std.specs.Prelude.{nat_lt, sum}
use Rattle.std.specs.List.{All, flat_map, fold, sum_by}
use Rattle.std.proofs.lemmas.Bool.Decides.{nat_tests}
use Rattle.std.proofs.lemmas.List.Elements.{All-append, All-head, All-map, All-nil, All-cons, All-replicate, All-tail, All-weaker}
use Rattle.std.proofs.lemmas.List.Sums.{fold-append, sum_by-cons}
use Rattle.std.proofs.Math.Nat.{add_assoc}
use Rattle.vtl_values.specs.declared.structure.Component.{Component}
use Rattle.vtl_values.specs.Structures.{NamedStructures, structure_of}
use Rattle.point_sets.specs.declared.revision.Part.{Part}
use Rattle.point_sets.specs.declared.revision.RawField.{RawField}
use Rattle.point_sets.specs.declared.revision.RawField.TheVariants.{Empty, Given}
use Rattle.point_sets.specs.declared.revision.RawRow.{RawRow}
use Rattle.point_sets.specs.declared.revision.Revision.{Revision}
use Rattle.revision_judge.specs.Fields.{text_in}
use Rattle.revision_files.specs.declared.columns.Columns.{Columns}
use Rattle.revision_files.specs.declared.rows.BlockRows.{BlockRows}
use Rattle.revision_files.specs.declared.stop.FeedFault.{FeedFault}
use Rattle.revision_files.specs.declared.stop.FeedFault.TheVariants.{BadHeader}
use Rattle.revision_files.specs.Answers.{◌>>=◌, one_by_one, or_fault}
use Rattle.revision_files.specs.Blocks.{Cut, after_line, cut, is_blank_text, is_further, set_of}
use Rattle.revision_files.specs.Feeds.{Feed, MOST_BLOCKS, columns_in, feed_of, fields_of, next_block, no_blocks, part_fields, rows_in, with_part}
use Rattle.revision_files.specs.Rows.{MOST_FIELDS, next_row}
use Rattle.csv.specs.Reading.{strip_bom}
use Rattle.revision_files.proofs.Nexts.{block_read, join_last-push, lone_not}
use Rattle.revision_files.proofs.WholeFeeds.{feed-blocks}
use Rattle.feed_laws.specs.Written.{AreColumns, AreParts, CanBeWritten, IsField, IsPart, IsRecordText, IsRow, block_for, blocks_for, first_width, header_for, line_of, other_names, record_text, records_for, row_texts, written_feed}
use Rattle.feed_laws.proofs.Quoted.{Begins, IsBlock, action-begins, block-is, word-begins}
use Rattle.feed_laws.proofs.Cutting.{cut-blocks, signs-utf8, strip-signs}
use Rattle.feed_laws.proofs.NameLines.{after_line-is, further-is, line-one, line-utf8, set-is}
use Rattle.feed_laws.proofs.Tables.{columns-written, table-written}
use Rattle.feed_laws.proofs.RowsRead.{add-nought, rows-read, sums-more}

-- ---- the texts of a part

field-text : (field : RawField) → IsField field → IsRecordText (text_in field)
field-text Empty h = record { characters = refl; lines = refl }
field-text (Given text) h = h.1

row-begins : (width : ℕ) (row : RawRow) → IsRow width row → Begins (row_texts row)
row-begins width row h = word-begins row.action (map text_in row.fields) (All-map IsRecordText text_in row.fields (All-weaker IsField (λ f. IsRecordText (text_in f)) field-text row.fields h.fields))

names-texts : (structure : Option (List Component)) (rows : List RawRow) → AreColumns structure → All IsRecordText (other_names structure rows)
names-texts (Some components) rows h = h.0
names-texts None rows h = All-replicate IsRecordText (first_width rows) [] (record { characters = refl; lines = refl })

module _ (structures : NamedStructures) (further : Bool) (part : Part) (h : IsPart structures part) where
  abbrev structure : Option (List Component)
  structure = structure_of structures part.set

  abbrev names : List (List ℕ)
  names = other_names structure part.rows

  all-begin : All Begins (records_for structure part.rows)
  all-begin = All-cons Begins (header_for structure part.rows) (map row_texts part.rows) (action-begins names (names-texts structure part.rows h.columns))
      (All-map Begins row_texts part.rows (All-weaker (IsRow (length names)) (λ row. Begins (row_texts row)) (row-begins (length names)) part.rows h.rows))

  abbrev records_text : List ℕ
  records_text = flat_map record_text (records_for structure part.rows)

  abbrev rows_from : ℕ → ℕ → List (List (List ℕ)) → Result BlockRows FeedFault
  rows_from number fields table = or_fault (BadHeader number) (columns_in structure table) >>= (λ columns. one_by_one (next_row number columns) (record { rows = []; fields = fields }) (drop 1 table))

  abbrev with_columns : ℕ → ℕ → Option Columns → Result BlockRows FeedFault
  with_columns number fields columns = or_fault (BadHeader number) columns >>= (λ columns. one_by_one (next_row number columns) (record { rows = []; fields = fields }) (map row_texts part.rows))

  part-rows : (number fields : ℕ) → fields + part_fields part ≤ MOST_FIELDS → rows_in structure number fields records_text ≡ Ok (record { rows = part.rows; fields = fields + part_fields part })
  part-rows number fields few =
      let rows_few = h.few in
      ap (rows_from number fields) (table-written names (map row_texts part.rows) all-begin)
      ∙ ap (with_columns number fields) (columns-written structure part.rows h.columns)
      ∙ rows-read names (length names) refl number part.rows (record { rows = []; fields = fields }) h.rows (omega (arith, rows_few)) few

  abbrev block : List ℕ
  block = block_for structures further part

  pub block-ok : IsBlock block
  block-ok = block-is (line_of further part.set) (records_for structure part.rows) (line-utf8 part.set h.name further) (line-one part.set h.name further) all-begin

  pub block-back : (before : Feed) → (further && (before.blocks == 0)) ≡ false → before.blocks + 1 ≤ MOST_BLOCKS → before.fields + part_fields part ≤ MOST_FIELDS
      → next_block structures before block ≡ Ok (record { revisions = with_part before.revisions further part; blocks = before.blocks + 1; fields = before.fields + part_fields part })
  block-back before placed few_blocks few_fields =
      let rows : BlockRows = record { rows = part.rows; fields = before.fields + part_fields part } in
      let within : nat_lt MOST_BLOCKS (before.blocks + 1) ≡ false = grind (arith, nat_tests, few_blocks) in
      let further' : is_further block ≡ further = further-is part.set h.name further records_text in
      let set' : set_of block ≡ part.set = set-is part.set h.name further records_text in
      let after' : after_line block ≡ records_text = after_line-is (line_of further part.set) records_text (line-one part.set h.name further) in
      block_read structures before block rows within (ap (λ b. b && (before.blocks == 0)) further' ∙ placed)
      ((λ i. rows_in (structure_of structures (set' i)) (before.blocks + 1) before.fields (after' i)) ∙ part-rows (before.blocks + 1) before.fields few_fields)
      ∙ (λ i. Ok (record { revisions = with_part before.revisions (further' i) (record { set = set' i; rows = part.rows }); blocks = before.blocks + 1; fields = before.fields + part_fields part }))

-- ---- a revision

module _ (structures : NamedStructures) where
  abbrev each : Result Feed FeedFault → List ℕ → Result Feed FeedFault
  each so_far block = so_far >>= (λ before. next_block structures before block)

  abbrev feed : List Revision → ℕ → ℕ → Result Feed FeedFault
  feed revisions blocks fields = Ok (record { revisions = revisions; blocks = blocks; fields = fields })

  abbrev and_revision : List Revision → List Part → List Revision
  and_revision revisions parts = revisions ++ (record { parts = parts }) ∷ []

  parts-back : (parts : List Part) (revisions : List Revision) (before : List Part) (blocks fields : ℕ) → 0 < blocks → All (IsPart structures) parts → blocks + length parts ≤ MOST_BLOCKS → fields + sum (map part_fields parts) ≤ MOST_FIELDS
      → fold each (feed (and_revision revisions before) blocks fields) (map (block_for structures true) parts) ≡ feed (and_revision revisions (before ++ parts)) (blocks + length parts) (fields + sum (map part_fields parts))
  parts-back [] revisions before blocks fields some h few few_fields = (λ i. feed (and_revision revisions (sym (append-nil before) i)) (sym (add-nought blocks) i) (sym (add-nought fields) i))
  parts-back (part ∷ parts) revisions before blocks fields some h few few_fields =
      let own = All-head (IsPart structures) part parts h in
      let now : Feed = record { revisions = and_revision revisions before; blocks = blocks; fields = fields } in
      let placed = lone_not true blocks (λ e. omega (arith, e, some)) in
      let counted : blocks + 1 + length parts ≡ blocks + length (part ∷ parts) = omega arith in
      let summed = sums-more part_fields part parts fields (part_fields part) refl in
      let total = subst (λ n. n ≤ MOST_FIELDS) (sym summed) few_fields in
      ap (λ (r : Result Feed FeedFault). fold each r (map (block_for structures true) parts))
      (block-back structures true part own now placed (omega (arith, few)) (omega (arith, total))
      ∙ ap (λ (rs : List Revision). feed rs (blocks + 1) (fields + part_fields part)) (join_last-push revisions (record { parts = before }) part))
      ∙ parts-back parts revisions (before ++ part ∷ []) (blocks + 1) (fields + part_fields part) (omega arith) (All-tail (IsPart structures) part parts h) (omega (arith, few)) total
      ∙ (λ i. feed (and_revision revisions (append_assoc before (part ∷ []) parts i)) (counted i) (summed i))

  revision-back : (parts : List Part) (revisions : List Revision) (blocks fields : ℕ) → AreParts structures parts → blocks + length parts ≤ MOST_BLOCKS → fields + sum (map part_fields parts) ≤ MOST_FIELDS
      → fold each (feed revisions blocks fields) (blocks_for structures parts) ≡ feed (and_revision revisions parts) (blocks + length parts) (fields + sum (map part_fields parts))
  revision-back [] revisions blocks fields h few few_fields = absurd (h.0 refl)
  revision-back (part ∷ parts) revisions blocks fields h few few_fields =
      let now : Feed = record { revisions = revisions; blocks = blocks; fields = fields } in
      let counted : blocks + 1 + length parts ≡ blocks + length (part ∷ parts) = omega arith in
      let summed = sums-more part_fields part parts fields (part_fields part) refl in
      let total = subst (λ n. n ≤ MOST_FIELDS) (sym summed) few_fields in
      ap (λ (r : Result Feed FeedFault). fold each r (map (block_for structures true) parts)) (block-back structures false part (All-head (IsPart structures) part parts h.1) now refl (omega (arith, few)) (omega (arith, total)))
      ∙ parts-back parts revisions (part ∷ []) (blocks + 1) (fields + part_fields part) (omega arith) (All-tail (IsPart structures) part parts h.1) (omega (arith, few)) total
      ∙ (λ i. feed (and_revision revisions (part ∷ parts)) (counted i) (summed i))

  -- ---- all revisions

  abbrev Parts : Revision → Type 0
  Parts revision = AreParts structures revision.parts

  abbrev all_blocks : List Revision → List (List ℕ)
  all_blocks revisions = flat_map (λ revision. blocks_for structures revision.parts) revisions

  abbrev parts_in : List Revision → ℕ
  parts_in revisions = sum_by (λ revision. length revision.parts) revisions

  counts-more : (revision : Revision) (revisions : List Revision) (m : ℕ) → m + length revision.parts + parts_in revisions ≡ m + parts_in (revision ∷ revisions)
  counts-more revision revisions m = add_assoc m (length revision.parts) (parts_in revisions) ∙ ap (λ k. m + k) (sym (sum_by-cons (λ (r : Revision). length r.parts) revision revisions))

  revisions-back : (revisions before : List Revision) (blocks fields : ℕ) → All Parts revisions → blocks + parts_in revisions ≤ MOST_BLOCKS → fields + sum (map fields_of revisions) ≤ MOST_FIELDS
      → fold each (feed before blocks fields) (all_blocks revisions) ≡ feed (before ++ revisions) (blocks + parts_in revisions) (fields + sum (map fields_of revisions))
  revisions-back [] before blocks fields h few few_fields = (λ i. feed (sym (append-nil before) i) (sym (add-nought blocks) i) (sym (add-nought fields) i))
  revisions-back (revision ∷ revisions) before blocks fields h few few_fields =
      let own = All-head Parts revision revisions h in
      let counted = counts-more revision revisions blocks in
      let blocks_in = subst (λ n. n ≤ MOST_BLOCKS) (sym counted) few in
      let summed = sums-more fields_of revision revisions fields (fields_of revision) refl in
      let total = subst (λ n. n ≤ MOST_FIELDS) (sym summed) few_fields in
      fold-append each (feed before blocks fields) (blocks_for structures revision.parts) (all_blocks revisions)
      ∙ ap (λ (r : Result Feed FeedFault). fold each r (all_blocks revisions)) (revision-back revision.parts before blocks fields own (omega (arith, blocks_in)) (omega (arith, total)))
      ∙ revisions-back revisions (before ++ revision ∷ []) (blocks + length revision.parts) (fields + fields_of revision) (All-tail Parts revision revisions h) blocks_in total
      ∙ (λ i. feed (append_assoc before (revision ∷ []) revisions i) (counted i) (summed i))

  parts-ok : (parts : List Part) → AreParts structures parts → All IsBlock (blocks_for structures parts)
  parts-ok [] h = absurd (h.0 refl)
  parts-ok (part ∷ parts) h = All-cons IsBlock (block_for structures false part) (map (block_for structures true) parts) (block-ok structures false part (All-head (IsPart structures) part parts h.1))
      (All-map IsBlock (block_for structures true) parts (All-weaker (IsPart structures) (λ p. IsBlock (block_for structures true p)) (block-ok structures true) parts (All-tail (IsPart structures) part parts h.1)))

  blocks-ok : (revisions : List Revision) → All Parts revisions → All IsBlock (all_blocks revisions)
  blocks-ok [] h = All-nil IsBlock
  blocks-ok (revision ∷ revisions) h = All-append IsBlock (blocks_for structures revision.parts) (all_blocks revisions) (parts-ok revision.parts (All-head Parts revision revisions h)) (blocks-ok revisions (All-tail Parts revision revisions h))

  from_nought : (n most : ℕ) → n ≤ most → 0 + n ≤ most
  from_nought n most few = omega (arith, few)

  pub written-back : (revisions : List Revision) → CanBeWritten structures revisions → feed_of structures (written_feed structures revisions) ≡ Ok revisions
  written-back revisions h =
      let bs : List (List ℕ) = all_blocks revisions in
      let ok : All IsBlock bs = blocks-ok revisions h.each in
      let cuts : cut (strip_bom (written_feed structures revisions)) ≡ record { before = []; blocks = bs } = ap cut (strip-signs bs) ∙ cut-blocks bs ok in
      let whole : one_by_one (next_block structures) no_blocks bs ≡ feed revisions (0 + parts_in revisions) (0 + sum (map fields_of revisions)) = revisions-back revisions [] 0 0 h.each (from_nought (parts_in revisions) MOST_BLOCKS h.few_blocks) (from_nought (sum (map fields_of revisions)) MOST_FIELDS h.few_fields) in
      feed-blocks structures (written_feed structures revisions) (signs-utf8 bs ok) (ap (λ (c : Cut). is_blank_text c.before) cuts)
      ∙ ap (λ (c : Cut). one_by_one (next_block structures) no_blocks c.blocks >>= (λ feed. let r : Result (List Revision) FeedFault = Ok feed.revisions in r)) cuts
      ∙ ap (λ (f : Result Feed FeedFault). f >>= (λ feed. let r : Result (List Revision) FeedFault = Ok feed.revisions in r)) whole
