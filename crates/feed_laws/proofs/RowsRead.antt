-- The rows of a block read back.
use Rattle.std.proofs.Common.{◌≡◌, ◌||◌, ℕ, zero, suc, ◌+◌, ◌≤◌, Bool, false, not, List, [], ◌∷◌, ◌++◌, length, map, Option, Some, Result, Ok, Err, cond, refl, sym, ap, subst, ◌∙◌, arith, append_assoc, append-nil}
use Rattle.std.specs.Prelude.{nat_lt, sum}
use Rattle.std.specs.List.{All, fold, range_with_len}
use Rattle.std.proofs.Math.Nat.{add_assoc}
use Rattle.std.proofs.lemmas.Bool.{eq-eqb}
use Rattle.std.proofs.lemmas.Bool.Decides.{nat_tests}
use Rattle.std.proofs.lemmas.List.{length-append, length-map}
use Rattle.std.proofs.lemmas.List.Elements.{All-head, All-tail}
use Rattle.std.proofs.lemmas.List.Sums.{sum_by-cons}
use Rattle.point_sets.specs.declared.revision.Action.{Action}
use Rattle.point_sets.specs.declared.revision.Action.TheVariants.{Put, Remove}
use Rattle.point_sets.specs.declared.revision.RawField.{RawField}
use Rattle.point_sets.specs.declared.revision.RawField.TheVariants.{Empty, Given}
use Rattle.point_sets.specs.declared.revision.RawRow.{RawRow}
use Rattle.revision_judge.specs.Fields.{text_in as field_text}
use Rattle.revision_files.specs.declared.columns.Columns.{Columns}
use Rattle.revision_files.specs.declared.rows.BlockRows.{BlockRows}
use Rattle.revision_files.specs.declared.stop.FeedFault.{FeedFault}
use Rattle.revision_files.specs.declared.stop.FeedFault.TheVariants.{BadAction, FieldCount, TooMany}
use Rattle.revision_files.specs.Answers.{◌>>=◌, or_fault}
use Rattle.revision_files.specs.Columns.{ACTION, columns_with}
use Rattle.revision_files.specs.Rows.{MOST_FIELDS, MOST_ROWS, action_of, next_row, raw_field, row_with, text_in}
use Rattle.feed_laws.specs.Written.{IsField, IsRow, row_texts, word_of}

pub add-nought : (n : ℕ) → n + 0 ≡ n
add-nought n = omega arith

-- one more item of a sum, whose share is n
pub sums-more : {A : Type 0} (f : A → ℕ) (x : A) (xs : List A) (m n : ℕ) → f x ≡ n → m + n + sum (map f xs) ≡ m + sum (map f (x ∷ xs))
sums-more f x xs m n is =
    add_assoc m n (sum (map f xs))
    ∙ ap (λ k. m + k) (ap (λ k. k + sum (map f xs)) (sym is) ∙ sym (sum_by-cons (λ (k : ℕ). k) (f x) (map f xs)))

-- ---- a row

given_back : (text : List ℕ) → (text ≡ [] → ⊥) → raw_field text ≡ Given text
given_back [] some = absurd (some refl)
given_back (c ∷ text) some = refl

field-back : (field : RawField) → IsField field → raw_field (field_text field) ≡ field
field-back Empty h = refl
field-back (Given text) h = given_back text h.0

fields-back : (fields : List RawField) → All IsField fields → map raw_field (map field_text fields) ≡ fields
fields-back [] h = refl
fields-back (f ∷ fields) h = (λ i. field-back f (All-head IsField f fields h) i ∷ fields-back fields (All-tail IsField f fields h) i)

at-seam : (pre : List (List ℕ)) (t : List ℕ) (ts : List (List ℕ)) → text_in (pre ++ t ∷ ts) (length pre) ≡ t
at-seam [] t ts = refl
at-seam (p ∷ pre) t ts = at-seam pre t ts

texts-read : (pre ts : List (List ℕ)) → map (λ column. raw_field (text_in (pre ++ ts) column)) (range_with_len (length pre) (length ts)) ≡ map raw_field ts
texts-read pre [] = refl
texts-read pre (t ∷ ts) =
    let again : (pre ++ t ∷ []) ++ ts ≡ pre ++ t ∷ ts = append_assoc pre (t ∷ []) ts in
    (λ i. raw_field (at-seam pre t ts i) ∷ (
    (λ j. map (λ column. raw_field (text_in (sym again j) column)) (range_with_len (sym (length-append pre (t ∷ [])) j) (length ts)))
    ∙ texts-read (pre ++ t ∷ []) ts) i)

word-back : (action : Action) → action_of (word_of action) ≡ Some action
word-back Put = refl
word-back Remove = refl

module _ (header : List (List ℕ)) (width : ℕ) (wide : length header ≡ width) where
  abbrev columns : Columns
  columns = columns_with (ACTION ∷ header) (range_with_len 1 width)

  row-back : (row : RawRow) → IsRow width row → row_with columns (row_texts row) row.action ≡ row
  row-back row h =
      let long : length (map field_text row.fields) ≡ width = length-map row.fields field_text ∙ h.wide in
      let same : map (λ column. raw_field (text_in (row_texts row) column)) (range_with_len 1 width) ≡ row.fields =
      ap (λ n. map (λ column. raw_field (text_in (row_texts row) column)) (range_with_len 1 n)) (sym long)
      ∙ texts-read (word_of row.action ∷ []) (map field_text row.fields)
      ∙ fields-back row.fields h.fields in
      (λ i. record { action = row.action; fields = same i })

  -- a row within the limits
  abbrev row_more : ℕ → BlockRows → RawRow → Bool → Bool → Option Action → Result BlockRows FeedFault
  row_more block before row over misfit action =
      cond over (Err (TooMany block (length before.rows + 1)))
      (cond misfit (Err (FieldCount block (length before.rows + 1)))
      (or_fault (BadAction block (length before.rows + 1)) action
      >>= (λ action. Ok (record { rows = before.rows ++ row_with columns (row_texts row) action ∷ []; fields = before.fields + length (range_with_len 1 width) }))))

  length-range : (a n : ℕ) → length (range_with_len a n) ≡ n
  length-range a zero = refl
  length-range a (suc n) = ap suc (length-range (a + 1) n)

  row-read : (block : ℕ) (before : BlockRows) (row : RawRow) → IsRow width row → length before.rows + 1 ≤ MOST_ROWS → before.fields + width ≤ MOST_FIELDS
      → next_row block columns before (row_texts row) ≡ Ok (record { rows = before.rows ++ row ∷ []; fields = before.fields + width })
  row-read block before row h few few_fields =
      let size = length-range 1 width in
      let rows_within : nat_lt MOST_ROWS (length before.rows + 1) ≡ false = grind (arith, nat_tests, few) in
      let total : before.fields + length (range_with_len 1 width) ≤ MOST_FIELDS = omega (arith, size, few_fields) in
      let fields_within : nat_lt MOST_FIELDS (before.fields + length (range_with_len 1 width)) ≡ false = grind (arith, nat_tests, total) in
      let long : length (row_texts row) ≡ length (ACTION ∷ header) = ap suc (length-map row.fields field_text ∙ h.wide ∙ sym wide) in
      (λ i. row_more block before row (rows_within i || fields_within i) (not (eq-eqb (length (row_texts row)) (length (ACTION ∷ header)) long i)) (word-back row.action i))
      ∙ (λ i. Ok (record { rows = before.rows ++ row-back row h i ∷ []; fields = before.fields + size i }))

  -- ---- all rows

  abbrev step : ℕ → Result BlockRows FeedFault → List (List ℕ) → Result BlockRows FeedFault
  step block so_far texts = so_far >>= (λ before. next_row block columns before texts)

  pub rows-read : (block : ℕ) (rows : List RawRow) (before : BlockRows) → All (IsRow width) rows → length before.rows + length rows ≤ MOST_ROWS → before.fields + sum (map (λ row. length row.fields) rows) ≤ MOST_FIELDS
      → fold (step block) (Ok before) (map row_texts rows) ≡ Ok (record { rows = before.rows ++ rows; fields = before.fields + sum (map (λ row. length row.fields) rows) })
  rows-read block [] before h few few_fields = (λ i. Ok (record { rows = sym (append-nil before.rows) i; fields = sym (add-nought before.fields) i }))
  rows-read block (row ∷ rows) before h few few_fields =
      let own = All-head (IsRow width) row rows h in
      let next : BlockRows = record { rows = before.rows ++ row ∷ []; fields = before.fields + width } in
      let more = length-append before.rows (row ∷ []) in
      let sums = sums-more (λ (r : RawRow). length r.fields) row rows before.fields width own.wide in
      let total = subst (λ n. n ≤ MOST_FIELDS) (sym sums) few_fields in
      ap (λ (r : Result BlockRows FeedFault). fold (step block) r (map row_texts rows)) (row-read block before row own (omega (arith, few)) (omega (arith, total)))
      ∙ rows-read block rows next (All-tail (IsRow width) row rows h) (omega (arith, few, more)) total
      ∙ (λ i. Ok (record { rows = append_assoc before.rows (row ∷ []) rows i; fields = sums i }))
