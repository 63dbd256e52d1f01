-- The records of a block read back, and the columns under its header.
use Rattle.std.proofs.Common.{◌≡◌, ◌==◌, ◌&&◌, ◌||◌, ℕ, zero, suc, ◌+◌, ◌<◌, Bool, true, false, not, List, [], ◌∷◌, ◌++◌, length, map, Option, Some, None, cond, refl, sym, ap, subst, ◌∙◌, arith, append_assoc}
use Rattle.std.specs.List.{All, flat_map, list_all, list_any, position_or_len, range_with_len}
use Rattle.std.specs.Prelude.{filter, replicate}
use Rattle.std.specs.Str.{chars}
use Rattle.std.proofs.Math.Utf8.{encode, encodes}
use Rattle.std.proofs.lemmas.Bool.{ne_eqb}
use Rattle.std.proofs.lemmas.Cmp.{nat_list_eq_equiv}
use Rattle.std.proofs.lemmas.List.{length-append}
use Rattle.std.proofs.lemmas.List.Elements.{All-head, All-tail}
use Rattle.std.proofs.lemmas.List.Folds.{list_any-append}
use Rattle.std.proofs.lemmas.Str.{chars-encodes}
use Rattle.csv.specs.Machine.{next_record}
use Rattle.csv.specs.Reading.{default_config, records, strip_bom}
use Rattle.csv.specs.Writing.{read_back}
use Rattle.csv.specs.declared.parser.State.TheVariants as st
use Rattle.csv.proofs.RoundTrip.{read-write}
use Rattle.data_model.proofs.MapLemmas.{neither}
use Rattle.vtl_values.specs.declared.structure.Component.{Component}
use Rattle.vtl_values.specs.Texts.{same_text}
use Rattle.vtl_values.proofs.StructureNames.{same_text-Decides}
use Rattle.revision_files.specs.Columns.{ACTION, all_differ, column_of, columns_of, columns_with, is_among, names_of, other_columns}
use Rattle.revision_files.specs.Feeds.{table_of}
use Rattle.revision_files.specs.Texts.{is_of}
use Rattle.revision_files.proofs.Names.{known-fits}
use Rattle.revision_files.proofs.Records.{left-more, left-none}
use Rattle.feed_laws.specs.Written.{AreColumns, IsRecordText, header_for, other_names, record_text, first_width}
use Rattle.point_sets.specs.declared.revision.RawRow.{RawRow}
use Rattle.feed_laws.proofs.Quoted.{Begins, both_true}
use Rattle.feed_laws.proofs.Cutting.{strip-other}

-- ---- records

no-record : next_record default_config st.StartRecord [] [] [] ≡ None
unfolding next_record
no-record = refl

pub records-written : (rs : List (List (List ℕ))) → records default_config (flat_map record_text rs) ≡ map (λ r. read_back (map encodes r)) rs
records-written [] = left-none st.StartRecord [] no-record
records-written (r ∷ rs) =
    left-more st.StartRecord (record_text r ++ flat_map record_text rs) (read_back (map encodes r), st.StartRecord, flat_map record_text rs) refl (read-write (map encodes r) (flat_map record_text rs))
    ∙ ap (λ (more : List (List (List ℕ))). read_back (map encodes r) ∷ more) (records-written rs)

-- texts in UTF-8 as characters again
texts-back : (ts : List (List ℕ)) → All IsRecordText ts → map chars (map encodes ts) ≡ ts
texts-back [] h = refl
texts-back (t ∷ ts) h = (λ i. chars-encodes t (All-head IsRecordText t ts h).characters i ∷ texts-back ts (All-tail IsRecordText t ts h) i)

record-back : (r : List (List ℕ)) → Begins r → map chars (read_back (map encodes r)) ≡ r
record-back r b = subst (λ (ts : List (List ℕ)). map chars (read_back (map encodes ts)) ≡ ts) (sym b.is)
    (λ i. chars-encodes b.word b.word_text.characters i ∷ texts-back b.rest b.rest_texts i)

records-back : (rs : List (List (List ℕ))) → All Begins rs → map (map chars) (map (λ r. read_back (map encodes r)) rs) ≡ rs
records-back [] h = refl
records-back (r ∷ rs) h = (λ i. record-back r (All-head Begins r rs h) i ∷ records-back rs (All-tail Begins r rs h) i)

-- the text of a block begins with the colon of `:action`
colon : (rest : List (List ℕ)) (more : List ℕ) → strip_bom (record_text (ACTION ∷ rest) ++ more) ≡ record_text (ACTION ∷ rest) ++ more
unfolding encode
colon rest more = strip-other 58 _ refl

pub table-written : (rest : List (List ℕ)) (rs : List (List (List ℕ))) → All Begins ((ACTION ∷ rest) ∷ rs) → table_of (flat_map record_text ((ACTION ∷ rest) ∷ rs)) ≡ (ACTION ∷ rest) ∷ rs
table-written rest rs h =
    ap (λ (text : List ℕ). map (map chars) (records default_config text)) (colon rest (flat_map record_text rs))
    ∙ ap (map (map chars)) (records-written ((ACTION ∷ rest) ∷ rs))
    ∙ records-back ((ACTION ∷ rest) ∷ rs) h

-- ---- columns

not_true : (b : Bool) → not b ≡ true → b ≡ false
not_true true e = cc
not_true false e = refl

-- a name that differs from those before it
new-name : (pre : List (List ℕ)) (name : List ℕ) (names : List (List ℕ)) → all_differ (pre ++ name ∷ names) ≡ true → list_any (same_text name) pre ≡ false
new-name [] name names h = refl
new-name (p ∷ pre) name names h =
    let both = both_true (not (list_any (same_text p) (pre ++ name ∷ names))) (all_differ (pre ++ name ∷ names)) h in
    let apart = neither (list_any (same_text p) pre) (list_any (same_text p) (name ∷ names)) (sym (list_any-append (same_text p) pre (name ∷ names)) ∙ not_true (list_any (same_text p) (pre ++ name ∷ names)) both.0) in
    let here = neither (same_text p name) (list_any (same_text p) names) apart.1 in
    (λ i. (nat_list_eq_equiv.symm name p ∙ here.0) i || new-name pre name names both.1 i)

same_itself : (name : List ℕ) → same_text name name ≡ true
same_itself name = (same_text-Decides name name).1 refl

first-place : (pre : List (List ℕ)) (name : List ℕ) (names : List (List ℕ)) → list_any (same_text name) pre ≡ false → column_of (pre ++ name ∷ names) name ≡ length pre
first-place [] name names h = ap (λ b. cond (not b) (1 + position_or_len (same_text name) names) 0) (same_itself name)
first-place (p ∷ pre) name names h =
    let both = neither (same_text name p) (list_any (same_text name) pre) h in
    ap (λ b. cond (not b) (1 + position_or_len (same_text name) (pre ++ name ∷ names)) 0) both.0
    ∙ (let e = first-place pre name names both.1 in omega (arith, e))

-- names that differ stand at the places after those before them
names-range : (pre names : List (List ℕ)) → all_differ (pre ++ names) ≡ true → map (column_of (pre ++ names)) names ≡ range_with_len (length pre) (length names)
names-range pre [] h = refl
names-range pre (name ∷ names) h =
    let again : (pre ++ name ∷ []) ++ names ≡ pre ++ name ∷ names = append_assoc pre (name ∷ []) names in
    let later = names-range (pre ++ name ∷ []) names (ap all_differ again ∙ h) in
    (λ i. first-place pre name names (new-name pre name names h) i ∷ (ap (λ (hs : List (List ℕ)). map (column_of hs) names) (sym again) ∙ later ∙ ap (λ n. range_with_len n (length names)) (length-append pre (name ∷ []))) i)

-- the other columns than the first
not-nought : (a n : ℕ) → 0 < a → filter (λ other. not (other == 0)) (range_with_len a n) ≡ range_with_len a n
not-nought a zero some = refl
not-nought a (suc n) some =
    ap (λ b. cond (not b) (a ∷ filter (λ other. not (other == 0)) (range_with_len (a + 1) n)) (filter (λ other. not (other == 0)) (range_with_len (a + 1) n))) (ne_eqb a 0 (λ e. omega (arith, e, some)))
    ∙ ap (λ (rest : List ℕ). a ∷ rest) (not-nought (a + 1) n (omega arith))

-- ---- the header of a block

all-there : (xs wanted : List (List ℕ)) → ((name : List ℕ) → list_any (same_text name) xs ≡ true → list_any (same_text name) wanted ≡ true) → list_all (is_among wanted) xs ≡ true
all-there [] wanted h = refl
all-there (x ∷ xs) wanted h =
    (λ i. h x (ap (λ b. b || list_any (same_text x) xs) (same_itself x)) i
    && all-there xs wanted (λ name e. h name (or_right (same_text name x) (list_any (same_text name) xs) e)) i)
  where
    or_right : (a b : Bool) → b ≡ true → (a || b) ≡ true
    or_right true b e = refl
    or_right false b e = e

header-among : (header : List (List ℕ)) → list_all (is_among header) header ≡ true
header-among header = all-there header header (λ name e. e)

header-of : (header : List (List ℕ)) → all_differ header ≡ true → is_of header header ≡ true
header-of header h = (λ i. h i && header-among header i)

none-named : (n : ℕ) → filter (same_text ACTION) (replicate n []) ≡ []
none-named zero = refl
none-named (suc n) = none-named n

-- the columns of a block: the action's first, and the others after it
pub columns-written : (structure : Option (List Component)) (rows : List RawRow) → AreColumns structure
    → columns_of structure (header_for structure rows) ≡ Some (columns_with (header_for structure rows) (range_with_len 1 (length (other_names structure rows))))
columns-written (Some components) rows h =
    known-fits components (ACTION ∷ names_of components) (header-of (ACTION ∷ names_of components) h.1) (header-among (ACTION ∷ names_of components))
    ∙ ap (λ (cs : List ℕ). Some (columns_with (ACTION ∷ names_of components) cs)) (names-range (ACTION ∷ []) (names_of components) h.1)
columns-written None rows h =
    (λ i. cond (length (ACTION ∷ none-named (first_width rows) i) == 1) (Some (columns_with (header_for None rows) (other_columns (header_for None rows) 0))) None)
    ∙ ap (λ (cs : List ℕ). Some (columns_with (header_for None rows) cs)) (not-nought 1 (length (other_names None rows)) (omega arith))
