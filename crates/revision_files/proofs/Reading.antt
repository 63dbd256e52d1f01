-- What a reader of records has left after a read.
use Rattle.std.proofs.Common.{◌≡◌, ◌+◌, ℕ, Bool, true, false, Option, None, cond, true≢false, List, [], ◌∷◌, ◌++◌, length, map, take, drop, Bor, Some, None, unwrap_or, inl, inr, refl, sym, ap, subst, ◌∙◌}
use Rattle.std.specs.Prelude.{◌==◌, ◌&&◌, chars, nat_eq}
use Rattle.std.specs.Cmp.Lexicographic.{pointwise}
use lib.Utf8.{encode}
use Rattle.std.proofs.lemmas.Bool.{eqb-true}
use Rattle.std.proofs.lemmas.Str.{IsUtf8-past_char}
use Rattle.csv.specs.Machine.{Read, next_record}
use Rattle.csv.specs.Reading.{ExplainsRead, NextIs, Reached, ReadRecord, ReadsNext, Ready, default_config, is_bom, is_flexible, names_headers, reader_config, reader_headers, reader_state, reader_trim, records_from, strip_bom, took_first}
use Rattle.csv.specs.declared.parser.State.{State}
use Rattle.csv.specs.declared.parser.State.TheVariants as st
use Rattle.csv.specs.declared.reader.Trim.TheVariants as trim
use Rattle.csv.specs.declared.reader.Reader.{Reader}
use Rattle.csv.specs.declared.error.ErrorKind.{ErrorKind}
use Rattle.csv.specs.declared.error.ErrorKind.TheVariants as kind
use Rattle.csv.proofs.ReadFacts.{rows-end, rows-more}
use Rattle.revision_files.specs.Readers.{IsOfMemory, IsReading, is_between, left, source, table_left}
use Rattle.csv.specs.Records.{AllText}
use Rattle.std.specs.Str.{IsUtf8}
use Rattle.revision_files.proofs.Records.{left-more, left-none, next_record-is}
use Rattle.revision_files.specs.Feeds.{table_of}
use Rattle.revision_files.proofs.Tables.{table_of-new}
use Rattle.revision_files.proofs.TextRecords.{text-record}

-- what is known of a reader after it read a record of these fields
pub record IsRead (before after : Reader (Bor (List ℕ))) (fields : List (List ℕ)) : Type 0 where
  pub reading : IsReading after
  pub table : table_left before ≡ map chars fields ∷ table_left after

reached-one : (s : State) (xs : List ℕ) (fields : List (List ℕ)) (t : State) (ys : List ℕ) → Reached default_config s xs (fields ∷ []) t ys → next_record default_config s [] [] xs ≡ Some (fields, t, ys)
unfolding Reached
reached-one s xs fields t ys reached =
    reached.1 ∙ (λ i. Some (sym reached.2 i, reached.3.0 i, reached.3.1 i))

reached-none : (s : State) (xs : List ℕ) → Reached default_config s xs [] s xs
unfolding Reached
reached-none s xs = (refl, refl)

pub read-more : (before after : Reader (Bor (List ℕ))) (fields : List (List ℕ)) → IsReading before → ReadRecord (λ text. Some text.now) before after true fields → took_first after ≡ true → is_flexible after ≡ true → IsRead before after fields
read-more before after fields reading read first flexible =
    let more = rows-more (λ (text : Bor (List ℕ)). Some text.now) before after fields default_config before.state (left before) (left before) [] reading.config reading.known (reached-none before.state (left before)) read in
    let next = reached-one before.state (left before) fields after.state more.0 more.2 in
    let rest : left after ≡ more.0 = ap (λ o. unwrap_or o []) more.1 in
    let is = next_record-is before.state [] [] (left before) (fields, after.state, more.0) next in
    record {
      reading = record {
        trim = read.3 ∙ reading.trim;
        ready = inl first;
        flexible = flexible;
        config = read.2 ∙ reading.config;
        known = more.1 ∙ ap (λ ys. Some ys) (sym rest);
        text = subst IsUtf8 (sym rest) (text-record before.state (left before) (fields, after.state, more.0) reading.between reading.text next).rest;
        between = is.between;
      };
      table =
          ap (map (map chars)) (left-more before.state (left before) (fields, after.state, more.0) reading.between next)
          ∙ ap (λ ys. map chars fields ∷ map (map chars) (records_from default_config (length ys + 1) after.state ys)) (sym rest);
    }

pub read-none : (before after : Reader (Bor (List ℕ))) (fields : List (List ℕ)) → IsReading before → ReadRecord (λ text. Some text.now) before after false fields → table_left before ≡ []
read-none before after fields reading read =
    ap (map (map chars)) (left-none before.state (left before) (rows-end (λ (text : Bor (List ℕ)). Some text.now) before after fields default_config (left before) reading.config reading.known read))

next-text : (next : Option Read) (fields : List (List ℕ)) (t : State) (ys : List ℕ) → ((p : Read) → next ≡ Some p → AllText p.0) → NextIs next true fields t ys → AllText fields
next-text None fields t ys text is = cc
next-text (Some p) fields t ys text is = subst AllText (sym is.1) (text p refl)

reads-text : (s : State) (xs : List ℕ) (after : Option (List ℕ)) (fields : List (List ℕ)) (t : State) → is_between s ≡ true → IsUtf8 xs → ReadsNext default_config s (Some xs) after true fields t → AllText fields
reads-text s xs None fields t between text reads = absurd reads
reads-text s xs (Some ys) fields t between text reads = next-text (next_record default_config s [] [] xs) fields t ys (λ p is. (text-record s xs p between text is).fields) reads

-- a read of a text in UTF-8 fails for memory alone
pub why-memory : (before after : Reader (Bor (List ℕ))) (why : ErrorKind) → IsReading before → ExplainsRead (λ text. Some text.now) before after true why → IsOfMemory why
why-memory before after (kind.Io error) reading is = tt
why-memory before after kind.OutOfMemory reading is = tt
why-memory before after (kind.UnequalLengths place expected size) reading is = true≢false (sym reading.flexible ∙ is.0)
why-memory before after (kind.Utf8 place error) reading is =
    is.3 (reads-text before.state (left before) _ is.1 after.state reading.between reading.text (rw (reading.config, reading.known) at is.2))
why-memory before after (kind.Serialize text) reading is = is
why-memory before after (kind.Deserialize place error) reading is = is

all_three : (x y z : Bool) → (x && y && z) ≡ true → (x ≡ true) × (y ≡ true) × (z ≡ true)
all_three true true true is = (refl, refl, refl)
all_three true true false is = cc
all_three true false z is = cc
all_three false y z is = cc

after_mark : (a b c : ℕ) (rest : List ℕ) → is_bom a b c ≡ true → IsUtf8 (a ∷ b ∷ c ∷ rest) → IsUtf8 rest
unfolding encode
after_mark a b c rest is text =
    let three = all_three (a == 0xEF) (b == 0xBB) (c == 0xBF) is in
    let first : a ≡ 0xEF = eqb-true a 0xEF three.0 in
    let second : b ≡ 0xBB = eqb-true b 0xBB three.1 in
    let third : c ≡ 0xBF = eqb-true c 0xBF three.2 in
    IsUtf8-past_char (a ∷ b ∷ c ∷ rest) rest 0xFEFF text (λ i. first i ∷ second i ∷ third i ∷ rest)

not_short : (x : Bool) → (x && false) ≡ true → ⊥
not_short true is = cc
not_short false is = cc

not_short_2 : (x y : Bool) → (x && (y && false)) ≡ true → ⊥
not_short_2 true true is = cc
not_short_2 true false is = cc
not_short_2 false y is = cc

grouped : (x y z : Bool) → ((x && y) && z) ≡ (x && (y && (z && true)))
grouped true true true = refl
grouped true true false = refl
grouped true false z = refl
grouped false y z = refl

-- without a byte order mark a text stays one
pub IsUtf8-strip_bom : (bytes : List ℕ) → IsUtf8 bytes → IsUtf8 (strip_bom bytes)
unfolding strip_bom
IsUtf8-strip_bom [] text = text
IsUtf8-strip_bom (a ∷ []) text = text
IsUtf8-strip_bom (a ∷ b ∷ []) text = text
IsUtf8-strip_bom (a ∷ b ∷ c ∷ rest) text = by (is_bom a b c) refl
  where
    by : (t : Bool) → is_bom a b c ≡ t → IsUtf8 (cond t rest (a ∷ b ∷ c ∷ rest))
    by true is = after_mark a b c rest is text
    by false is = text

-- a byte order mark is dropped where a text begins with it
pub mark_is : (bytes : List ℕ) → pointwise nat_eq (take 3 bytes) (0xEF ∷ 0xBB ∷ 0xBF ∷ []) ≡ true → strip_bom bytes ≡ drop 3 bytes
unfolding strip_bom
mark_is [] is = cc
mark_is (a ∷ []) is = absurd (not_short (a == 0xEF) is)
mark_is (a ∷ b ∷ []) is = absurd (not_short_2 (a == 0xEF) (b == 0xBB) is)
mark_is (a ∷ b ∷ c ∷ rest) is = ap (λ t. cond t rest (a ∷ b ∷ c ∷ rest)) (grouped (a == 0xEF) (b == 0xBB) (c == 0xBF) ∙ is)

pub mark_not : (bytes : List ℕ) → pointwise nat_eq (take 3 bytes) (0xEF ∷ 0xBB ∷ 0xBF ∷ []) ≡ false → strip_bom bytes ≡ bytes
unfolding strip_bom
mark_not [] is = refl
mark_not (a ∷ []) is = refl
mark_not (a ∷ b ∷ []) is = refl
mark_not (a ∷ b ∷ c ∷ rest) is = ap (λ t. cond t rest (a ∷ b ∷ c ∷ rest)) (grouped (a == 0xEF) (b == 0xBB) (c == 0xBF) ∙ is)

-- a new reader stands at the beginning of its text, and has all of its records left
pub new-reading : (reader : Reader (Bor (List ℕ))) (text : List ℕ) → reader_trim reader ≡ trim.None → names_headers reader ≡ false → reader_headers reader ≡ None → is_flexible reader ≡ true → reader_config reader ≡ default_config → reader_state reader ≡ st.StartRecord → source reader ≡ Some (strip_bom text) → IsUtf8 text
    → IsReading reader × (table_of text ≡ table_left reader)
new-reading reader text untrimmed bare unread flexible config state known utf8 =
    let all : left reader ≡ strip_bom text = ap (λ o. unwrap_or o []) known in (
      record {
        trim = untrimmed;
        ready = inr (inr (bare, unread));
        flexible = flexible;
        config = config;
        known = known ∙ ap (λ ys. Some ys) (sym all);
        text = subst IsUtf8 (sym all) (IsUtf8-strip_bom text utf8);
        between = ap is_between state;
      },
      table_of-new reader text state all,
    )
