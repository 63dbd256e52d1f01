-- The fields of a text in UTF-8 are in UTF-8: a record is cut at bytes of ASCII.
use Rattle.std.proofs.Common.{◌≡◌, ℕ, ◌+◌, ◌-◌, ◌<◌, ◌≤◌, Bool, true, false, List, [], ◌∷◌, ◌++◌, length, take, drop, get_or, Option, Some, None, if◌then◌else◌, ◌⊎◌, inl, inr, refl, sym, ap, subst, ◌∙◌, append_assoc, arith}
use Rattle.std.proofs.lemmas.Bool.{eqb-true}
use Rattle.std.specs.Prelude.{◌==◌, ◌&&◌, ◌||◌}
use Rattle.std.specs.Str.{IsUtf8}
use Rattle.std.proofs.lemmas.Str.{IsUtf8-append, IsUtf8-nil}
use Rattle.std.proofs.lemmas.List.{append-nil, get_or-append_right, length-append, take-append-le, take_all, drop-append-le, drop_all}
use Rattle.csv.specs.Machine.{Read, after_end, ends_with, ends_at_end, field_after, fields_after, in_field, is_end, next_record, start_field, start_record, step}
use Rattle.csv.specs.Reading.{default_config}
use Rattle.csv.specs.Records.{AllText}
use Rattle.csv.specs.declared.parser.Action.{Action}
use Rattle.csv.specs.declared.parser.Action.TheVariants as act
use Rattle.csv.specs.declared.parser.State.{State}
use Rattle.csv.specs.declared.parser.State.TheVariants as st
use Rattle.revision_files.specs.Readers.{is_between}
use Rattle.revision_files.proofs.Utf8Cuts.{IsUtf8-after, IsUtf8-cut}

-- no comment begins in a text that is read so
abbrev pub is_comment : State → Bool
is_comment st.InComment = true
is_comment st.StartRecord = false
is_comment st.StartField = false
is_comment st.InField = false
is_comment st.InQuoted = false
is_comment st.AfterQuote = false
is_comment st.InEscape = false
is_comment st.AfterCr = false

-- a byte is joined to the field at hand, or is one of ASCII
record IsCut (c : ℕ) (next : State × Action) : Type 0 where
  place : (next.1 ≡ act.Copy) ⊎ (c < 128)
  plain : is_comment next.0 ≡ false

either : (b : Bool) (c : ℕ) (x y : State × Action) → (b ≡ true → IsCut c x) → IsCut c y → IsCut c (if b then x else y)
either true c x y this that = this refl
either false c x y this that = that

low_at : (c low : ℕ) (next : State × Action) → low < 128 → is_comment next.0 ≡ false → (c == low) ≡ true → IsCut c next
low_at c low next small plain is = let same = eqb-true c low is in record { place = inr (omega (arith, same)); plain = plain }

low_of : (c m n : ℕ) (next : State × Action) → m < 128 → n < 128 → is_comment next.0 ≡ false → ((c == m) || (c == n)) ≡ true → IsCut c next
low_of c m n next small small' plain is = by (c == m) refl is
  where
    by : (b : Bool) → (c == m) ≡ b → (b || (c == n)) ≡ true → IsCut c next
    by true first is' = low_at c m next small plain first
    by false first is' = low_at c n next small' plain is'

after_end-plain : (b : Bool) → is_comment (if b then st.AfterCr else st.StartRecord) ≡ false
after_end-plain true = refl
after_end-plain false = refl

in_field-cut : (c : ℕ) → IsCut c (in_field default_config c)
in_field-cut c = either (c == 44) c (st.StartField, act.EndField) _ (low_at c 44 (st.StartField, act.EndField) (omega arith) refl)
    (either (ends_with default_config.terminator c) c (after_end default_config.terminator c, act.EndRecord) (st.InField, act.Copy)
    (low_of c 13 10 (after_end default_config.terminator c, act.EndRecord) (omega arith) (omega arith) (after_end-plain (c == 13)))
    (record { place = inl refl; plain = refl }))

start_field-cut : (c : ℕ) → IsCut c (start_field default_config c)
start_field-cut c = either (c == 34) c (st.InQuoted, act.Skip) (in_field default_config c) (low_at c 34 (st.InQuoted, act.Skip) (omega arith) refl) (in_field-cut c)

start_record-cut : (c : ℕ) → IsCut c (start_record default_config c)
start_record-cut c = either (ends_with default_config.terminator c) c (st.StartRecord, act.Skip) (start_field default_config c) (low_of c 13 10 (st.StartRecord, act.Skip) (omega arith) (omega arith) refl) (start_field-cut c)

step-cut : (s : State) (c : ℕ) → is_comment s ≡ false → IsCut c (step default_config s c)
step-cut st.StartRecord c plain = start_record-cut c
step-cut st.StartField c plain = start_field-cut c
step-cut st.InField c plain = in_field-cut c
step-cut st.InQuoted c plain = either (c == 34) c (st.AfterQuote, act.Skip) (st.InQuoted, act.Copy) (low_at c 34 (st.AfterQuote, act.Skip) (omega arith) refl) (record { place = inl refl; plain = refl })
step-cut st.InEscape c plain = record { place = inl refl; plain = refl }
step-cut st.AfterQuote c plain = either (c == 34) c (st.InQuoted, act.Copy) (in_field default_config c) (low_at c 34 (st.InQuoted, act.Copy) (omega arith) refl) (in_field-cut c)
step-cut st.InComment c plain = cc
step-cut st.AfterCr c plain = either (c == 10) c (st.StartRecord, act.Skip) (start_record default_config c) (low_at c 10 (st.StartRecord, act.Skip) (omega arith) refl) (start_record-cut c)

-- what a byte of ASCII stands between
pub IsUtf8-around : (front : List ℕ) (c : ℕ) (rest : List ℕ) → c < 128 → IsUtf8 (front ++ c ∷ rest) → IsUtf8 front × IsUtf8 rest
IsUtf8-around front c rest low utf8 =
    let n : ℕ = length front in
    let whole : List ℕ = front ++ c ∷ rest in
    let size : length whole ≡ n + length (c ∷ rest) = length-append front (c ∷ rest) in
    let first : n - n ≡ 0 = omega arith in
    let here : get_or whole n 0 ≡ c = get_or-append_right front (c ∷ rest) n n 0 refl (omega arith) ∙ ap (λ k. get_or (c ∷ rest) k 0) first in
    let cut = IsUtf8-cut whole n (omega arith) (λ inside. omega arith) utf8 in (
      subst IsUtf8 (take-append-le n front (c ∷ rest) (omega arith) ∙ take_all n front (omega arith)) cut.0,
      IsUtf8-after c rest low (subst IsUtf8 (drop-append-le n front (c ∷ rest) (omega arith) ∙ ap (λ none. none ++ c ∷ rest) (drop_all n front (omega arith))) cut.1),
    )

AllText-append : (fields : List (List ℕ)) (field : List ℕ) → AllText fields → IsUtf8 field → AllText (fields ++ field ∷ [])
unfolding AllText
AllText-append [] field all text = (text, tt)
AllText-append (f ∷ fields) field all text = (all.0, AllText-append fields field all.1 text)

-- the fields, and the field at hand with what is left, after a byte
after_byte : (a : Action) (c : ℕ) (fields : List (List ℕ)) (field rest : List ℕ) → (a ≡ act.Copy) ⊎ (c < 128) → AllText fields → IsUtf8 (field ++ c ∷ rest) → AllText (fields_after a fields field) × IsUtf8 (field_after a c field ++ rest)
after_byte act.Copy c fields field rest place all text = (all, subst IsUtf8 (sym (append_assoc field (c ∷ []) rest)) text)
after_byte act.Skip c fields field rest (inl copied) all text = cc
after_byte act.Skip c fields field rest (inr low) all text = let parts = IsUtf8-around field c rest low text in (all, IsUtf8-append field rest parts.0 parts.1)
after_byte act.EndField c fields field rest (inl copied) all text = cc
after_byte act.EndField c fields field rest (inr low) all text = let parts = IsUtf8-around field c rest low text in (AllText-append fields field all parts.0, parts.1)
after_byte act.EndRecord c fields field rest (inl copied) all text = cc
after_byte act.EndRecord c fields field rest (inr low) all text = let parts = IsUtf8-around field c rest low text in (AllText-append fields field all parts.0, parts.1)

-- between two records stands no comment
pub between-plain : (s : State) → is_between s ≡ true → is_comment s ≡ false
between-plain st.StartRecord between = refl
between-plain st.AfterCr between = refl
between-plain st.StartField between = refl
between-plain st.InField between = refl
between-plain st.InQuoted between = refl
between-plain st.AfterQuote between = refl
between-plain st.InEscape between = refl
between-plain st.InComment between = cc

-- a record whose fields are texts, with a text after it
pub record IsTextRecord (p : Read) : Type 0 where
  pub fields : AllText p.0
  pub rest : IsUtf8 p.2

at_end : (b : Bool) (fields : List (List ℕ)) (p : Read) → AllText fields → IsUtf8 [] → (if b then Some (fields, st.StartRecord, []) else None) ≡ Some p → IsTextRecord p
at_end true fields p all none is =
    let same : (fields, st.StartRecord, []) ≡ p = cc in
    subst IsTextRecord same (record { fields = all; rest = none })
at_end false fields p all none is = cc

ended : (a : Action) (fields : List (List ℕ)) (field rest : List ℕ) (c : ℕ) → is_end a ≡ true → IsUtf8 (field_after a c field ++ rest) → IsUtf8 rest
ended act.EndRecord fields field rest c is text = text
ended act.Copy fields field rest c is text = cc
ended act.Skip fields field rest c is text = cc
ended act.EndField fields field rest c is text = cc

at_byte : (b : Bool) (fields : List (List ℕ)) (s : State) (rest : List ℕ) (more : Option Read) (p : Read) → AllText fields → (b ≡ true → IsUtf8 rest) → (more ≡ Some p → IsTextRecord p) → (if b then Some (fields, s, rest) else more) ≡ Some p → IsTextRecord p
at_byte true fields s rest more p all text later is =
    let same : (fields, s, rest) ≡ p = cc in
    subst IsTextRecord same (record { fields = all; rest = text refl })
at_byte false fields s rest more p all text later is = later is

pub next_record-text : (s : State) (fields : List (List ℕ)) (field xs : List ℕ) (p : Read) → is_comment s ≡ false → AllText fields → IsUtf8 (field ++ xs) → next_record default_config s fields field xs ≡ Some p → IsTextRecord p
unfolding next_record
next_record-text s fields field [] p plain all text is =
    let here : IsUtf8 field = subst IsUtf8 (append-nil field) text in
    at_end (ends_at_end s) (fields ++ (field ∷ [])) p (AllText-append fields field all here) IsUtf8-nil is
next_record-text s fields field (c ∷ rest) p plain all text is =
    let next = step default_config s c in
    let cut = step-cut s c plain in
    let after = after_byte next.1 c fields field rest cut.place all text in
    at_byte (is_end next.1) (fields_after next.1 fields field) next.0 rest (next_record default_config next.0 (fields_after next.1 fields field) (field_after next.1 c field) rest) p after.0
    (λ ends. ended next.1 fields field rest c ends after.1)
    (next_record-text next.0 (fields_after next.1 fields field) (field_after next.1 c field) rest p cut.plain after.0 after.1) is

-- the same between two records
pub text-record : (s : State) (xs : List ℕ) (p : Read) → is_between s ≡ true → IsUtf8 xs → next_record default_config s [] [] xs ≡ Some p → IsTextRecord p
unfolding AllText
text-record s xs p between text is = next_record-text s [] [] xs p (between-plain s between) tt text is
