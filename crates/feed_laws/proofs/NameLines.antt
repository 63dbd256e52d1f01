-- The line that starts a block, and the name on it.
use Rattle.std.proofs.Common.{◌≡◌, ◌==◌, ◌&&◌, ◌||◌, ℕ, suc, ◌+◌, Bool, true, false, not, List, [], ◌∷◌, ◌++◌, length, drop, cond, refl, sym, ap, ◌∙◌, arith, append-nil}
use Rattle.std.specs.List.{list_any, position_or_len}
use Rattle.std.specs.Str.{IsUtf8, chars}
use Rattle.std.proofs.Math.Utf8.{encodes}
use Rattle.std.proofs.lemmas.List.Folds.{list_any-append}
use Rattle.std.proofs.lemmas.Str.{IsUtf8-append, IsUtf8-nil, chars-encodes}
use Rattle.data_model.proofs.MapLemmas.{neither}
use Rattle.revision_files.specs.Blocks.{CARRIAGE_RETURN, LINE_FEED, PLUS, after_line, begins_with, first_line, is_blank, is_further, is_line_feed, name_on, set_of, trimmed, without_trailing, SPACE, TAB}
use Rattle.revision_files.proofs.Lines.{leading_none, trailing_less, trailing_none}
use Rattle.feed_laws.specs.Written.{IsOnLine, after_name, before_name, begins, ends, line_of}
use Rattle.feed_laws.proofs.Bytes.{PassesAscii, any-encodes, begins-at, begins-both, begins-encodes, begins-first, ends-append, ends-at, ends-both, ends-encodes, ends-some, is-PassesAscii}
use Rattle.feed_laws.proofs.Quoted.{utf8-low, utf8-text}

abbrev is_return : ℕ → Bool
is_return c = c == CARRIAGE_RETURN

blank-PassesAscii : PassesAscii is_blank
blank-PassesAscii b high = (λ i. is-PassesAscii SPACE (omega arith) b high i || is-PassesAscii TAB (omega arith) b high i)

and_false : (b : Bool) → (b && false) ≡ false
and_false true = refl
and_false false = refl

-- ---- the line

pub first_line-is : (xs rest : List ℕ) → list_any is_line_feed xs ≡ false → ends is_return xs ≡ false → first_line (xs ++ LINE_FEED ∷ rest) ≡ xs
first_line-is [] rest one no_return = refl
first_line-is (x ∷ []) rest one no_return =
    let both = neither (is_line_feed x) false one in
    (λ i. cond (both.0 i || (no_return i && true)) [] (x ∷ []))
first_line-is (x ∷ y ∷ xs) rest one no_return =
    let both = neither (is_line_feed x) (list_any is_line_feed (y ∷ xs)) one in
    let next = neither (is_line_feed y) (list_any is_line_feed xs) both.1 in
    (λ i. cond (both.0 i || (is_return x && next.0 i)) [] (x ∷ first_line ((y ∷ xs) ++ LINE_FEED ∷ rest)))
    ∙ ap (λ b. cond b [] (x ∷ first_line ((y ∷ xs) ++ LINE_FEED ∷ rest))) (and_false (is_return x))
    ∙ ap (λ (l : List ℕ). x ∷ l) (first_line-is (y ∷ xs) rest both.1 no_return)

feed-at : (xs rest : List ℕ) → list_any is_line_feed xs ≡ false → position_or_len is_line_feed (xs ++ LINE_FEED ∷ rest) ≡ length xs
feed-at [] rest one = refl
feed-at (x ∷ xs) rest one =
    let both = neither (is_line_feed x) (list_any is_line_feed xs) one in
    ap (λ b. cond (not b) (1 + position_or_len is_line_feed (xs ++ LINE_FEED ∷ rest)) 0) both.0 ∙ (let e = feed-at xs rest both.1 in omega (arith, e))

drop-past : (xs rest : List ℕ) → drop (length xs + 1) (xs ++ LINE_FEED ∷ rest) ≡ rest
drop-past [] rest = refl
drop-past (x ∷ xs) rest =
    let past : length (x ∷ xs) + 1 ≡ suc (length xs + 1) = omega arith in
    ap (λ n. drop n ((x ∷ xs) ++ LINE_FEED ∷ rest)) past ∙ drop-past xs rest

pub after_line-is : (xs rest : List ℕ) → list_any is_line_feed xs ≡ false → after_line (xs ++ LINE_FEED ∷ rest) ≡ rest
after_line-is xs rest one = ap (λ n. drop (n + 1) (xs ++ LINE_FEED ∷ rest)) (feed-at xs rest one) ∙ drop-past xs rest

-- ---- the name

with-begins : (bs : List ℕ) → begins_with PLUS bs ≡ begins (λ b. b == PLUS) bs
with-begins [] = refl
with-begins (b ∷ bs) = refl

-- what may stand beside a name is blank, or the plus of a further part
after-passes : (p : ℕ → Bool) (name : List ℕ) → p SPACE ≡ false → (list_any p (after_name name) ≡ false) × (begins p (after_name name) ≡ false) × (ends p (after_name name) ≡ false)
after-passes p name blank = elim (ends is_return name) as (λ b. (list_any p (cond b (SPACE ∷ []) []) ≡ false) × (begins p (cond b (SPACE ∷ []) []) ≡ false) × (ends p (cond b (SPACE ∷ []) []) ≡ false)) [
  | true ↦ (ap (λ b. b || false) blank, blank, blank)
  | false ↦ (refl, refl, refl)
]

before-passes : (p : ℕ → Bool) (further : Bool) (name : List ℕ) → p PLUS ≡ false → p SPACE ≡ false → (list_any p (before_name further name) ≡ false) × (ends p (before_name further name) ≡ false)
before-passes p true name plus blank = (ap (λ b. b || false) plus, plus)
before-passes p false name plus blank = elim (begins_with PLUS name) as (λ b. (list_any p (cond b (SPACE ∷ []) []) ≡ false) × (ends p (cond b (SPACE ∷ []) []) ≡ false)) [
  | true ↦ (ap (λ b. b || false) blank, blank)
  | false ↦ (refl, refl)
]

after-utf8 : (name : List ℕ) → IsUtf8 (after_name name)
after-utf8 name = elim (ends is_return name) as (λ b. IsUtf8 (cond b (SPACE ∷ []) [])) [ true ↦ utf8-low SPACE refl (omega arith) | false ↦ IsUtf8-nil ]

before-utf8 : (further : Bool) (name : List ℕ) → IsUtf8 (before_name further name)
before-utf8 true name = utf8-low PLUS refl (omega arith)
before-utf8 false name = elim (begins_with PLUS name) as (λ b. IsUtf8 (cond b (SPACE ∷ []) [])) [ true ↦ utf8-low SPACE refl (omega arith) | false ↦ IsUtf8-nil ]

module _ (name : List ℕ) (h : IsOnLine name) where
  abbrev written : List ℕ
  written = encodes name ++ after_name name

  either : (a b : Bool) → a ≡ false → b ≡ false → (a || b) ≡ false
  either a b e f = (λ i. e i || f i)

  pub line-one : (further : Bool) → list_any is_line_feed (line_of further name) ≡ false
  line-one further =
      list_any-append is_line_feed (before_name further name) written
      ∙ either (list_any is_line_feed (before_name further name)) (list_any is_line_feed written) (before-passes is_line_feed further name refl refl).0
      (list_any-append is_line_feed (encodes name) (after_name name)
      ∙ either (list_any is_line_feed (encodes name)) (list_any is_line_feed (after_name name)) (any-encodes is_line_feed (is-PassesAscii LINE_FEED (omega arith)) name ∙ h.one_line) (after-passes is_line_feed name refl).0)

  -- the name with what stands after it ends with no carriage return
  written-ends : (b : Bool) → ends is_return name ≡ b → ends is_return (encodes name ++ cond b (SPACE ∷ []) []) ≡ false
  written-ends true is = ends-append is_return (is-PassesAscii CARRIAGE_RETURN (omega arith)) (encodes name) (SPACE ∷ []) (omega arith)
  written-ends false is = ap (ends is_return) (append-nil (encodes name)) ∙ ends-encodes is_return (is-PassesAscii CARRIAGE_RETURN (omega arith)) name ∙ is

  line-no_return : (further : Bool) → ends is_return (line_of further name) ≡ false
  line-no_return further = ends-both is_return (is-PassesAscii CARRIAGE_RETURN (omega arith)) (before_name further name) written (before-passes is_return further name refl refl).1 (written-ends (ends is_return name) refl)

  pub line-utf8 : (further : Bool) → IsUtf8 (line_of further name)
  line-utf8 further = IsUtf8-append (before_name further name) written (before-utf8 further name) (IsUtf8-append (encodes name) (after_name name) (utf8-text name h.characters) (after-utf8 name))

  line-first : (further : Bool) (rest : List ℕ) → first_line (line_of further name ++ LINE_FEED ∷ rest) ≡ line_of further name
  line-first further rest = first_line-is (line_of further name) rest (line-one further) (line-no_return further)

  -- whether the line begins with a plus
  first-plus : (b : Bool) → begins_with PLUS name ≡ b → begins_with PLUS (cond b (SPACE ∷ []) [] ++ written) ≡ false
  first-plus true is = refl
  first-plus false is =
      let plus : PassesAscii (λ b. b == PLUS) = is-PassesAscii PLUS (omega arith) in
      with-begins written
      ∙ begins-both (λ b. b == PLUS) plus (encodes name) (after_name name) (begins-encodes (λ b. b == PLUS) plus name ∙ sym (with-begins name) ∙ is) (after-passes (λ b. b == PLUS) name refl).1

  line-plus : (further : Bool) → begins_with PLUS (line_of further name) ≡ further
  line-plus true = refl
  line-plus false = first-plus (begins_with PLUS name) refl

  -- the name without the blank after it
  trimmed-name : (b : Bool) → ends is_return name ≡ b → trimmed (encodes name ++ cond b (SPACE ∷ []) []) ≡ encodes name
  trimmed-name true is =
      let some = ends-some is_return (is-PassesAscii CARRIAGE_RETURN (omega arith)) (encodes name) (ends-encodes is_return (is-PassesAscii CARRIAGE_RETURN (omega arith)) name ∙ is) in
      let first : begins is_blank (encodes name ++ SPACE ∷ []) ≡ false = begins-first is_blank blank-PassesAscii (encodes name) (SPACE ∷ []) some ∙ begins-encodes is_blank blank-PassesAscii name ∙ h.no_blank_first in
      ap without_trailing (leading_none (encodes name ++ SPACE ∷ []) (begins-at is_blank blank-PassesAscii (encodes name ++ SPACE ∷ []) first))
      ∙ trailing_less (encodes name) SPACE refl
      ∙ trailing_none (encodes name) (ends-at is_blank blank-PassesAscii (encodes name) (ends-encodes is_blank blank-PassesAscii name ∙ h.no_blank_last))
  trimmed-name false is =
      ap trimmed (append-nil (encodes name))
      ∙ ap without_trailing (leading_none (encodes name) (begins-at is_blank blank-PassesAscii (encodes name) (begins-encodes is_blank blank-PassesAscii name ∙ h.no_blank_first)))
      ∙ trailing_none (encodes name) (ends-at is_blank blank-PassesAscii (encodes name) (ends-encodes is_blank blank-PassesAscii name ∙ h.no_blank_last))

  -- and without the one before it
  trimmed-line : (b : Bool) → trimmed (cond b (SPACE ∷ []) [] ++ written) ≡ encodes name
  trimmed-line true = trimmed-name (ends is_return name) refl
  trimmed-line false = trimmed-name (ends is_return name) refl

  name-on : (further : Bool) → name_on (line_of further name) ≡ encodes name
  name-on true = trimmed-name (ends is_return name) refl
  name-on false = ap (λ b. trimmed (cond b (drop 1 (line_of false name)) (line_of false name))) (line-plus false) ∙ trimmed-line (begins_with PLUS name)

  pub further-is : (further : Bool) (rest : List ℕ) → is_further (line_of further name ++ LINE_FEED ∷ rest) ≡ further
  further-is further rest = ap (begins_with PLUS) (line-first further rest) ∙ line-plus further

  pub set-is : (further : Bool) (rest : List ℕ) → set_of (line_of further name ++ LINE_FEED ∷ rest) ≡ name
  set-is further rest = ap (λ line. chars (name_on line)) (line-first further rest) ∙ ap chars (name-on further) ∙ chars-encodes name h.characters
