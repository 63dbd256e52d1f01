-- How far a piece goes.
use Rattle.std.proofs.Common.{◌≡◌, ◌==◌, ℕ, ◌+◌, ◌-◌, ◌<◌, ◌≤◌, Bool, true, false, not, cond, ltb, List, [], ◌∷◌, ◌++◌, length, take, drop, Option, Result, Ok, Err, is_ok, nat_eq, Some, None, refl, sym, subst, ◌∙◌, ap, arith, append_assoc, add_assoc, add-zero, length-drop}
use Rattle.std.proofs.lemmas.Bool.{ltb-false}
use Rattle.std.proofs.lemmas.Bool.Decides.{Decides-eqb}
use Rattle.std.proofs.lemmas.List.{append-nil, drop-drop, length-take, take_all}
use Rattle.std.proofs.lemmas.Slice.Eq.{slice_eq-Decides}
use Rattle.std.proofs.lemmas.Str.{IsUtf8-from_is_utf8, is_utf8-from_IsUtf8}
use Rattle.std.proofs.lemmas.List.Sums.{prefix_len-le-length}
use Rattle.std.specs.List.{position, position_or_len, starts_with}
use Rattle.std.specs.Result.{MatchResult, IsOk}
use Rattle.std.specs.Str.{IsUtf8, is_utf8}
use Rattle.vtl_tokens.specs.declared.sign.Sign.{Sign}
use Rattle.vtl_tokens.specs.declared.sign.Sign.TheVariants.{Arrow}
use Rattle.vtl_tokens.specs.Signs.{sign_text}
use Rattle.vtl_tokens.proofs.KeywordLemmas.{find_passes}
use Rattle.std.specs.Option.{unwrap_or, MatchOption, IfSome}
use Rattle.std.specs.Prelude.{⊤}
use Rattle.vtl_lexer.specs.Starts.{QUOTE}
use Rattle.vtl_lexer.specs.Scans.{is_close, before_close, string_at, string_byte, ahead, SIGNS, sign_of}

-- the first place that passes, or the length where there is none
pub first_or_length : {X : Type 0} (test : X → Bool) (xs : List X) (at : Option ℕ) → at ≡ position test xs → unwrap_or at (length xs) ≡ position_or_len test xs
first_or_length test xs at is = ap (λ o. unwrap_or o (length xs)) is ∙ by (ltb (position_or_len test xs) (length xs)) refl
  where
    by : (b : Bool) → ltb (position_or_len test xs) (length xs) ≡ b → unwrap_or (cond b (Some (position_or_len test xs)) None) (length xs) ≡ position_or_len test xs
    by true e = refl
    by false e =
        let all : length xs ≡ position_or_len test xs = omega (arith, ltb-false (position_or_len test xs) (length xs) e, prefix_len-le-length (λ x. not (test x)) xs) in
        all

-- what a slice from a place to the end has
pub rest-is : (text : List ℕ) (at : ℕ) → take (length text - at) (drop at text) ≡ drop at text
rest-is text at = take_all (length text - at) (drop at text) (omega (arith, length-drop at text))

-- a close at the front, and none there
pub before_close-here : (text : List ℕ) → is_close text ≡ true → before_close text ≡ 0
before_close-here [] here = refl
before_close-here (b ∷ bs) here = ap (λ v. cond v 0 (before_close bs + 1)) here

pub before_close-later : (text : List ℕ) → is_close text ≡ false → 0 < length text → before_close text ≡ before_close (drop 1 text) + 1
before_close-later [] later some = absurd (omega arith)
before_close-later (b ∷ bs) later some = ap (λ v. cond v 0 (before_close bs + 1)) later

-- what a string is read as, before its next byte or its end
abbrev Reads : List ℕ → List ℕ × ℕ → Option (ℕ × ℕ) → Type 0
Reads text read next = MatchOption next (read ≡ ([], 0)) (λ p. read ≡ ahead (p.0 ∷ []) p.1 (string_at (drop p.1 text)))

abbrev Fits : List ℕ → Option (ℕ × ℕ) → Type 0
Fits text next = MatchOption next ⊤ (λ p. (0 < p.1) × (p.1 ≤ length text))

last_read : (quote : Bool) (b : ℕ) → Reads (b ∷ []) (cond quote ([], 0) (b ∷ [], 1)) (cond quote None (Some (b, 1)))
last_read true b = refl
last_read false b = refl

more_read : (quote doubled : Bool) (b c : ℕ) (bs : List ℕ) → Reads (b ∷ c ∷ bs) (cond quote (cond doubled (ahead (QUOTE ∷ []) 2 (string_at bs)) ([], 0)) (ahead (b ∷ []) 1 (string_at (c ∷ bs)))) (cond quote (cond doubled (Some (QUOTE, 2)) None) (Some (b, 1)))
more_read true true b c bs = refl
more_read true false b c bs = refl
more_read false doubled b c bs = refl

string_step : (text : List ℕ) → Reads text (string_at text) (string_byte text)
string_step [] = refl
string_step (b ∷ []) = last_read (b == QUOTE) b
string_step (b ∷ c ∷ bs) = more_read (b == QUOTE) (c == QUOTE) b c bs

last_fits : (quote : Bool) (b : ℕ) → Fits (b ∷ []) (cond quote None (Some (b, 1)))
last_fits true b = tt
last_fits false b = (omega arith, omega arith)

more_fits : (quote doubled : Bool) (b c : ℕ) (bs : List ℕ) → Fits (b ∷ c ∷ bs) (cond quote (cond doubled (Some (QUOTE, 2)) None) (Some (b, 1)))
more_fits true true b c bs = (omega arith, omega arith)
more_fits true false b c bs = tt
more_fits false doubled b c bs = (omega arith, omega arith)

string_fits : (text : List ℕ) → Fits text (string_byte text)
string_fits [] = tt
string_fits (b ∷ []) = last_fits (b == QUOTE) b
string_fits (b ∷ c ∷ bs) = more_fits (b == QUOTE) (c == QUOTE) b c bs

pub ahead-ahead : (xs ys : List ℕ) (m n : ℕ) (read : List ℕ × ℕ) → ahead xs m (ahead ys n read) ≡ ahead (xs ++ ys) (m + n) read
ahead-ahead xs ys m n read = cc (append_assoc xs ys read.0, add_assoc m n read.1)

-- the step of the loop over a string, and its end
pub string_at-more : (text : List ℕ) (at : ℕ) (bytes : List ℕ) (p : ℕ × ℕ) → string_byte (drop at text) ≡ Some p → ahead bytes at (string_at (drop at text)) ≡ ahead (bytes ++ p.0 ∷ []) (at + p.1) (string_at (drop (at + p.1) text))
string_at-more text at bytes p is =
    let step : string_at (drop at text) ≡ ahead (p.0 ∷ []) p.1 (string_at (drop p.1 (drop at text))) = subst (Reads (drop at text) (string_at (drop at text))) is (string_step (drop at text)) in
    ap (ahead bytes at) step
    ∙ ahead-ahead bytes (p.0 ∷ []) at p.1 (string_at (drop p.1 (drop at text)))
    ∙ ap (λ xs. ahead (bytes ++ p.0 ∷ []) (at + p.1) (string_at xs)) (drop-drop p.1 at text)

pub string_byte-fits : (text : List ℕ) (p : ℕ × ℕ) → string_byte text ≡ Some p → (0 < p.1) × (p.1 ≤ length text)
string_byte-fits text p is = subst (Fits text) is (string_fits text)

pub string_at-end : (text : List ℕ) → string_byte text ≡ None → string_at text ≡ ([], 0)
string_at-end text is = subst (Reads text (string_at text)) is (string_step text)

pub ahead-nothing : (bytes : List ℕ) (at : ℕ) → (bytes, at) ≡ ahead bytes at ([], 0)
ahead-nothing bytes at = cc (append-nil bytes, add-zero at)

-- a sign that the text begins with is no longer than the text
pub sign_of-fits : (text : List ℕ) (sign : Sign) → sign_of text ≡ Some sign → (0 < length (sign_text sign)) × (length (sign_text sign) ≤ length text)
unfolding sign_of
sign_of-fits text sign is =
    let passes : starts_with nat_eq text (sign_text sign) ≡ true = find_passes (λ s. starts_with nat_eq text (sign_text s)) SIGNS sign is in
    let front : sign_text sign ≡ take (length (sign_text sign)) text = (slice_eq-Decides Decides-eqb (sign_text sign) (take (length (sign_text sign)) text) (starts_with nat_eq text (sign_text sign)) refl).0 passes in
    let some : 0 < length (sign_text sign) = elim sign as (λ s. 0 < length (sign_text s)) [ Arrow ↦ omega arith | _ ↦ omega arith ] in
    (some, omega (arith, ap length front, length-take (length (sign_text sign)) text))

-- what is found of a sign
pub sign_of-room : (text : List ℕ) (sign : Option Sign) → sign ≡ sign_of text → IfSome sign (λ s. (0 < length (sign_text s)) × (length (sign_text s) ≤ length text))
sign_of-room text None is = tt
sign_of-room text (Some s) is = sign_of-fits text s (sym is)

-- the test for UTF-8 is told by its two answers
pub is_utf8-told : {X E : Type 0} (A : X → Type 0) (B : E → Type 0) (text : List ℕ) (read : Result X E) → MatchResult read (λ x. A x × IsUtf8 text) (λ e. (¬ IsUtf8 text) × B e) → is_ok read ≡ is_utf8 text
is_utf8-told A B text (Ok x) told = sym (is_utf8-from_IsUtf8 text told.1)
is_utf8-told A B text (Err e) told = by (is_utf8 text) refl
  where
    by : (b : Bool) → is_utf8 text ≡ b → false ≡ is_utf8 text
    by true is = absurd (told.0 (IsUtf8-from_is_utf8 text is))
    by false is = sym is

pub IsOk-from_IsUtf8 : {X E : Type 0} (A : X → Type 0) (B : E → Type 0) (text : List ℕ) (read : Result X E) → MatchResult read (λ x. A x × IsUtf8 text) (λ e. (¬ IsUtf8 text) × B e) → IsUtf8 text → IsOk read
IsOk-from_IsUtf8 A B text (Ok x) told is = refl
IsOk-from_IsUtf8 A B text (Err e) told is = absurd (told.0 is)
