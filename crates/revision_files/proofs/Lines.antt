-- Lines, and blanks at the ends of names.
use Rattle.std.proofs.Common.{◌≡◌, ℕ, zero, suc, ◌+◌, ◌-◌, ◌<◌, ◌≤◌, Bool, true, false, List, [], ◌∷◌, ◌++◌, length, take, drop, get_or, cond, refl, sym, ap, subst, ◌∙◌, arith, add-one, append_assoc, ◌⊎◌, inl, inr}
use Rattle.std.proofs.lemmas.Bool.{eqb-true}
use Rattle.std.specs.Prelude.{◌==◌, ◌&&◌, ◌||◌, not, reverse}
use Rattle.std.proofs.Math.Seq.{drop-cons}
use Rattle.std.proofs.lemmas.List.{append-nil, drop_all, take_all, take_more, get_or-reverse, length-reverse, reverse-append, reverse-reverse}
use Rattle.std.specs.List.{position_or_len}
use Rattle.std.specs.Str.{IsUtf8}
use Rattle.std.proofs.lemmas.Bool.{cases_lt}
use Rattle.std.proofs.lemmas.List.Sums.{passes_at_first}
use Rattle.std.proofs.lemmas.Str.{IsCharBoundary-after_ascii, IsUtf8-drop, IsUtf8-nil}
use Rattle.revision_files.proofs.Utf8Cuts.{IsUtf8-after, IsUtf8-before_last}
use Rattle.revision_files.specs.Blocks.{CARRIAGE_RETURN, LINE_FEED, SPACE, TAB, PLUS, after_line, begins_with, is_line_feed, ends_line, first_line, is_blank, is_blank_text, without_leading, without_trailing}

-- a byte of a blank line, and one of another
pub blank_more : (b : ℕ) (bytes : List ℕ) → (is_blank b || ends_line (b ∷ bytes)) ≡ true → is_blank_text (b ∷ bytes) ≡ is_blank_text bytes
blank_more b bytes is = ap (λ t. t && is_blank_text bytes) is

pub blank_not : (b : ℕ) (bytes : List ℕ) → (is_blank b || ends_line (b ∷ bytes)) ≡ false → is_blank_text (b ∷ bytes) ≡ false
blank_not b bytes is = ap (λ t. t && is_blank_text bytes) is

-- the end of a line begins with a byte of ASCII
ends_low : (b : ℕ) (bytes : List ℕ) → ends_line (b ∷ bytes) ≡ true → b < 128
ends_low b bytes is = by (b == LINE_FEED) (b == CARRIAGE_RETURN) refl refl is
  where
    by : (feed return : Bool) → (b == LINE_FEED) ≡ feed → (b == CARRIAGE_RETURN) ≡ return → (feed || (return && begins_with LINE_FEED bytes)) ≡ true → b < 128
    by true return feeds returns is' = let at = eqb-true b LINE_FEED feeds in omega (arith, at)
    by false true feeds returns is' = let at = eqb-true b CARRIAGE_RETURN returns in omega (arith, at)
    by false false feeds returns is' = cc

pub ends_low_at : (text : List ℕ) (at : ℕ) → ends_line (drop at text) ≡ true → at < length text → get_or text at 0 < 128
ends_low_at text at is inside = ends_low (get_or text at 0) (drop (suc at) text) (subst (λ rest. ends_line rest ≡ true) (drop-cons text at 0 inside) is)

-- the first line ends here, or goes on
ends_there : (bytes : List ℕ) → ends_line bytes ≡ true → first_line bytes ≡ []
ends_there [] is = refl
ends_there (b ∷ bytes) is = ap (λ t. cond t [] (b ∷ first_line bytes)) is

pub line_ends : (text : List ℕ) (at : ℕ) → first_line text ≡ take at text ++ first_line (drop at text) → ends_line (drop at text) ≡ true → take at text ≡ first_line text
line_ends text at so_far is = sym (so_far ∙ (ap (λ rest. take at text ++ rest) (ends_there (drop at text) is) ∙ append-nil (take at text)))

goes_there : (b : ℕ) (bytes : List ℕ) → ends_line (b ∷ bytes) ≡ false → first_line (b ∷ bytes) ≡ b ∷ first_line bytes
goes_there b bytes is = ap (λ t. cond t [] (b ∷ first_line bytes)) is

pub line_more : (text : List ℕ) (at : ℕ) → at < length text → first_line text ≡ take at text ++ first_line (drop at text) → ends_line (drop at text) ≡ false → first_line text ≡ take (at + 1) text ++ first_line (drop (at + 1) text)
line_more text at inside so_far is =
    let b : ℕ = get_or text at 0 in
    let rest : List ℕ = drop (suc at) text in
    let next : first_line (drop at text) ≡ b ∷ first_line rest = ap first_line (drop-cons text at 0 inside) ∙ goes_there b rest (subst (λ bytes. ends_line bytes ≡ false) (drop-cons text at 0 inside) is) in
    so_far
    ∙ (ap (λ line. take at text ++ line) next
    ∙ (sym (append_assoc (take at text) (b ∷ []) (first_line rest))
    ∙ (ap (λ front. front ++ first_line rest) (sym (take_more text at 0 inside)) ∙ ap (λ n. take (at + 1) text ++ first_line (drop n text)) (sym (add-one at)))))

pub line_all : (text : List ℕ) (at : ℕ) → at ≡ length text → first_line text ≡ take at text ++ first_line (drop at text) → text ≡ first_line text
line_all text at is so_far = sym (so_far ∙ (λ i. take_all at text (omega arith) i ++ first_line (drop_all at text (omega arith) i)) ∙ append-nil text)

blank_low : (b : ℕ) → is_blank b ≡ true → b < 128
blank_low b is = by (b == SPACE) refl is
  where
    by : (t : Bool) → (b == SPACE) ≡ t → (t || (b == TAB)) ≡ true → b < 128
    by true at is' = let same = eqb-true b SPACE at in omega (arith, same)
    by false at is' = let same = eqb-true b TAB is' in omega (arith, same)

-- without a blank, at the beginning and at the end
pub leading_less : (b : ℕ) (bytes : List ℕ) → is_blank b ≡ true → without_leading (b ∷ bytes) ≡ without_leading bytes
leading_less b bytes is = ap (λ t. cond t (without_leading bytes) (b ∷ bytes)) is

pub leading_none : (bytes : List ℕ) → (0 < length bytes → is_blank (get_or bytes 0 0) ≡ false) → without_leading bytes ≡ bytes
leading_none [] other = refl
leading_none (b ∷ bytes) other = ap (λ t. cond t (without_leading bytes) (b ∷ bytes)) (other (omega arith))

pub trailing_less : (front : List ℕ) (b : ℕ) → is_blank b ≡ true → without_trailing (front ++ b ∷ []) ≡ without_trailing front
trailing_less front b is = ap (λ back. reverse (without_leading back)) (reverse-append front (b ∷ [])) ∙ ap reverse (leading_less b (reverse front) is)

pub trailing_none : (bytes : List ℕ) → (0 < length bytes → is_blank (get_or bytes (length bytes - 1) 0) ≡ false) → without_trailing bytes ≡ bytes
trailing_none bytes other =
    let size : length (reverse bytes) ≡ length bytes = length-reverse bytes in
    ap reverse
    (leading_none (reverse bytes) (λ some. let some' : 0 < length bytes = omega (arith, size) in let at : length bytes - 1 - 0 ≡ length bytes - 1 = omega arith in ap is_blank (get_or-reverse bytes 0 0 some' ∙ ap (λ k. get_or bytes k 0) at) ∙ other some'))
    ∙ reverse-reverse bytes

-- what stands after the first line of a text is one
pub IsUtf8-after_line : (text : List ℕ) → IsUtf8 text → IsUtf8 (after_line text)
IsUtf8-after_line text utf8 = by (cases_lt (position_or_len is_line_feed text) (length text))
  where
    by : (position_or_len is_line_feed text < length text) ⊎ (length text ≤ position_or_len is_line_feed text) → IsUtf8 (after_line text)
    by (inl inside) =
        let at : ℕ = position_or_len is_line_feed text in
        let feed : get_or text at 0 ≡ LINE_FEED = eqb-true (get_or text at 0) LINE_FEED (passes_at_first is_line_feed text 0 inside) in
        IsUtf8-drop text (at + 1) utf8 (IsCharBoundary-after_ascii text at utf8 inside (omega arith))
    by (inr outside) = subst IsUtf8 (sym (drop_all (position_or_len is_line_feed text + 1) text (omega arith))) IsUtf8-nil

pub not_not : (b : Bool) → not b ≡ false → b ≡ true
not_not true is = refl
not_not false is = cc

-- one blank less
pub leading_step : (text : List ℕ) → 1 ≤ length text → is_blank (get_or text 0 0) ≡ true → (without_leading text ≡ without_leading (take (length text - 1) (drop 1 text))) × (IsUtf8 text → IsUtf8 (take (length text - 1) (drop 1 text)))
leading_step [] some is = absurd (omega arith)
leading_step (b ∷ bytes) some is =
    let rest : take (length (b ∷ bytes) - 1) bytes ≡ bytes = take_all (length (b ∷ bytes) - 1) bytes (omega arith) in (
      leading_less b bytes is ∙ ap without_leading (sym rest),
      λ text. subst IsUtf8 (sym rest) (IsUtf8-after b bytes (blank_low b is) text),
    )

pub trailing_step : (text : List ℕ) → 1 ≤ length text → is_blank (get_or text (length text - 1) 0) ≡ true → (without_trailing text ≡ without_trailing (take (length text - 1) text)) × (IsUtf8 text → IsUtf8 (take (length text - 1) text))
trailing_step text some is =
    let last : ℕ = get_or text (length text - 1) 0 in
    let front : List ℕ = take (length text - 1) text in
    let whole : text ≡ front ++ last ∷ [] = sym (take_all (length text - 1 + 1) text (omega arith)) ∙ take_more text (length text - 1) 0 (omega arith) in (
      ap without_trailing whole ∙ trailing_less front last is,
      λ utf8. IsUtf8-before_last front last (blank_low last is) (subst IsUtf8 whole utf8),
    )

-- without the plus
pub plus_less : (line : List ℕ) → 1 ≤ length line → get_or line 0 0 ≡ PLUS → IsUtf8 line → IsUtf8 (take (length line - 1) (drop 1 line))
plus_less [] some is text = absurd (omega arith)
plus_less (b ∷ bytes) some is text = subst IsUtf8 (sym (take_all (length (b ∷ bytes) - 1) bytes (omega arith))) (IsUtf8-after b bytes (omega arith) text)
