-- How a text is cut into blocks.
use Rattle.std.proofs.Common.{◌≡◌, ℕ, suc, ◌+◌, ◌-◌, ◌<◌, ◌≤◌, Bool, true, false, List, [], ◌∷◌, ◌++◌, length, take, drop, get_or, cond, refl, sym, ap, subst, ◌∙◌, arith, add-one}
use Rattle.std.proofs.lemmas.Bool.{eqb-true}
use Rattle.std.specs.Prelude.{◌==◌, ◌&&◌}
use Rattle.std.specs.Str.{IsUtf8}
use Rattle.std.proofs.Math.Seq.{drop-cons}
use Rattle.std.proofs.lemmas.List.{take_all}
use Rattle.revision_files.specs.Blocks.{Cut, cut, cut_from, put_byte, start_block, AT_SIGN, LINE_FEED}
use Rattle.revision_files.proofs.Utf8Cuts.{IsUtf8-after, IsUtf8-cut}

-- what stands before the first block of a text that is cut so, and the text from there on
pub record Splits (whole : Cut) (text : List ℕ) : Type 0 where
  pub front : take (length whole.before) text ≡ whole.before
  pub blocks : (cut (drop (length whole.before) text)).blocks ≡ whole.blocks
  pub starts : (cut (drop (length whole.before) text)).before ≡ []
  pub within : length whole.before ≤ length text

and_second : (a b : Bool) → (a && b) ≡ true → b ≡ true
and_second true b both = both
and_second false b both = cc

-- the bytes from a start on
from_start : (b : ℕ) (bytes : List ℕ) → (b == AT_SIGN) ≡ true → cut (b ∷ bytes) ≡ start_block (cut_from false bytes)
from_start b bytes is = ap (λ t. cond (true && t) (start_block (cut_from false bytes)) (put_byte b (cut_from (b == LINE_FEED) bytes))) is

splits_by : (starts : Bool) (b : ℕ) (bytes : List ℕ) → (starts ≡ true → (b == AT_SIGN) ≡ true) → Splits (cut_from (b == LINE_FEED) bytes) bytes → Splits (cond starts (start_block (cut_from false bytes)) (put_byte b (cut_from (b == LINE_FEED) bytes))) (b ∷ bytes)
splits_by true b bytes is later = record {
  front = refl;
  blocks = ap (λ whole. whole.blocks) (from_start b bytes (is refl));
  starts = ap (λ whole. whole.before) (from_start b bytes (is refl));
  within = omega arith;
}
splits_by false b bytes is later = record {
  front = ap (λ rest. b ∷ rest) later.front;
  blocks = later.blocks;
  starts = later.starts;
  within = omega (arith, later.within);
}

pub splits : (fresh : Bool) (text : List ℕ) → Splits (cut_from fresh text) text
splits fresh [] = record { front = refl; blocks = refl; starts = refl; within = omega arith }
splits fresh (b ∷ bytes) = splits_by (fresh && (b == AT_SIGN)) b bytes (and_second fresh (b == AT_SIGN)) (splits (b == LINE_FEED) bytes)

-- a text that begins with a block begins with a byte of ASCII
starts_low : (b : ℕ) (bytes : List ℕ) → (cut (b ∷ bytes)).before ≡ [] → b < 128
starts_low b bytes none = by (b == AT_SIGN) refl none
  where
    by : (t : Bool) → (b == AT_SIGN) ≡ t → (cond (true && t) (start_block (cut_from false bytes)) (put_byte b (cut_from (b == LINE_FEED) bytes))).before ≡ [] → b < 128
    by true is none' = let at = eqb-true b AT_SIGN is in omega (arith, at)
    by false is none' = cc

low_at : (text : List ℕ) (n : ℕ) → (cut (drop n text)).before ≡ [] → n < length text → get_or text n 0 < 128
low_at text n none inside = starts_low (get_or text n 0) (drop (suc n) text) (subst (λ rest. (cut rest).before ≡ []) (drop-cons text n 0 inside) none)

-- both parts of a text are texts
pub splits_text : (fresh : Bool) (text : List ℕ) → IsUtf8 text → IsUtf8 (take (length (cut_from fresh text).before) text) × IsUtf8 (drop (length (cut_from fresh text).before) text)
splits_text fresh text utf8 =
    let parts = splits fresh text in
    IsUtf8-cut text (length (cut_from fresh text).before) parts.within (low_at text (length (cut_from fresh text).before) parts.starts) utf8

-- a block begins where an `@` begins a line, and nowhere else
pub starts_here : (fresh : Bool) (b : ℕ) (bytes : List ℕ) → (fresh && (b == AT_SIGN)) ≡ true → length (cut_from fresh (b ∷ bytes)).before ≡ 0
starts_here fresh b bytes is = ap (λ t. length (cond t (start_block (cut_from false bytes)) (put_byte b (cut_from (b == LINE_FEED) bytes))).before) is

pub starts_later : (fresh : Bool) (b : ℕ) (bytes : List ℕ) → (fresh && (b == AT_SIGN)) ≡ false → length (cut_from fresh (b ∷ bytes)).before ≡ suc (length (cut_from (b == LINE_FEED) bytes).before)
starts_later fresh b bytes is = ap (λ t. length (cond t (start_block (cut_from false bytes)) (put_byte b (cut_from (b == LINE_FEED) bytes))).before) is

-- the same at a place of a text
pub starts_at : (fresh : Bool) (text : List ℕ) (at : ℕ) → at < length text → (fresh && (get_or text at 0 == AT_SIGN)) ≡ true → length (cut_from fresh (drop at text)).before ≡ 0
starts_at fresh text at inside is = rw (drop-cons text at 0 inside) (starts_here fresh (get_or text at 0) (drop (suc at) text) is)

pub starts_after : (fresh : Bool) (text : List ℕ) (at : ℕ) → at < length text → (fresh && (get_or text at 0 == AT_SIGN)) ≡ false → length (cut_from fresh (drop at text)).before ≡ 1 + length (cut_from (get_or text at 0 == LINE_FEED) (drop (at + 1) text)).before
starts_after fresh text at inside is = rw (drop-cons text at 0 inside, add-one at) (starts_later fresh (get_or text at 0) (drop (suc at) text) is ∙ omega arith)

-- of a text that begins with a block, without its first byte
first_block : (b : ℕ) (bytes : List ℕ) → (cut (b ∷ bytes)).before ≡ [] → (cut (b ∷ bytes)).blocks ≡ (cut_from false bytes).before ∷ (cut_from false bytes).blocks
first_block b bytes none = by (b == AT_SIGN) refl none
  where
    by : (t : Bool) → (b == AT_SIGN) ≡ t → (cond (true && t) (start_block (cut_from false bytes)) (put_byte b (cut_from (b == LINE_FEED) bytes))).before ≡ [] → (cut (b ∷ bytes)).blocks ≡ (cut_from false bytes).before ∷ (cut_from false bytes).blocks
    by true is none' = ap (λ whole. whole.blocks) (from_start b bytes is)
    by false is none' = cc

-- a text that begins with a block, and what stands after its first byte
pub record Begins (rest after : List ℕ) : Type 0 where
  pub text : IsUtf8 after
  pub blocks : (cut rest).blocks ≡ (cut_from false after).before ∷ (cut_from false after).blocks

pub begins : (rest : List ℕ) → 1 ≤ length rest → (cut rest).before ≡ [] → IsUtf8 rest → Begins rest (take (length rest - 1) (drop 1 rest))
begins [] some none text = absurd (omega arith)
begins (b ∷ bytes) some none text =
    let all : take (length (b ∷ bytes) - 1) bytes ≡ bytes = take_all (length (b ∷ bytes) - 1) bytes (omega arith) in
    subst (Begins (b ∷ bytes)) (sym all) (record { text = IsUtf8-after b bytes (starts_low b bytes none) text; blocks = first_block b bytes none })
