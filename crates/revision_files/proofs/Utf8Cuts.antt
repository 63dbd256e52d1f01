-- Texts that are cut at bytes of ASCII.
use Rattle.std.proofs.Common.{◌≡◌, ℕ, ◌<◌, ◌≤◌, ◌+◌, ◌-◌, List, [], ◌∷◌, ◌++◌, length, take, drop, get_or, refl, sym, subst, ap, ◌∙◌, arith}
use Rattle.std.specs.Str.{IsUtf8, IsCharBoundary}
use Rattle.std.proofs.lemmas.Str.{IsUtf8-take, IsUtf8-drop, IsCharBoundary-after_ascii}
use Rattle.std.proofs.lemmas.List.{get_or-append_right, length-append, take-append-le, take_all}

-- what stands after a byte of ASCII
pub IsUtf8-after : (b : ℕ) (bytes : List ℕ) → b < 128 → IsUtf8 (b ∷ bytes) → IsUtf8 bytes
IsUtf8-after b bytes low text = IsUtf8-drop (b ∷ bytes) 1 text (IsCharBoundary-after_ascii (b ∷ bytes) 0 text (omega arith) low)

-- what stands before a byte of ASCII or the end, and what stands from there on
pub IsUtf8-cut : (text : List ℕ) (n : ℕ) → n ≤ length text → (n < length text → get_or text n 0 < 128) → IsUtf8 text → IsUtf8 (take n text) × IsUtf8 (drop n text)
IsUtf8-cut text n within low utf8 =
    let at : IsCharBoundary text n = (within, λ inside high. absurd (let below = low inside in omega (arith, below))) in
    (IsUtf8-take text n utf8 at, IsUtf8-drop text n utf8 at)

-- what stands before a last byte of ASCII
pub IsUtf8-before_last : (front : List ℕ) (b : ℕ) → b < 128 → IsUtf8 (front ++ b ∷ []) → IsUtf8 front
IsUtf8-before_last front b low utf8 =
    let whole : List ℕ = front ++ b ∷ [] in
    let size : length whole ≡ length front + 1 = length-append front (b ∷ []) in
    let first : length front - length front ≡ 0 = omega arith in
    let here : get_or whole (length front) 0 ≡ b = get_or-append_right front (b ∷ []) (length front) (length front) 0 refl (omega arith) ∙ ap (λ n. get_or (b ∷ []) n 0) first in
    subst IsUtf8 (take-append-le (length front) front (b ∷ []) (omega arith) ∙ take_all (length front) front (omega arith)) (IsUtf8-cut whole (length front) (omega arith) (λ inside. omega arith) utf8).0
