-- How places count: byte by byte from the last.
use Rattle.std.proofs.Common.{◌≡◌, ◌==◌, ℕ, ◌+◌, Bool, true, false, List, [], ◌∷◌, ◌++◌, reverse, refl, ap, ◌∙◌, arith}
use Rattle.std.proofs.lemmas.List.{reverse-append, reverse-reverse}
use Rattle.std.proofs.lemmas.List.Sums.{sum_by-append, sum_by-cons}
use Rattle.std.specs.List.{count_by, position_or_len}
use Rattle.vtl_values.specs.declared.place.Place.{Place}
use Rattle.vtl_lexer.specs.Starts.{LINE_END}
use Rattle.vtl_lexer.specs.Scans.{is_line_end}
use Rattle.vtl_lexer.specs.Places.{place_at, place_behind, place_after}
use Rattle.vtl_lexer.specs.Laws.{CountsPlaces}

place_after-append : (p : Place) (bs cs : List ℕ) → place_after p (bs ++ cs) ≡ place_after (place_after p bs) cs
place_after-append p [] cs = refl
place_after-append p (b ∷ bs) cs = place_after-append (place_behind p b) bs cs

-- a place after which so many line ends and bytes were passed
abbrev counted : List ℕ → Place
counted rs = place_at (1 + count_by is_line_end rs) (1 + position_or_len is_line_end rs)

one_more : (b : ℕ) (rs : List ℕ) → place_behind (counted rs) b ≡ counted (b ∷ rs)
one_more b rs = by_test (b == LINE_END) refl
  where
    by_test : (c : Bool) → (b == LINE_END) ≡ c → place_behind (counted rs) b ≡ counted (b ∷ rs)
    by_test true e =
        let n : count_by is_line_end (b ∷ rs) ≡ 1 + count_by is_line_end rs = sum_by-cons _ b rs ∙ rw e refl in
        rw (n, e) (ap (λ (m : ℕ). place_at m 1) (omega arith))
    by_test false e =
        let n : count_by is_line_end (b ∷ rs) ≡ count_by is_line_end rs = sum_by-cons _ b rs ∙ rw e (omega arith) in
        rw (n, e) (ap (λ (m : ℕ). place_at (1 + count_by is_line_end rs) m) (omega arith))

-- from the last byte on
from_last : (rs : List ℕ) → place_after (place_at 1 1) (reverse rs) ≡ counted rs
from_last [] = refl
from_last (b ∷ rs) =
    let parts : reverse (b ∷ rs) ≡ reverse rs ++ b ∷ [] = reverse-append (b ∷ []) rs in
    rw parts (place_after-append (place_at 1 1) (reverse rs) (b ∷ []) ∙ ap (λ (p : Place). place_behind p b) (from_last rs) ∙ one_more b rs)

-- the line ends are as many from either end
count-append : (xs ys : List ℕ) → count_by is_line_end (xs ++ ys) ≡ count_by is_line_end xs + count_by is_line_end ys
count-append xs ys = sum_by-append _ xs ys

count-reverse : (xs : List ℕ) → count_by is_line_end (reverse xs) ≡ count_by is_line_end xs
count-reverse [] = refl
count-reverse (x ∷ xs) =
    let parts : reverse (x ∷ xs) ≡ reverse xs ++ x ∷ [] = reverse-append (x ∷ []) xs in
    let sum = count-append (reverse xs) (x ∷ []) in
    let whole = count-append (x ∷ []) xs in
    rw parts (omega (arith, sum, whole, count-reverse xs))

pub counts : CountsPlaces
counts before =
    let from = from_last (reverse before) in
    let back : reverse (reverse before) ≡ before = reverse-reverse before in
    let ends : count_by is_line_end (reverse before) ≡ count_by is_line_end before = count-reverse before in
    (rw back at from) ∙ rw ends refl
