-- Texts without the blanks around them: VTL 2.0 Reference Manual, `trim`, `ltrim` and `rtrim`. A text is the list of its characters.
use Rattle.std.specs.Prelude.{◌≡◌, ◌≢◌, ℕ, ◌-◌, ◌==◌, Bool, List, [], ◌∷◌, ◌++◌, length, take, drop, replicate}
use Rattle.std.specs.List.{prefix_len, suffix_len}

-- a blank is U+0020, and no other white space
abbrev pub is_blank : ℕ → Bool
is_blank c = c == 32

-- the text without the blanks at its left end, at its right end, and at both
abbrev pub ltrimmed : List ℕ → List ℕ
ltrimmed cs = drop (prefix_len is_blank cs) cs

abbrev pub rtrimmed : List ℕ → List ℕ
rtrimmed cs = take (length cs - suffix_len is_blank cs) cs

abbrev pub trimmed : List ℕ → List ℕ
trimmed cs = rtrimmed (ltrimmed cs)

-- the text begins with no blank; it ends with none
abbrev pub BeginsWithNoBlank : List ℕ → Type 0
BeginsWithNoBlank cs = (rest : List ℕ) → cs ≢ 32 ∷ rest

abbrev pub EndsWithNoBlank : List ℕ → Type 0
EndsWithNoBlank cs = (front : List ℕ) → cs ≢ front ++ (32 ∷ [])

-- blanks alone were left out at the left end, and none is left there
abbrev pub IsLeftTrimmed : List ℕ → List ℕ → Type 0
IsLeftTrimmed cs middle = ((before : ℕ) × (cs ≡ replicate before 32 ++ middle)) × BeginsWithNoBlank middle

-- the same of the right end
abbrev pub IsRightTrimmed : List ℕ → List ℕ → Type 0
IsRightTrimmed cs middle = ((after : ℕ) × (cs ≡ middle ++ replicate after 32)) × EndsWithNoBlank middle

-- the same of both
abbrev pub IsTrimmed : List ℕ → List ℕ → Type 0
IsTrimmed cs middle =
    ((before : ℕ) × (after : ℕ) × (cs ≡ replicate before 32 ++ (middle ++ replicate after 32)))
    × BeginsWithNoBlank middle × EndsWithNoBlank middle
