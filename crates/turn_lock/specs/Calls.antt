-- Journals, and the entries of one number.
use Rattle.std.specs.Prelude.{◌≡◌, ◌==◌, ℕ, List, ◌++◌, length, nat_lt, if◌then◌else◌, filter}

-- numbers go from 0 to this one
abbrev pub last_number : ℕ
last_number = 1000000000

-- the journal begins with the list
abbrev pub StartsWith : {E : Type 0} → List E → List E → Type 0
StartsWith {E} journal seen = (rest : List E) × (journal ≡ seen ++ rest)

-- the own calls of a number: the entries that carry it, in order
abbrev pub own_calls : {E : Type 0} → (E → ℕ) → ℕ → List E → List E
own_calls caller_of n journal = filter (λ e. caller_of e == n) journal

-- of two lists the longer and the shorter, where they are equally long the first and the second
abbrev pub longer : {E : Type 0} → List E → List E → List E
longer a b = if nat_lt (length a) (length b) then b else a

abbrev pub shorter : {E : Type 0} → List E → List E → List E
shorter a b = if nat_lt (length a) (length b) then a else b
