-- What a shelf is seen as, and what is said of a read.
use Rattle.std.specs.Prelude.{◌≡◌, ℕ, List, Option, Some, Result, Ok, Err}
use Rattle.outside.specs.declared.shelf.ShelfStop.{ShelfStop}
use Rattle.outside.specs.declared.shelf.ShelfStop.TheVariants.{Failed, TooLong, Memory}

-- the bytes under each name
abbrev pub Files : Type 0
Files = List ℕ → Option (List ℕ)

pub record ShelfView : Type 0 where
  -- the bytes under each name, where the shelf tells them
  pub files : Option Files
  -- how many reads failed
  pub faults : ℕ
  -- the name of the last read that failed
  pub last : List ℕ
  -- the length that the last read told as too long, and 0 after any other answer
  pub kept : ℕ

-- so it is, where the bytes are told
abbrev pub Told : Option Files → (Files → Type 0) → Type 0
Told told P = (files : Files) → told ≡ Some files → P files

-- a fact of the length that is told as too long
abbrev pub IfTooLong : (ℕ → Type 0) → ShelfStop → Type 0
IfTooLong P (TooLong n) = P n
IfTooLong P Failed = Unit {0}
IfTooLong P Memory = Unit {0}

-- the length that a read tells as too long, and else 0
abbrev pub kept_of : {A : Type 0} → Result A ShelfStop → ℕ
kept_of (Err (TooLong n)) = n
kept_of (Err Failed) = 0
kept_of (Err Memory) = 0
kept_of (Ok bytes) = 0

-- the name of the last failed read, after a read of this name
abbrev pub last_of : {A : Type 0} → Result A ShelfStop → List ℕ → List ℕ → List ℕ
last_of (Err Failed) name last = name
last_of (Err (TooLong n)) name last = last
last_of (Err Memory) name last = last
last_of (Ok bytes) name last = last
