-- Steps, each of which may fail; the first that fails ends what they make.
use Rattle.std.specs.Prelude.{Result, Ok, Err}

-- a step, and then the next one with what it gave
infixl 10 ◌>>=◌
abbrev pub ◌>>=◌ : {A B E : Type 0} → Result A E → (A → Result B E) → Result B E
(Ok value) >>= next = next value
(Err why) >>= next = Err why
