-- The size of what may be left out.
use Rattle.std.specs.Prelude.{ℕ, Option, Some, None}

abbrev pub if_some : {A : Type 0} → (A → ℕ) → Option A → ℕ
if_some f None = 0
if_some f (Some x) = f x
