-- How deep a part is that may be left out.
use Rattle.std.proofs.Common.{ℕ, Option, None, Some}

abbrev pub if_some : {A : Type 0} → (A → ℕ) → Option A → ℕ
if_some f None = 0
if_some f (Some x) = f x
