use Rattle.std.proofs.Common.{◌≡◌, ℕ, take, nat_eq}
use Rattle.std.specs.Prelude.{position}
use Rattle.indexmap.specs.IndexMap.{get}
use Rattle.clause_typing.proofs.parts.places_of.Given as goal

abbrev pub invariant-loop-place : goal.invariant-loop-place
invariant-loop-place l = (n : ℕ) → get nat_eq l.places n ≡ position (nat_eq n) (take l.place l.numbers)
