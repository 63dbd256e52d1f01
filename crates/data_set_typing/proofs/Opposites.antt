-- Measures at one place in two lists.
use Rattle.std.proofs.Common.{◌≡◌, ◌∙◌, ℕ, Bool, true, false, List, Option, Some, None, refl, ap}
use Rattle.std.specs.List.{list_any, slice_get}
use Rattle.std.specs.Option.{option_map_or}
use Rattle.std.proofs.lemmas.Option.{slice_get_within, get_or_from_slice_get}
use Rattle.std.proofs.lemmas.List.Folds.{list_any_at}

found_at : {X : Type 0} (p : X → Bool) (xs : List X) (i : ℕ) (there : Option X) → slice_get xs i ≡ there → option_map_or p there false ≡ true → list_any p xs ≡ true
found_at p xs i (Some x) is holds = list_any_at p xs i x (slice_get_within xs i x is) (ap p (get_or_from_slice_get xs i x x is) ∙ holds)
found_at p xs i None is holds = absurd (cc holds)

-- what one of them passes at its place, one of them passes
pub any_by_place : {X : Type 0} (p : X → Bool) (xs : List X) (i : ℕ) → option_map_or p (slice_get xs i) false ≡ true → list_any p xs ≡ true
any_by_place p xs i holds = found_at p xs i (slice_get xs i) refl holds
