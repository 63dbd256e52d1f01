-- Code lists as they grow.
use Rattle.std.specs.Prelude.{◌≡◌, ◌≢◌, ℕ, List, AllPairs}
use Rattle.std.specs.List.{list_any}
use Rattle.std.specs.HashSet.{HashSet, contains_by}
use Rattle.vtl_values.specs.Texts.{same_text}

-- the set holds the codes of the list and no others, and the list has each once
pub record AreKnown {S : Type 0} (codes : List (List ℕ)) (known : HashSet (List ℕ) S) : Type 0 where
  pub held : (text : List ℕ) → contains_by (same_text text) known ≡ list_any (same_text text) codes
  pub differ : AllPairs (λ a b. a ≢ b) codes
