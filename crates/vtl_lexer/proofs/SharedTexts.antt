-- Names that share a text.
use Rattle.std.proofs.Common.{◌≡◌, ℕ, true, List, sym, nat_eq}
use Rattle.std.specs.Cmp.Lexicographic.{pointwise, same_text}

-- what the test finds is the name itself
pub is_same : (name known : List ℕ) → pointwise nat_eq name known ≡ true → known ≡ name
is_same name known found = sym (same_text name known (sym found))
