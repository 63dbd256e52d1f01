-- Texts with their ASCII letters in one case, other characters as they are: VTL 2.0 Reference Manual, `upper` and `lower`.
use Rattle.std.specs.Prelude.{ℕ, List, map}
use Rattle.std.specs.Char.{to_ascii_uppercase, to_ascii_lowercase}

abbrev pub uppercase : List ℕ → List ℕ
uppercase cs = map to_ascii_uppercase cs

abbrev pub lowercase : List ℕ → List ℕ
lowercase cs = map to_ascii_lowercase cs
