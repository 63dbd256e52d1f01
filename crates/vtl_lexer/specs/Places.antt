-- Places in a text (docs/language.md, "Tokens").
use Rattle.std.specs.Prelude.{ℕ, ◌+◌, ◌==◌, if◌then◌else◌, List, [], ◌∷◌}
use Rattle.vtl_values.specs.declared.place.Place.{Place}
use Rattle.vtl_lexer.specs.Starts.{LINE_END}

abbrev pub place_at : ℕ → ℕ → Place
place_at line column = record { line = line; column = column }

-- after a line end a line begins; after another byte comes the next column
abbrev pub place_behind : Place → ℕ → Place
place_behind place b = if b == LINE_END then place_at (place.line + 1) 1 else place_at place.line (place.column + 1)

-- the place after these bytes
abbrev pub place_after : Place → List ℕ → Place
place_after place [] = place
place_after place (b ∷ bs) = place_after (place_behind place b) bs
