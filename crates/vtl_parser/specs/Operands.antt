-- Operands with commas before all but the first.
use Rattle.std.specs.Prelude.{List, map}
use Rattle.vtl_values.specs.declared.place.Place.{Place}
use Rattle.vtl_cursor.specs.Lists.{after}

-- the first apart from the others
abbrev pub first_and_others_of : {A B : Type 0} → (A → B) → A × List (Place × A) → B × List B
first_and_others_of of v = (of v.0, map (after of) v.1)
