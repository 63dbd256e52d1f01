-- The order of values and of keys (docs/language.md, "Values").
use Rattle.std.specs.Prelude.{ℤ, pos, List, [], ◌∷◌, map, if◌then◌else◌}
use Rattle.std.specs.declared.cmp.Ordering.{Ordering}
use Rattle.std.specs.Ordering.{int_cmp}
use Rattle.std.specs.Cmp.Lexicographic.{slice_cmp}
use Rattle.vtl_values.specs.declared.value.Value.{Value}
use Rattle.vtl_values.specs.declared.value.Value.TheVariants.{Null, Truth, Integer, Number, Text}

-- the rank of a value's kind, and then its content
abbrev pub ranked : Value → List ℤ
ranked Null = pos 0 ∷ []
ranked (Truth b) = pos 1 ∷ (if b then pos 1 else pos 0) ∷ []
ranked (Integer n) = pos 2 ∷ n ∷ []
ranked (Number d) = pos 3 ∷ d ∷ []
ranked (Text cs) = pos 4 ∷ map pos cs

-- null, truth values (false first), integers, numbers, texts by their characters
abbrev pub value_cmp : Value → Value → Ordering
value_cmp a b = slice_cmp int_cmp (ranked a) (ranked b)

-- a key's order is that of its values, from the first on
abbrev pub key_cmp : List Value → List Value → Ordering
key_cmp = slice_cmp value_cmp
