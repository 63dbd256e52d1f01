-- What `exists_in` tells of a point of its first operand.
use Rattle.std.specs.Prelude.{ℕ, Bool, ◌++◌, List, ◌∷◌, Option, option_and_then}
use Rattle.std.specs.Bool.{then_some}
use Rattle.vtl_values.specs.declared.value.Value.{Value}
use Rattle.vtl_values.specs.declared.value.Value.TheVariants.{Truth}
use Rattle.vtl_syntax.specs.declared.words.ExistsRows.{ExistsRows}
use Rattle.clause_meaning.specs.Clauses.{values_at}
use Rattle.operator_meaning.specs.exists.Exists.{stays}

-- whether the point is met, and its values with these numbers
abbrev pub told_values : List ℕ → Bool → List Value → List Value → List Value
told_values virals met key rest = Truth met ∷ values_at virals (key ++ rest)

-- of the point that may be there, if these rows stay
abbrev pub told_of : ExistsRows → List ℕ → Bool → List Value → Option (List Value) → Option (List Value)
told_of rows virals met key point = option_and_then (λ rest. then_some (stays rows met) (told_values virals met key rest)) point
