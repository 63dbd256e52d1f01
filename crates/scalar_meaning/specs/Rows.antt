-- What expressions are worked out on (docs/language.md, "Names in expressions").
use Rattle.std.specs.Prelude.{ℕ, List, ◌++◌, Option, Some, slice_get, unwrap_or}
use Rattle.vtl_values.specs.declared.value.Value.{Value}
use Rattle.vtl_values.specs.declared.value.Value.TheVariants.{Null}
use Rattle.vtl_syntax.specs.declared.words.AggregateFunction.{AggregateFunction}

-- what an expression is worked out on, a point or a group of points
pub record Row : Type 0 where
  -- the value of the component with a number; null where there is none
  pub component : ℕ → Value
  -- the value of an aggregate of the component with a number, none where it is out of range; null on a point
  pub aggregated : AggregateFunction → ℕ → Option Value
  -- how many points there are; null on a point
  pub counted : Value

-- a point with these identifiers and these other components, in structure order
abbrev pub point_row : List Value → List Value → Row
point_row key rest = record { component = λ number. unwrap_or (slice_get (key ++ rest) number) Null; aggregated = λ function number. Some Null; counted = Null }
