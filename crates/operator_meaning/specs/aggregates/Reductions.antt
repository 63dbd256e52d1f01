-- What an aggregate makes of the values of a component over a group (VTL 2.0 Reference Manual, aggregate operators;
-- docs/language.md, "Aggregates"). Nulls are passed over.
use Rattle.std.specs.Prelude.{ℕ, ℤ, pos, ◌+ℤ◌, ◌-◌, ◌/◌, Bool, not, ◌&&◌, List, [], ◌∷◌, map, filter, find, length, count_by, nat_le, nat_lt, Option, Some, unwrap_or}
use Rattle.std.specs.Option.{option_map}
use Rattle.std.specs.List.{list_all}
use Rattle.std.specs.Ordering.{is_lt, is_le}
use Rattle.vtl_values.specs.declared.value.Value.{Value}
use Rattle.vtl_values.specs.declared.value.Value.TheVariants.{Null, Integer, Number}
use Rattle.vtl_values.specs.Order.{value_cmp}
use Rattle.vtl_syntax.specs.declared.words.AggregateFunction.{AggregateFunction}
use Rattle.vtl_syntax.specs.declared.words.AggregateFunction.TheVariants.{Sum, Avg, Count, Min, Max, Median}
use Rattle.vtl_decimals.specs.Arithmetic.{number_of, mean_of}
use Rattle.scalar_trees.specs.Kinds.{number_value}
use Rattle.scalar_meaning.specs.Comparisons.{is_null}
use Rattle.scalar_meaning.specs.Numbers.{integer_of}

-- the values that aren't null
abbrev pub present : List Value → List Value
present = filter (λ v. not (is_null v))

-- ---- sum and avg

-- an integer, or the millionths of a number
abbrev pub amount : Value → ℤ
amount (Integer n) = n
amount (Number n) = n
amount _ = pos 0

abbrev pub exact_sum : List Value → ℤ
exact_sum [] = pos 0
exact_sum (v ∷ vs) = amount v +ℤ exact_sum vs

-- exact, and tested for range once; of integers it is an integer, of numbers a number
abbrev pub sum : List Value → Option Value
sum (Integer n ∷ vs) = option_map Integer (integer_of (exact_sum (Integer n ∷ vs)))
sum (Number n ∷ vs) = option_map Number (number_of (exact_sum (Number n ∷ vs)))
sum _ = Some Null

-- the exact mean, rounded once
abbrev pub average : List Value → Value
average [] = Null
average values = Number (mean_of (exact_sum (map number_value values)) (length values))

-- ---- min, max and median

-- the first of the values that passes; null where there is none
abbrev pub first : (Value → Bool) → List Value → Value
first passes values = unwrap_or (find passes values) Null

-- none of the values is less
abbrev pub least : List Value → Value
least values = first (λ v. list_all (λ w. is_le (value_cmp v w)) values) values

-- none is greater
abbrev pub greatest : List Value → Value
greatest values = first (λ v. list_all (λ w. is_le (value_cmp w v)) values) values

-- in ascending order it stands at this place, from 0: no more than so many are less, and more are at most as great
abbrev pub stands_at : ℕ → List Value → Value → Bool
stands_at place values v = nat_le (count_by (λ w. is_lt (value_cmp w v)) values) place && nat_lt place (count_by (λ w. is_le (value_cmp w v)) values)

-- the amount at a place in ascending order
abbrev pub amount_at : ℕ → List Value → ℤ
amount_at place values = amount (first (stands_at place values) values)

-- the mean of the two in the middle, which of an odd number are the same one, rounded once
abbrev pub middle : List Value → ℤ
middle values = mean_of (amount_at ((length values - 1) / 2) values +ℤ amount_at (length values / 2) values) 2

abbrev pub median : List Value → Value
median [] = Null
median values = Number (middle (map number_value values))

-- ---- an aggregate

-- of values that aren't null
abbrev pub of_present : AggregateFunction → List Value → Option Value
of_present Sum values = sum values
of_present Avg values = Some (average values)
of_present Count values = Some (Integer (pos (length values)))
of_present Min values = Some (least values)
of_present Max values = Some (greatest values)
of_present Median values = Some (median values)

-- none where it is out of range
abbrev pub reduced : AggregateFunction → List Value → Option Value
reduced f values = of_present f (present values)
