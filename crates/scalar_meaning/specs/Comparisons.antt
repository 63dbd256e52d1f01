-- What comparisons of values give (docs/language.md, "Values" and "Scalar operators").
use Rattle.std.specs.Prelude.{Bool, true, false, not, ◌&&◌, ◌||◌, List, Option, Some, None, if◌then◌else◌}
use Rattle.std.specs.Option.{option_map}
use Rattle.std.specs.List.{list_any}
use Rattle.std.specs.declared.cmp.Ordering.{Ordering}
use Rattle.std.specs.Ordering.{is_eq, is_le}
use Rattle.vtl_values.specs.declared.value.Value.{Value}
use Rattle.vtl_values.specs.declared.value.Value.TheVariants.{Null, Truth}
use Rattle.vtl_values.specs.Order.{value_cmp}
use Rattle.vtl_syntax.specs.declared.words.InSign.{InSign}
use Rattle.vtl_syntax.specs.declared.words.InSign.TheVariants.{In, NotIn}
use Rattle.scalar_meaning.specs.Logic.{truth_value}

abbrev pub is_null : Value → Bool
is_null Null = true
is_null _ = false

-- the order of two values; none where one is null
abbrev pub order_of : Value → Value → Option Ordering
order_of a b = if is_null a || is_null b then None else Some (value_cmp a b)

-- whether the order of two values passes a test; null where one is null
abbrev pub compared : (Ordering → Bool) → Value → Value → Value
compared test a b = truth_value (option_map test (order_of a b))

abbrev pub are_both : (Ordering → Bool) → Option Ordering → Option Ordering → Option Bool
are_both test (Some a) (Some b) = Some (test a && test b)
are_both test _ _ = None

-- VTL 2.0 Reference Manual, between: low <= v and v <= high; null where one of the three is null
abbrev pub between : Value → Value → Value → Value
between v low high = truth_value (are_both is_le (order_of low v) (order_of v high))

abbrev pub is_member : List Value → Value → Bool
is_member set v = list_any (λ item. is_eq (value_cmp v item)) set

-- `in`, or `not_in`, of whether a value is a member
abbrev pub under_sign : InSign → Bool → Bool
under_sign In b = b
under_sign NotIn b = not b

-- VTL 2.0 Reference Manual, in and not_in: whether a value is in the set; null for null
abbrev pub membership : InSign → List Value → Value → Value
membership sign set v = if is_null v then Null else Truth (under_sign sign (is_member set v))
