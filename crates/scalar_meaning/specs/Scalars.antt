-- What a checked scalar expression means (docs/language.md, "Scalar operators").
use Rattle.std.specs.Prelude.{Option, Some, None, if◌then◌else◌}
use Rattle.std.specs.Option.{option_map, option_and_then}
use Rattle.vtl_values.specs.declared.value.Value.{Value}
use Rattle.scalar_trees.specs.declared.tree.CheckedExpr.{CheckedExpr, fold-CheckedExpr}
use Rattle.scalar_trees.specs.declared.tree.CheckedExpr.TheOpen.{CheckedExpr-F}
use Rattle.scalar_trees.specs.Kinds.{number_value}
use Rattle.scalar_meaning.specs.Numbers.{rounded}
use Rattle.scalar_meaning.specs.Comparisons.{is_null, between, membership}
use Rattle.scalar_meaning.specs.Logic.{holds}
use Rattle.scalar_meaning.specs.Texts.{part_of, replacing, matching}
use Rattle.scalar_meaning.specs.Operators.{unary_value, binary_value}
use Rattle.scalar_meaning.specs.Rows.{Row}

infixl 10 ◌>>=◌
-- what comes after a value; out of range stays so
abbrev pub ◌>>=◌ : {A B : Type 0} → Option A → (A → Option B) → Option B
o >>= f = option_and_then f o

-- an operand that may be left out: its value where it is given
abbrev pub if_given : Option (Option Value) → Option (Option Value)
if_given None = Some None
if_given (Some operand) = option_map Some operand

-- One level, whose operands have their values. Where one that counts is out of range, so is the whole; of `nvl` and `if`
-- only the side that is chosen counts.
abbrev pub meaning_step : Row → CheckedExpr-F (Option Value) → Option Value
meaning_step row (CheckedExpr-F.Literal v) = Some v
meaning_step row (CheckedExpr-F.Component number) = Some (row.component number)
meaning_step row (CheckedExpr-F.Widened a) = option_map number_value a
meaning_step row (CheckedExpr-F.Unary operator a) = a >>= unary_value operator
meaning_step row (CheckedExpr-F.Binary operator a b) = a >>= λ x. b >>= binary_value operator x
meaning_step row (CheckedExpr-F.Nvl a b) = a >>= λ x. if is_null x then b else Some x
meaning_step row (CheckedExpr-F.If c a b) = c >>= λ x. if holds x then a else b
meaning_step row (CheckedExpr-F.In a sign set) = option_map (membership sign set) a
meaning_step row (CheckedExpr-F.Between a low high) = option_map (λ x. between x low high) a
meaning_step row (CheckedExpr-F.Round function a digits) = option_map (rounded function digits) a
meaning_step row (CheckedExpr-F.Substr a start count) = a >>= λ x. if_given start >>= λ s. option_map (part_of x s) (if_given count)
meaning_step row (CheckedExpr-F.Replace a old new) = a >>= λ x. old >>= λ o. option_map (replacing x o) (if_given new)
meaning_step row (CheckedExpr-F.Matches a pattern) = option_map (matching pattern) a
meaning_step row (CheckedExpr-F.OfSort sort a) = a
meaning_step row (CheckedExpr-F.Aggregate function number) = row.aggregated function number
meaning_step row CheckedExpr-F.CountAll = Some row.counted

-- the value of an expression on a row, or none where it is out of range
abbrev pub meaning : Row → CheckedExpr → Option Value
meaning row = fold-CheckedExpr (Option Value) (meaning_step row)
