-- What operators of one operand and of two give (docs/language.md, "Scalar operators"): none is out of range.
use Rattle.std.specs.Prelude.{Option, Some}
use Rattle.std.specs.Ordering.{is_eq, is_ne, is_lt, is_gt, is_le, is_ge}
use Rattle.vtl_values.specs.declared.value.Value.{Value}
use Rattle.vtl_values.specs.declared.value.Value.TheVariants.{Truth}
use Rattle.scalar_texts.specs.Blanks.{trimmed, ltrimmed, rtrimmed}
use Rattle.scalar_texts.specs.Letters.{uppercase, lowercase}
use Rattle.scalar_trees.specs.declared.operators.UnaryOperator.{UnaryOperator}
use Rattle.scalar_trees.specs.declared.operators.UnaryOperator.TheVariants as unary
use Rattle.scalar_trees.specs.declared.operators.BinaryOperator.{BinaryOperator}
use Rattle.scalar_trees.specs.declared.operators.BinaryOperator.TheVariants as binary
use Rattle.scalar_meaning.specs.Numbers.{plus, minus, absolute, sum, difference, product, quotient, modulus, ceiling, floor}
use Rattle.scalar_meaning.specs.Comparisons.{is_null, compared}
use Rattle.scalar_meaning.specs.Logic.{truth_of, truth_value, both, either, exactly_one, opposite, on_truths}
use Rattle.scalar_meaning.specs.Texts.{of_text, joined, characters, place_in}

abbrev pub unary_value : UnaryOperator → Value → Option Value
unary_value unary.Plus v = Some (plus v)
unary_value unary.Minus v = Some (minus v)
unary_value unary.Not v = Some (truth_value (opposite (truth_of v)))
unary_value unary.Abs v = Some (absolute v)
unary_value unary.Ceil v = Some (ceiling v)
unary_value unary.Floor v = Some (floor v)
unary_value unary.Trim v = Some (of_text trimmed v)
unary_value unary.Ltrim v = Some (of_text ltrimmed v)
unary_value unary.Rtrim v = Some (of_text rtrimmed v)
unary_value unary.Upper v = Some (of_text uppercase v)
unary_value unary.Lower v = Some (of_text lowercase v)
unary_value unary.Length v = characters v
unary_value unary.Isnull v = Some (Truth (is_null v))

abbrev pub binary_value : BinaryOperator → Value → Value → Option Value
binary_value binary.Plus a b = sum a b
binary_value binary.Minus a b = difference a b
binary_value binary.Times a b = product a b
binary_value binary.Over a b = quotient a b
binary_value binary.Mod a b = Some (modulus a b)
binary_value binary.Join a b = Some (joined a b)
binary_value binary.Instr a b = place_in a b
binary_value binary.And a b = Some (on_truths both a b)
binary_value binary.Or a b = Some (on_truths either a b)
binary_value binary.Xor a b = Some (on_truths exactly_one a b)
binary_value binary.Equal a b = Some (compared is_eq a b)
binary_value binary.NotEqual a b = Some (compared is_ne a b)
binary_value binary.Less a b = Some (compared is_lt a b)
binary_value binary.Greater a b = Some (compared is_gt a b)
binary_value binary.AtMost a b = Some (compared is_le a b)
binary_value binary.AtLeast a b = Some (compared is_ge a b)
