-- Which operator a sign or a word stands for, and which kinds a sort takes.
use Rattle.vtl_syntax.specs.declared.words.Prefix.{Prefix}
use Rattle.vtl_syntax.specs.declared.words.Prefix.TheVariants as prefix
use Rattle.vtl_syntax.specs.declared.words.OrSign.{OrSign}
use Rattle.vtl_syntax.specs.declared.words.OrSign.TheVariants as disjunction
use Rattle.vtl_syntax.specs.declared.words.SumSign.{SumSign}
use Rattle.vtl_syntax.specs.declared.words.SumSign.TheVariants as sum
use Rattle.vtl_syntax.specs.declared.words.ProductSign.{ProductSign}
use Rattle.vtl_syntax.specs.declared.words.ProductSign.TheVariants as product
use Rattle.vtl_syntax.specs.declared.words.Comparison.{Comparison}
use Rattle.vtl_syntax.specs.declared.words.Comparison.TheVariants as comparison
use Rattle.vtl_syntax.specs.declared.words.UnaryFunction.{UnaryFunction}
use Rattle.vtl_syntax.specs.declared.words.UnaryFunction.TheVariants as function
use Rattle.scalar_trees.specs.declared.operators.UnaryOperator.{UnaryOperator}
use Rattle.scalar_trees.specs.declared.operators.UnaryOperator.TheVariants as unary
use Rattle.scalar_trees.specs.declared.operators.BinaryOperator.{BinaryOperator}
use Rattle.scalar_trees.specs.declared.operators.BinaryOperator.TheVariants as binary

abbrev pub prefix_operator : Prefix → UnaryOperator
prefix_operator prefix.Plus = unary.Plus
prefix_operator prefix.Minus = unary.Minus
prefix_operator prefix.Not = unary.Not

abbrev pub unary_operator : UnaryFunction → UnaryOperator
unary_operator function.Abs = unary.Abs
unary_operator function.Ceil = unary.Ceil
unary_operator function.Floor = unary.Floor
unary_operator function.Trim = unary.Trim
unary_operator function.Ltrim = unary.Ltrim
unary_operator function.Rtrim = unary.Rtrim
unary_operator function.Upper = unary.Upper
unary_operator function.Lower = unary.Lower
unary_operator function.Length = unary.Length
unary_operator function.Isnull = unary.Isnull

abbrev pub or_operator : OrSign → BinaryOperator
or_operator disjunction.Or = binary.Or
or_operator disjunction.Xor = binary.Xor

abbrev pub sum_operator : SumSign → BinaryOperator
sum_operator sum.Plus = binary.Plus
sum_operator sum.Minus = binary.Minus
sum_operator sum.Join = binary.Join

abbrev pub product_operator : ProductSign → BinaryOperator
product_operator product.Times = binary.Times
product_operator product.Over = binary.Over

abbrev pub comparison_operator : Comparison → BinaryOperator
comparison_operator comparison.Equal = binary.Equal
comparison_operator comparison.NotEqual = binary.NotEqual
comparison_operator comparison.Less = binary.Less
comparison_operator comparison.Greater = binary.Greater
comparison_operator comparison.AtMost = binary.AtMost
comparison_operator comparison.AtLeast = binary.AtLeast
