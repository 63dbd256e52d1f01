-- The token that writes a choice between words or signs.
use Rattle.vtl_tokens.specs.declared.keyword.Keyword.{Keyword}
use Rattle.vtl_tokens.specs.declared.keyword.Keyword.TheVariants as w
use Rattle.vtl_tokens.specs.declared.sign.Sign.{Sign as TokenSign}
use Rattle.vtl_tokens.specs.declared.sign.Sign.TheVariants as s
use Rattle.vtl_tokens.specs.declared.token.TokenKind.{TokenKind}
use Rattle.vtl_tokens.specs.declared.token.TokenKind.TheVariants.{Reserved, Sign as OfSign}
use Rattle.vtl_grammar.specs.Marks.{kind_of}
use Rattle.vtl_grammar.specs.Words.{Words}
use Rattle.vtl_syntax.specs.declared.words.OrSign.{OrSign}
use Rattle.vtl_syntax.specs.declared.words.OrSign.TheVariants as or_sign
use Rattle.vtl_syntax.specs.declared.words.Comparison.{Comparison}
use Rattle.vtl_syntax.specs.declared.words.Comparison.TheVariants as comparison
use Rattle.vtl_syntax.specs.declared.words.InSign.{InSign}
use Rattle.vtl_syntax.specs.declared.words.InSign.TheVariants as in_sign
use Rattle.vtl_syntax.specs.declared.words.SumSign.{SumSign}
use Rattle.vtl_syntax.specs.declared.words.SumSign.TheVariants as sum_sign
use Rattle.vtl_syntax.specs.declared.words.ProductSign.{ProductSign}
use Rattle.vtl_syntax.specs.declared.words.ProductSign.TheVariants as product_sign
use Rattle.vtl_syntax.specs.declared.words.Prefix.{Prefix}
use Rattle.vtl_syntax.specs.declared.words.Prefix.TheVariants as prefix
use Rattle.vtl_syntax.specs.declared.words.UnaryFunction.{UnaryFunction}
use Rattle.vtl_syntax.specs.declared.words.UnaryFunction.TheVariants as unary_function
use Rattle.vtl_syntax.specs.declared.words.RoundFunction.{RoundFunction}
use Rattle.vtl_syntax.specs.declared.words.RoundFunction.TheVariants as round_function
use Rattle.vtl_syntax.specs.declared.words.BinaryFunction.{BinaryFunction}
use Rattle.vtl_syntax.specs.declared.words.BinaryFunction.TheVariants as binary_function
use Rattle.vtl_syntax.specs.declared.words.SetFunction.{SetFunction}
use Rattle.vtl_syntax.specs.declared.words.SetFunction.TheVariants as set_function
use Rattle.vtl_syntax.specs.declared.words.DifferenceFunction.{DifferenceFunction}
use Rattle.vtl_syntax.specs.declared.words.DifferenceFunction.TheVariants as difference_function
use Rattle.vtl_syntax.specs.declared.words.JoinFunction.{JoinFunction}
use Rattle.vtl_syntax.specs.declared.words.JoinFunction.TheVariants as join_function
use Rattle.vtl_syntax.specs.declared.words.AggregateFunction.{AggregateFunction}
use Rattle.vtl_syntax.specs.declared.words.AggregateFunction.TheVariants as aggregate_function
use Rattle.vtl_syntax.specs.declared.words.WindowFunction.{WindowFunction}
use Rattle.vtl_syntax.specs.declared.words.WindowFunction.TheVariants as window_function
use Rattle.vtl_syntax.specs.declared.words.OffsetFunction.{OffsetFunction}
use Rattle.vtl_syntax.specs.declared.words.OffsetFunction.TheVariants as offset_function
use Rattle.vtl_syntax.specs.declared.words.TimeFunction.{TimeFunction}
use Rattle.vtl_syntax.specs.declared.words.TimeFunction.TheVariants as time_function

-- the token that writes a choice of that table
abbrev pub written : {A : Type 0} → Words A → A → TokenKind
written w x = kind_of (w.marked x)

-- ---- words and signs with which forms begin or go on

-- a reserved word
abbrev pub key : Keyword → TokenKind
key k = Reserved k

-- a sign
abbrev pub sig : TokenSign → TokenKind
sig k = OfSign k

abbrev pub or_kind : OrSign → TokenKind
or_kind or_sign.Or = key w.Or
or_kind or_sign.Xor = key w.Xor

abbrev pub comparison_kind : Comparison → TokenKind
comparison_kind comparison.Equal = sig s.Equal
comparison_kind comparison.NotEqual = sig s.NotEqual
comparison_kind comparison.Less = sig s.LessThan
comparison_kind comparison.Greater = sig s.GreaterThan
comparison_kind comparison.AtMost = sig s.AtMost
comparison_kind comparison.AtLeast = sig s.AtLeast

abbrev pub in_kind : InSign → TokenKind
in_kind in_sign.In = key w.In
in_kind in_sign.NotIn = key w.NotIn

abbrev pub sum_kind : SumSign → TokenKind
sum_kind sum_sign.Plus = sig s.Plus
sum_kind sum_sign.Minus = sig s.Minus
sum_kind sum_sign.Join = sig s.Bars

abbrev pub product_kind : ProductSign → TokenKind
product_kind product_sign.Times = sig s.Star
product_kind product_sign.Over = sig s.Slash

abbrev pub prefix_kind : Prefix → TokenKind
prefix_kind prefix.Plus = sig s.Plus
prefix_kind prefix.Minus = sig s.Minus
prefix_kind prefix.Not = key w.Not

abbrev pub unary_kind : UnaryFunction → TokenKind
unary_kind unary_function.Abs = key w.Abs
unary_kind unary_function.Ceil = key w.Ceil
unary_kind unary_function.Floor = key w.Floor
unary_kind unary_function.Trim = key w.Trim
unary_kind unary_function.Ltrim = key w.Ltrim
unary_kind unary_function.Rtrim = key w.Rtrim
unary_kind unary_function.Upper = key w.Upper
unary_kind unary_function.Lower = key w.Lower
unary_kind unary_function.Length = key w.Length
unary_kind unary_function.Isnull = key w.Isnull

abbrev pub round_kind : RoundFunction → TokenKind
round_kind round_function.Round = key w.Round
round_kind round_function.Trunc = key w.Trunc

abbrev pub binary_kind : BinaryFunction → TokenKind
binary_kind binary_function.Mod = key w.Mod
binary_kind binary_function.Nvl = key w.Nvl
binary_kind binary_function.Instr = key w.Instr

abbrev pub set_kind : SetFunction → TokenKind
set_kind set_function.Union = key w.Union
set_kind set_function.Intersect = key w.Intersect

abbrev pub difference_kind : DifferenceFunction → TokenKind
difference_kind difference_function.Setdiff = key w.Setdiff
difference_kind difference_function.Symdiff = key w.Symdiff

abbrev pub join_kind : JoinFunction → TokenKind
join_kind join_function.Inner = key w.InnerJoin
join_kind join_function.Left = key w.LeftJoin
join_kind join_function.Full = key w.FullJoin
join_kind join_function.Cross = key w.CrossJoin

abbrev pub aggregate_kind : AggregateFunction → TokenKind
aggregate_kind aggregate_function.Sum = key w.Sum
aggregate_kind aggregate_function.Avg = key w.Avg
aggregate_kind aggregate_function.Count = key w.Count
aggregate_kind aggregate_function.Min = key w.Min
aggregate_kind aggregate_function.Max = key w.Max
aggregate_kind aggregate_function.Median = key w.Median

abbrev pub window_kind : WindowFunction → TokenKind
window_kind window_function.Sum = key w.Sum
window_kind window_function.Avg = key w.Avg
window_kind window_function.Count = key w.Count
window_kind window_function.Min = key w.Min
window_kind window_function.Max = key w.Max
window_kind window_function.Median = key w.Median
window_kind window_function.FirstValue = key w.FirstValue
window_kind window_function.LastValue = key w.LastValue
window_kind window_function.RatioToReport = key w.RatioToReport

abbrev pub offset_kind : OffsetFunction → TokenKind
offset_kind offset_function.Lag = key w.Lag
offset_kind offset_function.Lead = key w.Lead

abbrev pub time_kind : TimeFunction → TokenKind
time_kind time_function.FlowToStock = key w.FlowToStock
time_kind time_function.StockToFlow = key w.StockToFlow
time_kind time_function.PeriodIndicator = key w.PeriodIndicator
