-- The table of forms, row by row.
use Rattle.std.proofs.Common.{◌≡◌, Option, Some, None, refl, subst}
use Rattle.vtl_tokens.specs.declared.keyword.Keyword.TheVariants as words
use Rattle.vtl_tokens.specs.declared.sign.Sign.TheVariants as signs
use Rattle.vtl_tokens.specs.declared.token.TokenKind.{TokenKind}
use Rattle.vtl_syntax.specs.declared.words.Prefix.TheVariants as prefix
use Rattle.vtl_syntax.specs.declared.words.UnaryFunction.TheVariants as unary_word
use Rattle.vtl_syntax.specs.declared.words.RoundFunction.TheVariants as round_word
use Rattle.vtl_syntax.specs.declared.words.BinaryFunction.TheVariants as binary_word
use Rattle.vtl_syntax.specs.declared.words.SetFunction.TheVariants as set_word
use Rattle.vtl_syntax.specs.declared.words.DifferenceFunction.TheVariants as difference_word
use Rattle.vtl_syntax.specs.declared.words.JoinFunction.TheVariants as join_word
use Rattle.vtl_syntax.specs.declared.words.AggregateFunction.TheVariants as aggregate_word
use Rattle.vtl_syntax.specs.declared.words.WindowFunction.TheVariants as window_word
use Rattle.vtl_syntax.specs.declared.words.OffsetFunction.TheVariants as offset_word
use Rattle.vtl_syntax.specs.declared.words.TimeFunction.TheVariants as time_word
use Rattle.vtl_grammar.specs.Marks.{Mark, key, sign, kind_of}
use Rattle.vtl_grammar.specs.Calls.{Form}
use Rattle.vtl_grammar.specs.Forms.{form_of}
use Rattle.vtl_spelling.proofs.FormsTold.{FormTold, conditional-told, bracket-told, signed_form-told, unary-told, round-told, binary-told, between-told, match_characters-told, substr-told, replace-told, exists_in-told, sets-told, difference-told, time-told, timeshift-told, fill_time_series-told}
use Rattle.vtl_spelling.proofs.CallsTold.{join-told, aggregate-told, count-told, window-told, offset-told, rank-told, check_datapoint-told, hierarchy-told, check_hierarchy-told, check-told}

abbrev SomeForm : TokenKind → Option Form → Type 0
SomeForm w None = Unit {0}
SomeForm w (Some form) = FormTold w form

each_form : (m : Mark) → SomeForm (kind_of m) (form_of m)
each_form (key words.If) = conditional-told
each_form (sign signs.LeftParen) = bracket-told
each_form (sign signs.Plus) = signed_form-told prefix.Plus
each_form (sign signs.Minus) = signed_form-told prefix.Minus
each_form (key words.Not) = signed_form-told prefix.Not
each_form (key words.Abs) = unary-told unary_word.Abs
each_form (key words.Ceil) = unary-told unary_word.Ceil
each_form (key words.Floor) = unary-told unary_word.Floor
each_form (key words.Trim) = unary-told unary_word.Trim
each_form (key words.Ltrim) = unary-told unary_word.Ltrim
each_form (key words.Rtrim) = unary-told unary_word.Rtrim
each_form (key words.Upper) = unary-told unary_word.Upper
each_form (key words.Lower) = unary-told unary_word.Lower
each_form (key words.Length) = unary-told unary_word.Length
each_form (key words.Isnull) = unary-told unary_word.Isnull
each_form (key words.Round) = round-told round_word.Round
each_form (key words.Trunc) = round-told round_word.Trunc
each_form (key words.Mod) = binary-told binary_word.Mod
each_form (key words.Nvl) = binary-told binary_word.Nvl
each_form (key words.Instr) = binary-told binary_word.Instr
each_form (key words.Between) = between-told
each_form (key words.MatchCharacters) = match_characters-told
each_form (key words.Substr) = substr-told
each_form (key words.Replace) = replace-told
each_form (key words.ExistsIn) = exists_in-told
each_form (key words.Union) = sets-told set_word.Union
each_form (key words.Intersect) = sets-told set_word.Intersect
each_form (key words.Setdiff) = difference-told difference_word.Setdiff
each_form (key words.Symdiff) = difference-told difference_word.Symdiff
each_form (key words.InnerJoin) = join-told join_word.Inner
each_form (key words.LeftJoin) = join-told join_word.Left
each_form (key words.FullJoin) = join-told join_word.Full
each_form (key words.CrossJoin) = join-told join_word.Cross
each_form (key words.Sum) = aggregate-told aggregate_word.Sum window_word.Sum refl
each_form (key words.Avg) = aggregate-told aggregate_word.Avg window_word.Avg refl
each_form (key words.Count) = count-told
each_form (key words.Min) = aggregate-told aggregate_word.Min window_word.Min refl
each_form (key words.Max) = aggregate-told aggregate_word.Max window_word.Max refl
each_form (key words.Median) = aggregate-told aggregate_word.Median window_word.Median refl
each_form (key words.FirstValue) = window-told window_word.FirstValue
each_form (key words.LastValue) = window-told window_word.LastValue
each_form (key words.RatioToReport) = window-told window_word.RatioToReport
each_form (key words.Lag) = offset-told offset_word.Lag
each_form (key words.Lead) = offset-told offset_word.Lead
each_form (key words.Rank) = rank-told
each_form (key words.FlowToStock) = time-told time_word.FlowToStock
each_form (key words.StockToFlow) = time-told time_word.StockToFlow
each_form (key words.PeriodIndicator) = time-told time_word.PeriodIndicator
each_form (key words.Timeshift) = timeshift-told
each_form (key words.FillTimeSeries) = fill_time_series-told
each_form (key words.CheckDatapoint) = check_datapoint-told
each_form (key words.Hierarchy) = hierarchy-told
each_form (key words.CheckHierarchy) = check_hierarchy-told
each_form (key words.Check) = check-told
each_form _ = tt

pub form-told : (m : Mark) (form : Form) → form_of m ≡ Some form → FormTold (kind_of m) form
form-told m form is = subst (λ (x : Option Form). SomeForm (kind_of m) x) is (each_form m)
