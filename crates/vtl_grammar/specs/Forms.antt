-- The forms of expressions: a row for each word or sign that begins one, and for each that goes on after one.
use Rattle.std.specs.Prelude.{ℕ, true, false, List, [], Option, Some, None}
use Rattle.vtl_values.specs.declared.place.Place.{Place}
use Rattle.vtl_values.specs.declared.value.Value.TheVariants as value
use Rattle.vtl_tokens.specs.declared.keyword.Keyword.{Keyword}
use Rattle.vtl_tokens.specs.declared.keyword.Keyword.TheVariants as words
use Rattle.vtl_tokens.specs.declared.sign.Sign.TheVariants as signs
use Rattle.vtl_tokens.specs.declared.token.TokenKind.{TokenKind}
use Rattle.vtl_tokens.specs.declared.token.TokenKind.TheVariants as what
use Rattle.vtl_syntax.specs.declared.expr.Expr.{Expr}
use Rattle.vtl_syntax.specs.declared.expr.Expr.TheVariants as tree
use Rattle.vtl_syntax.specs.declared.words.Prefix.{Prefix}
use Rattle.vtl_syntax.specs.declared.words.Prefix.TheVariants as prefix
use Rattle.vtl_syntax.specs.declared.words.OrSign.TheVariants as or_sign
use Rattle.vtl_syntax.specs.declared.words.Comparison.{Comparison}
use Rattle.vtl_syntax.specs.declared.words.Comparison.TheVariants as compare
use Rattle.vtl_syntax.specs.declared.words.InSign.{InSign}
use Rattle.vtl_syntax.specs.declared.words.InSign.TheVariants as in_sign
use Rattle.vtl_syntax.specs.declared.words.SumSign.{SumSign}
use Rattle.vtl_syntax.specs.declared.words.SumSign.TheVariants as sum_sign
use Rattle.vtl_syntax.specs.declared.words.ProductSign.{ProductSign}
use Rattle.vtl_syntax.specs.declared.words.ProductSign.TheVariants as product_sign
use Rattle.vtl_syntax.specs.declared.words.UnaryFunction.TheVariants as unary_word
use Rattle.vtl_syntax.specs.declared.words.RoundFunction.TheVariants as round_word
use Rattle.vtl_syntax.specs.declared.words.BinaryFunction.TheVariants as binary_word
use Rattle.vtl_syntax.specs.declared.words.SetFunction.TheVariants as set_word
use Rattle.vtl_syntax.specs.declared.words.DifferenceFunction.TheVariants as difference_word
use Rattle.vtl_syntax.specs.declared.words.JoinFunction.TheVariants as join_word
use Rattle.vtl_syntax.specs.declared.words.AggregateFunction.TheVariants as aggregate_word
use Rattle.vtl_syntax.specs.declared.words.WindowFunction.TheVariants as window_word
use Rattle.vtl_syntax.specs.declared.words.OffsetFunction.TheVariants as offset_word
use Rattle.vtl_syntax.specs.declared.words.TimeFunction.TheVariants as time_word
use Rattle.vtl_grammar.specs.Marks.{Mark, key, sign}
use Rattle.vtl_grammar.specs.Rules.{Rule, name, ◌▸◌, option, Of, At, Text, word, sig, expr, close_paren, commas, listed}
use Rattle.vtl_grammar.specs.Clauses.{literal, literal_of, clause_rule, clause_of}
use Rattle.vtl_grammar.specs.Calls.{Form, unary, round, binary, between, match_characters, substr, replace, exists_in, sets, difference, join, aggregate, count, window, offset, rank, time, timeshift, fill_time_series, check_datapoint, hierarchy, check_hierarchy, check}

-- a form that goes on after an expression: its own precedence, and the one that its operand has at least
pub record Tail : Type 0 where
  pub precedence : ℕ
  pub operand : ℕ
  pub rule : Rule
  pub tree : Expr → Of rule → Place → Expr

-- "if" expr "then" expr "else" expr
abbrev pub conditional : Form
conditional = record { precedence = 0; rule = expr 0 ▸ word words.Then ▸ expr 0 ▸ word words.Else ▸ expr 0; tree = λ v p. tree.If v.0 v.1.1.0 v.1.1.1.1 p }

-- "(" expr ")"
abbrev pub bracket : Form
bracket = record { precedence = 7; rule = expr 0 ▸ close_paren; tree = λ v p. tree.Bracket v.0 p }

-- ("+" | "-" | "not") e6
abbrev pub signed_form : Prefix → Form
signed_form s = record { precedence = 6; rule = expr 6; tree = λ v p. tree.Signed s v p }

abbrev pub form_of : Mark → Option Form
form_of (key words.If) = Some conditional
form_of (sign signs.LeftParen) = Some bracket
form_of (sign signs.Plus) = Some (signed_form prefix.Plus)
form_of (sign signs.Minus) = Some (signed_form prefix.Minus)
form_of (key words.Not) = Some (signed_form prefix.Not)
form_of (key words.Abs) = Some (unary unary_word.Abs)
form_of (key words.Ceil) = Some (unary unary_word.Ceil)
form_of (key words.Floor) = Some (unary unary_word.Floor)
form_of (key words.Trim) = Some (unary unary_word.Trim)
form_of (key words.Ltrim) = Some (unary unary_word.Ltrim)
form_of (key words.Rtrim) = Some (unary unary_word.Rtrim)
form_of (key words.Upper) = Some (unary unary_word.Upper)
form_of (key words.Lower) = Some (unary unary_word.Lower)
form_of (key words.Length) = Some (unary unary_word.Length)
form_of (key words.Isnull) = Some (unary unary_word.Isnull)
form_of (key words.Round) = Some (round round_word.Round)
form_of (key words.Trunc) = Some (round round_word.Trunc)
form_of (key words.Mod) = Some (binary binary_word.Mod)
form_of (key words.Nvl) = Some (binary binary_word.Nvl)
form_of (key words.Instr) = Some (binary binary_word.Instr)
form_of (key words.Between) = Some between
form_of (key words.MatchCharacters) = Some match_characters
form_of (key words.Substr) = Some substr
form_of (key words.Replace) = Some replace
form_of (key words.ExistsIn) = Some exists_in
form_of (key words.Union) = Some (sets set_word.Union)
form_of (key words.Intersect) = Some (sets set_word.Intersect)
form_of (key words.Setdiff) = Some (difference difference_word.Setdiff)
form_of (key words.Symdiff) = Some (difference difference_word.Symdiff)
form_of (key words.InnerJoin) = Some (join join_word.Inner)
form_of (key words.LeftJoin) = Some (join join_word.Left)
form_of (key words.FullJoin) = Some (join join_word.Full)
form_of (key words.CrossJoin) = Some (join join_word.Cross)
form_of (key words.Sum) = Some (aggregate aggregate_word.Sum window_word.Sum)
form_of (key words.Avg) = Some (aggregate aggregate_word.Avg window_word.Avg)
form_of (key words.Count) = Some count
form_of (key words.Min) = Some (aggregate aggregate_word.Min window_word.Min)
form_of (key words.Max) = Some (aggregate aggregate_word.Max window_word.Max)
form_of (key words.Median) = Some (aggregate aggregate_word.Median window_word.Median)
form_of (key words.FirstValue) = Some (window window_word.FirstValue)
form_of (key words.LastValue) = Some (window window_word.LastValue)
form_of (key words.RatioToReport) = Some (window window_word.RatioToReport)
form_of (key words.Lag) = Some (offset offset_word.Lag)
form_of (key words.Lead) = Some (offset offset_word.Lead)
form_of (key words.Rank) = Some rank
form_of (key words.FlowToStock) = Some (time time_word.FlowToStock)
form_of (key words.StockToFlow) = Some (time time_word.StockToFlow)
form_of (key words.PeriodIndicator) = Some (time time_word.PeriodIndicator)
form_of (key words.Timeshift) = Some timeshift
form_of (key words.FillTimeSeries) = Some fill_time_series
form_of (key words.CheckDatapoint) = Some check_datapoint
form_of (key words.Hierarchy) = Some hierarchy
form_of (key words.CheckHierarchy) = Some check_hierarchy
form_of (key words.Check) = Some check
form_of _ = None

-- (rel | "<>") e4
abbrev pub compared : Comparison → Tail
compared s = record { precedence = 3; operand = 3; rule = expr 4; tree = λ l v p. tree.Compare l s v p }

-- ("in" | "not_in") "{" lit {"," lit} "}"
abbrev pub member_of_set : InSign → Tail
member_of_set s = record { precedence = 3; operand = 3; rule = sig signs.LeftBrace ▸ commas literal ▸ sig signs.RightBrace; tree = λ l v p. tree.In l s (listed literal_of v.1.0) p }

-- ("+" | "-" | "||") e5
abbrev pub summed : SumSign → Tail
summed s = record { precedence = 4; operand = 4; rule = expr 5; tree = λ l v p. tree.Sum l s v p }

-- ("*" | "/") e6
abbrev pub multiplied : ProductSign → Tail
multiplied s = record { precedence = 5; operand = 5; rule = expr 6; tree = λ l v p. tree.Product l s v p }

-- the precedence of a literal
abbrev pub literal_precedence : ℕ
literal_precedence = 8

-- the precedence of a name, which is the highest
abbrev pub top : ℕ
top = 9

-- the name that an expression is, where it is one
abbrev pub name_in : Expr → At Text
name_in (tree.Name n p) = record { value = n; place = p }
name_in e = record { value = []; place = record { line = 0; column = 0 } }

-- name "(" [expr {"," expr}] ")"
abbrev pub call_of_name : Tail
call_of_name = record {
  precedence = 7;
  operand = top;
  rule = option (commas (expr 0)) close_paren;
  tree = λ l v p. tree.CallOf (name_in l).value (items_of v.0) (name_in l).place;
}
  where
    items_of : Option (Of (commas (expr 0))) → List Expr
    items_of None = []
    items_of (Some v) = listed (λ e. e) v

abbrev pub tail_of : Mark → Option Tail
tail_of (key words.Or) = Some (record { precedence = 1; operand = 1; rule = expr 2; tree = λ l v p. tree.Or l or_sign.Or v p })
tail_of (key words.Xor) = Some (record { precedence = 1; operand = 1; rule = expr 2; tree = λ l v p. tree.Or l or_sign.Xor v p })
tail_of (key words.And) = Some (record { precedence = 2; operand = 2; rule = expr 3; tree = λ l v p. tree.And l v p })
tail_of (sign signs.Equal) = Some (compared compare.Equal)
tail_of (sign signs.NotEqual) = Some (compared compare.NotEqual)
tail_of (sign signs.LessThan) = Some (compared compare.Less)
tail_of (sign signs.GreaterThan) = Some (compared compare.Greater)
tail_of (sign signs.AtMost) = Some (compared compare.AtMost)
tail_of (sign signs.AtLeast) = Some (compared compare.AtLeast)
tail_of (key words.In) = Some (member_of_set in_sign.In)
tail_of (key words.NotIn) = Some (member_of_set in_sign.NotIn)
tail_of (sign signs.Plus) = Some (summed sum_sign.Plus)
tail_of (sign signs.Minus) = Some (summed sum_sign.Minus)
tail_of (sign signs.Bars) = Some (summed sum_sign.Join)
tail_of (sign signs.Star) = Some (multiplied product_sign.Times)
tail_of (sign signs.Slash) = Some (multiplied product_sign.Over)
tail_of (sign signs.LeftParen) = Some call_of_name
tail_of (sign signs.Hash) = Some (record { precedence = 7; operand = 7; rule = name; tree = λ l v p. tree.Member l v.value p })
tail_of (sign signs.LeftBracket) = Some (record { precedence = 7; operand = 7; rule = clause_rule ▸ sig signs.RightBracket; tree = λ l v p. tree.Clause l (clause_of v.0) p })
tail_of _ = None

-- a name, or a literal without a sign
abbrev pub leaf_in : TokenKind → Place → Option Expr
leaf_in (what.Name n) p = Some (tree.Name n p)
leaf_in (what.Integer z) p = Some (tree.Literal (value.Integer z) p)
leaf_in (what.Number z) p = Some (tree.Literal (value.Number z) p)
leaf_in (what.Text t) p = Some (tree.Literal (value.Text t) p)
leaf_in (what.Reserved k) p = of_word k p
  where
    of_word : Keyword → Place → Option Expr
    of_word words.True p = Some (tree.Literal (value.Truth true) p)
    of_word words.False p = Some (tree.Literal (value.Truth false) p)
    of_word words.Null p = Some (tree.Literal value.Null p)
    of_word _ p = None
leaf_in (what.Sign s) p = None
leaf_in what.End p = None

abbrev pub leaf_precedence : TokenKind → ℕ
leaf_precedence (what.Name n) = top
leaf_precedence _ = literal_precedence
