-- Reserved words and signs in one, and a number for each sort of token.
use Rattle.std.specs.Prelude.{ℕ, ◌+◌, List, Option, Some, None}
use Rattle.vtl_tokens.specs.declared.keyword.Keyword.{Keyword}
use Rattle.vtl_tokens.specs.declared.keyword.Keyword.TheVariants as words
use Rattle.vtl_tokens.specs.declared.sign.Sign.{Sign}
use Rattle.vtl_tokens.specs.declared.sign.Sign.TheVariants as signs
use Rattle.vtl_tokens.specs.declared.token.TokenKind.{TokenKind}
use Rattle.vtl_tokens.specs.declared.token.TokenKind.TheVariants as what
use Rattle.vtl_tokens.specs.declared.token.Token.{Token}
use Rattle.vtl_values.specs.declared.place.Place.{Place}

-- a reserved word or a sign
pub data Mark : Type 0 where
  key : Keyword → Mark
  sign : Sign → Mark

abbrev pub Tokens : Type 0
Tokens = List Token

abbrev pub at : TokenKind → Place → Token
at w p = record { what = w; place = p }

abbrev pub kind_of : Mark → TokenKind
kind_of (key k) = what.Reserved k
kind_of (sign s) = what.Sign s

abbrev pub mark_in : TokenKind → Option Mark
mark_in (what.Reserved k) = Some (key k)
mark_in (what.Sign s) = Some (sign s)
mark_in _ = None

abbrev pub sign_code : Sign → ℕ
sign_code signs.Arrow = 0
sign_code signs.Assign = 1
sign_code signs.Semicolon = 2
sign_code signs.Comma = 3
sign_code signs.LeftParen = 4
sign_code signs.RightParen = 5
sign_code signs.LeftBracket = 6
sign_code signs.RightBracket = 7
sign_code signs.LeftBrace = 8
sign_code signs.RightBrace = 9
sign_code signs.Plus = 10
sign_code signs.Minus = 11
sign_code signs.Star = 12
sign_code signs.Slash = 13
sign_code signs.Bars = 14
sign_code signs.Equal = 15
sign_code signs.NotEqual = 16
sign_code signs.LessThan = 17
sign_code signs.GreaterThan = 18
sign_code signs.AtMost = 19
sign_code signs.AtLeast = 20
sign_code signs.Hash = 21
sign_code signs.Colon = 22

abbrev pub key_code : Keyword → ℕ
key_code words.Define = 0
key_code words.Datapoint = 1
key_code words.Hierarchical = 2
key_code words.Ruleset = 3
key_code words.Operator = 4
key_code words.Returns = 5
key_code words.Variable = 6
key_code words.Condition = 7
key_code words.Rule = 8
key_code words.Is = 9
key_code words.End = 10
key_code words.As = 11
key_code words.When = 12
key_code words.Then = 13
key_code words.Errorcode = 14
key_code words.Errorlevel = 15
key_code words.If = 16
key_code words.Else = 17
key_code words.Or = 18
key_code words.Xor = 19
key_code words.And = 20
key_code words.Not = 21
key_code words.In = 22
key_code words.NotIn = 23
key_code words.True = 24
key_code words.False = 25
key_code words.Null = 26
key_code words.Filter = 27
key_code words.Calc = 28
key_code words.Keep = 29
key_code words.Drop = 30
key_code words.Rename = 31
key_code words.To = 32
key_code words.Sub = 33
key_code words.Unpivot = 34
key_code words.Aggr = 35
key_code words.Having = 36
key_code words.Measure = 37
key_code words.Attribute = 38
key_code words.Group = 39
key_code words.By = 40
key_code words.Except = 41
key_code words.Over = 42
key_code words.Partition = 43
key_code words.Order = 44
key_code words.Asc = 45
key_code words.Desc = 46
key_code words.Data = 47
key_code words.Points = 48
key_code words.Point = 49
key_code words.Between = 50
key_code words.Preceding = 51
key_code words.Following = 52
key_code words.Unbounded = 53
key_code words.Current = 54
key_code words.Abs = 55
key_code words.Ceil = 56
key_code words.Floor = 57
key_code words.Trim = 58
key_code words.Ltrim = 59
key_code words.Rtrim = 60
key_code words.Upper = 61
key_code words.Lower = 62
key_code words.Length = 63
key_code words.Isnull = 64
key_code words.Round = 65
key_code words.Trunc = 66
key_code words.Mod = 67
key_code words.Nvl = 68
key_code words.Instr = 69
key_code words.MatchCharacters = 70
key_code words.Substr = 71
key_code words.Replace = 72
key_code words.ExistsIn = 73
key_code words.Union = 74
key_code words.Intersect = 75
key_code words.Setdiff = 76
key_code words.Symdiff = 77
key_code words.InnerJoin = 78
key_code words.LeftJoin = 79
key_code words.FullJoin = 80
key_code words.CrossJoin = 81
key_code words.Sum = 82
key_code words.Avg = 83
key_code words.Count = 84
key_code words.Min = 85
key_code words.Max = 86
key_code words.Median = 87
key_code words.FirstValue = 88
key_code words.LastValue = 89
key_code words.RatioToReport = 90
key_code words.Lag = 91
key_code words.Lead = 92
key_code words.Rank = 93
key_code words.CheckDatapoint = 94
key_code words.CheckHierarchy = 95
key_code words.Hierarchy = 96
key_code words.Check = 97
key_code words.Imbalance = 98
key_code words.Timeshift = 99
key_code words.FillTimeSeries = 100
key_code words.FlowToStock = 101
key_code words.StockToFlow = 102
key_code words.PeriodIndicator = 103
key_code words.Single = 104
key_code words.All = 105
key_code words.AllMeasures = 106
key_code words.Invalid = 107
key_code words.Computed = 108
key_code words.NonNull = 109
key_code words.NonZero = 110
key_code words.PartialNull = 111
key_code words.PartialZero = 112
key_code words.AlwaysNull = 113
key_code words.AlwaysZero = 114
key_code words.Dataset = 115
key_code words.Integer = 116
key_code words.Number = 117
key_code words.String = 118
key_code words.Boolean = 119
key_code words.DatasetPriority = 120
key_code words.RulePriority = 121
key_code words.Eval = 122
key_code words.Cast = 123
key_code words.CurrentDate = 124
key_code words.TimeAgg = 125
key_code words.Ln = 126
key_code words.Exp = 127
key_code words.Log = 128
key_code words.Sqrt = 129
key_code words.Power = 130
key_code words.VarPop = 131
key_code words.VarSamp = 132
key_code words.StddevPop = 133
key_code words.StddevSamp = 134
key_code words.Pivot = 135
key_code words.Using = 136
key_code words.Apply = 137
key_code words.Range = 138
key_code words.Valuedomain = 139
key_code words.Components = 140
key_code words.Viral = 141
key_code words.Identifier = 142

-- signs come first, and reserved words after them
abbrev pub mark_code : Mark → ℕ
mark_code (sign s) = sign_code s
mark_code (key k) = 23 + key_code k

abbrev pub of_mark : Mark → ℕ
of_mark m = 5 + mark_code m

abbrev pub sort_of : TokenKind → ℕ
sort_of (what.Name n) = 0
sort_of (what.Integer n) = 1
sort_of (what.Number n) = 2
sort_of (what.Text n) = 3
sort_of what.End = 4
sort_of (what.Sign s) = of_mark (sign s)
sort_of (what.Reserved k) = of_mark (key k)
