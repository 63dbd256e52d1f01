-- Reserved words (docs/language.md, "Tokens").
use Rattle.std.specs.Prelude.{ℕ, List, Option, Bool, true, false, ◌||◌, find, nat_eq, codes}
use Rattle.std.specs.Char.{is_ascii_lowercase}
use Rattle.std.specs.Cmp.Lexicographic.{pointwise}
use Rattle.vtl_tokens.specs.declared.keyword.Keyword.{Keyword}
use Rattle.vtl_tokens.specs.declared.keyword.TheConstants.Keyword.{ALL}
use Rattle.vtl_tokens.specs.declared.keyword.Keyword.TheVariants.{Define, Datapoint, Hierarchical, Ruleset, Operator, Returns, Variable, Condition, Rule, Is, End, As, When, Then, Errorcode, Errorlevel, If, Else, Or, Xor, And, Not, In, NotIn, True, False, Null, Filter, Calc, Keep, Drop, Rename, To, Sub, Unpivot, Aggr, Having, Measure, Attribute, Group, By, Except, Over, Partition, Order, Asc, Desc, Data, Points, Point, Between, Preceding, Following, Unbounded, Current, Abs, Ceil, Floor, Trim, Ltrim, Rtrim, Upper, Lower, Length, Isnull, Round, Trunc, Mod, Nvl, Instr, MatchCharacters, Substr, Replace, ExistsIn, Union, Intersect, Setdiff, Symdiff, InnerJoin, LeftJoin, FullJoin, CrossJoin, Sum, Avg, Count, Min, Max, Median, FirstValue, LastValue, RatioToReport, Lag, Lead, Rank, CheckDatapoint, CheckHierarchy, Hierarchy, Check, Imbalance, Timeshift, FillTimeSeries, FlowToStock, StockToFlow, PeriodIndicator, Single, All, AllMeasures, Invalid, Computed, NonNull, NonZero, PartialNull, PartialZero, AlwaysNull, AlwaysZero, Dataset, Integer, Number, String, Boolean, DatasetPriority, RulePriority, Eval, Cast, CurrentDate, TimeAgg, Ln, Exp, Log, Sqrt, Power, VarPop, VarSamp, StddevPop, StddevSamp, Pivot, Using, Apply, Range, Valuedomain, Components, Viral, Identifier}

-- how a reserved word is written; ASCII, so the same in characters and bytes
abbrev pub word_of : Keyword → List ℕ
word_of Define = codes "define"
word_of Datapoint = codes "datapoint"
word_of Hierarchical = codes "hierarchical"
word_of Ruleset = codes "ruleset"
word_of Operator = codes "operator"
word_of Returns = codes "returns"
word_of Variable = codes "variable"
word_of Condition = codes "condition"
word_of Rule = codes "rule"
word_of Is = codes "is"
word_of End = codes "end"
word_of As = codes "as"
word_of When = codes "when"
word_of Then = codes "then"
word_of Errorcode = codes "errorcode"
word_of Errorlevel = codes "errorlevel"
word_of If = codes "if"
word_of Else = codes "else"
word_of Or = codes "or"
word_of Xor = codes "xor"
word_of And = codes "and"
word_of Not = codes "not"
word_of In = codes "in"
word_of NotIn = codes "not_in"
word_of True = codes "true"
word_of False = codes "false"
word_of Null = codes "null"
word_of Filter = codes "filter"
word_of Calc = codes "calc"
word_of Keep = codes "keep"
word_of Drop = codes "drop"
word_of Rename = codes "rename"
word_of To = codes "to"
word_of Sub = codes "sub"
word_of Unpivot = codes "unpivot"
word_of Aggr = codes "aggr"
word_of Having = codes "having"
word_of Measure = codes "measure"
word_of Attribute = codes "attribute"
word_of Group = codes "group"
word_of By = codes "by"
word_of Except = codes "except"
word_of Over = codes "over"
word_of Partition = codes "partition"
word_of Order = codes "order"
word_of Asc = codes "asc"
word_of Desc = codes "desc"
word_of Data = codes "data"
word_of Points = codes "points"
word_of Point = codes "point"
word_of Between = codes "between"
word_of Preceding = codes "preceding"
word_of Following = codes "following"
word_of Unbounded = codes "unbounded"
word_of Current = codes "current"
word_of Abs = codes "abs"
word_of Ceil = codes "ceil"
word_of Floor = codes "floor"
word_of Trim = codes "trim"
word_of Ltrim = codes "ltrim"
word_of Rtrim = codes "rtrim"
word_of Upper = codes "upper"
word_of Lower = codes "lower"
word_of Length = codes "length"
word_of Isnull = codes "isnull"
word_of Round = codes "round"
word_of Trunc = codes "trunc"
word_of Mod = codes "mod"
word_of Nvl = codes "nvl"
word_of Instr = codes "instr"
word_of MatchCharacters = codes "match_characters"
word_of Substr = codes "substr"
word_of Replace = codes "replace"
word_of ExistsIn = codes "exists_in"
word_of Union = codes "union"
word_of Intersect = codes "intersect"
word_of Setdiff = codes "setdiff"
word_of Symdiff = codes "symdiff"
word_of InnerJoin = codes "inner_join"
word_of LeftJoin = codes "left_join"
word_of FullJoin = codes "full_join"
word_of CrossJoin = codes "cross_join"
word_of Sum = codes "sum"
word_of Avg = codes "avg"
word_of Count = codes "count"
word_of Min = codes "min"
word_of Max = codes "max"
word_of Median = codes "median"
word_of FirstValue = codes "first_value"
word_of LastValue = codes "last_value"
word_of RatioToReport = codes "ratio_to_report"
word_of Lag = codes "lag"
word_of Lead = codes "lead"
word_of Rank = codes "rank"
word_of CheckDatapoint = codes "check_datapoint"
word_of CheckHierarchy = codes "check_hierarchy"
word_of Hierarchy = codes "hierarchy"
word_of Check = codes "check"
word_of Imbalance = codes "imbalance"
word_of Timeshift = codes "timeshift"
word_of FillTimeSeries = codes "fill_time_series"
word_of FlowToStock = codes "flow_to_stock"
word_of StockToFlow = codes "stock_to_flow"
word_of PeriodIndicator = codes "period_indicator"
word_of Single = codes "single"
word_of All = codes "all"
word_of AllMeasures = codes "all_measures"
word_of Invalid = codes "invalid"
word_of Computed = codes "computed"
word_of NonNull = codes "non_null"
word_of NonZero = codes "non_zero"
word_of PartialNull = codes "partial_null"
word_of PartialZero = codes "partial_zero"
word_of AlwaysNull = codes "always_null"
word_of AlwaysZero = codes "always_zero"
word_of Dataset = codes "dataset"
word_of Integer = codes "integer"
word_of Number = codes "number"
word_of String = codes "string"
word_of Boolean = codes "boolean"
word_of DatasetPriority = codes "dataset_priority"
word_of RulePriority = codes "rule_priority"
word_of Eval = codes "eval"
word_of Cast = codes "cast"
word_of CurrentDate = codes "current_date"
word_of TimeAgg = codes "time_agg"
word_of Ln = codes "ln"
word_of Exp = codes "exp"
word_of Log = codes "log"
word_of Sqrt = codes "sqrt"
word_of Power = codes "power"
word_of VarPop = codes "var_pop"
word_of VarSamp = codes "var_samp"
word_of StddevPop = codes "stddev_pop"
word_of StddevSamp = codes "stddev_samp"
word_of Pivot = codes "pivot"
word_of Using = codes "using"
word_of Apply = codes "apply"
word_of Range = codes "range"
word_of Valuedomain = codes "valuedomain"
word_of Components = codes "components"
word_of Viral = codes "viral"
word_of Identifier = codes "identifier"

-- a small letter or an underscore, of which reserved words are made
abbrev pub is_small : ℕ → Bool
is_small code = is_ascii_lowercase code || nat_eq code 95

-- the reserved word that is written so
unfoldable pub keyword_of : List ℕ → Option Keyword
keyword_of text = find (λ word. pointwise nat_eq (word_of word) text) ALL

-- a word of the whole language that this profile leaves out
abbrev pub is_left_out : Keyword → Bool
is_left_out Eval = true
is_left_out Cast = true
is_left_out CurrentDate = true
is_left_out TimeAgg = true
is_left_out Ln = true
is_left_out Exp = true
is_left_out Log = true
is_left_out Sqrt = true
is_left_out Power = true
is_left_out VarPop = true
is_left_out VarSamp = true
is_left_out StddevPop = true
is_left_out StddevSamp = true
is_left_out Pivot = true
is_left_out Using = true
is_left_out Apply = true
is_left_out Range = true
is_left_out Valuedomain = true
is_left_out Components = true
is_left_out Viral = true
is_left_out Identifier = true
is_left_out _ = false
