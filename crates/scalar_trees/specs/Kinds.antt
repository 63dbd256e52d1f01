-- The kinds that operators take and give (docs/language.md, "Scalar operators").
use Rattle.std.specs.Prelude.{Bool, true, false, pos, ◌*ℤ◌, ℤ, List, [], ◌∷◌, Option, Some, None, find}
use Rattle.std.specs.List.{list_all}
use Rattle.vtl_values.specs.declared.kind.Kind.{Kind}
use Rattle.vtl_values.specs.declared.kind.Kind.TheVariants.{Integer, Number, Text, Truth}
use Rattle.vtl_values.specs.declared.value.Value.{Value}
use Rattle.vtl_values.specs.declared.value.Value.TheVariants as value
use Rattle.vtl_syntax.specs.declared.words.AggregateFunction.{AggregateFunction}
use Rattle.vtl_syntax.specs.declared.words.AggregateFunction.TheVariants as aggregate
use Rattle.vtl_syntax.specs.declared.words.Sort.{Sort}
use Rattle.vtl_syntax.specs.declared.words.Sort.TheVariants as sort
use Rattle.scalar_trees.specs.declared.operators.UnaryOperator.{UnaryOperator}
use Rattle.scalar_trees.specs.declared.operators.UnaryOperator.TheVariants as unary
use Rattle.scalar_trees.specs.declared.operators.BinaryOperator.{BinaryOperator}
use Rattle.scalar_trees.specs.declared.operators.BinaryOperator.TheVariants as binary

-- where this kind is wanted, an operand of that kind may stand: an integer stands for a number
abbrev pub stands_for : Kind → Kind → Bool
stands_for Integer Integer = true
stands_for Number Integer = true
stands_for Number Number = true
stands_for Text Text = true
stands_for Truth Truth = true
stands_for _ _ = false

-- the literal null, which has no kind of its own, may stand anywhere
abbrev pub may_stand : Kind → Option Kind → Bool
may_stand wanted None = true
may_stand wanted (Some given) = stands_for wanted given

-- the first of the kinds that an operator takes at which all its operands may stand
abbrev pub agreed : List Kind → List (Option Kind) → Option Kind
agreed takes operands = find (λ kind. list_all (may_stand kind) operands) takes

-- kinds in the order in which the literal null takes them
abbrev pub ANY : List Kind
ANY = Truth ∷ Integer ∷ Number ∷ Text ∷ []

abbrev pub NUMERIC : List Kind
NUMERIC = Integer ∷ Number ∷ []

abbrev pub NUMBERS : List Kind
NUMBERS = Number ∷ []

abbrev pub TEXTS : List Kind
TEXTS = Text ∷ []

abbrev pub TRUTHS : List Kind
TRUTHS = Truth ∷ []

-- what an operator of one operand takes, and what it gives of an operand of such a kind
abbrev pub unary_takes : UnaryOperator → List Kind
unary_takes unary.Plus = NUMERIC
unary_takes unary.Minus = NUMERIC
unary_takes unary.Not = TRUTHS
unary_takes unary.Abs = NUMERIC
unary_takes unary.Ceil = NUMBERS
unary_takes unary.Floor = NUMBERS
unary_takes unary.Trim = TEXTS
unary_takes unary.Ltrim = TEXTS
unary_takes unary.Rtrim = TEXTS
unary_takes unary.Upper = TEXTS
unary_takes unary.Lower = TEXTS
unary_takes unary.Length = TEXTS
unary_takes unary.Isnull = ANY

abbrev pub unary_gives : UnaryOperator → Kind → Kind
unary_gives unary.Plus kind = kind
unary_gives unary.Minus kind = kind
unary_gives unary.Not kind = Truth
unary_gives unary.Abs kind = kind
unary_gives unary.Ceil kind = Integer
unary_gives unary.Floor kind = Integer
unary_gives unary.Trim kind = Text
unary_gives unary.Ltrim kind = Text
unary_gives unary.Rtrim kind = Text
unary_gives unary.Upper kind = Text
unary_gives unary.Lower kind = Text
unary_gives unary.Length kind = Integer
unary_gives unary.Isnull kind = Truth

-- what an operator of two operands takes, and what it gives of operands of such a kind
abbrev pub binary_takes : BinaryOperator → List Kind
binary_takes binary.Plus = NUMERIC
binary_takes binary.Minus = NUMERIC
binary_takes binary.Times = NUMERIC
binary_takes binary.Over = NUMBERS
binary_takes binary.Mod = NUMERIC
binary_takes binary.Join = TEXTS
binary_takes binary.Instr = TEXTS
binary_takes binary.And = TRUTHS
binary_takes binary.Or = TRUTHS
binary_takes binary.Xor = TRUTHS
binary_takes binary.Equal = ANY
binary_takes binary.NotEqual = ANY
binary_takes binary.Less = ANY
binary_takes binary.Greater = ANY
binary_takes binary.AtMost = ANY
binary_takes binary.AtLeast = ANY

abbrev pub binary_gives : BinaryOperator → Kind → Kind
binary_gives binary.Plus kind = kind
binary_gives binary.Minus kind = kind
binary_gives binary.Times kind = kind
binary_gives binary.Over kind = Number
binary_gives binary.Mod kind = kind
binary_gives binary.Join kind = Text
binary_gives binary.Instr kind = Integer
binary_gives binary.And kind = Truth
binary_gives binary.Or kind = Truth
binary_gives binary.Xor kind = Truth
binary_gives binary.Equal kind = Truth
binary_gives binary.NotEqual kind = Truth
binary_gives binary.Less kind = Truth
binary_gives binary.Greater kind = Truth
binary_gives binary.AtMost kind = Truth
binary_gives binary.AtLeast kind = Truth

-- what an aggregate takes, and what it gives of a component of such a kind
abbrev pub aggregate_takes : AggregateFunction → List Kind
aggregate_takes aggregate.Sum = NUMERIC
aggregate_takes aggregate.Avg = NUMERIC
aggregate_takes aggregate.Count = ANY
aggregate_takes aggregate.Min = ANY
aggregate_takes aggregate.Max = ANY
aggregate_takes aggregate.Median = NUMERIC

abbrev pub aggregate_gives : AggregateFunction → Kind → Kind
aggregate_gives aggregate.Sum kind = kind
aggregate_gives aggregate.Avg kind = Number
aggregate_gives aggregate.Count kind = Integer
aggregate_gives aggregate.Min kind = kind
aggregate_gives aggregate.Max kind = kind
aggregate_gives aggregate.Median kind = Number

-- `round` and `trunc` take numbers; without digits they give an integer
abbrev pub round_gives : Option ℤ → Kind
round_gives None = Integer
round_gives (Some digits) = Number

-- what an argument or a result of this sort takes; a data set is no scalar
abbrev pub sort_takes : Sort → List Kind
sort_takes sort.Dataset = []
sort_takes sort.Integer = Integer ∷ []
sort_takes sort.Number = NUMERIC
sort_takes sort.Text = TEXTS
sort_takes sort.Truth = TRUTHS

-- the kind of a literal; null has none of its own
abbrev pub literal_kind : Value → Option Kind
literal_kind value.Null = None
literal_kind (value.Truth b) = Some Truth
literal_kind (value.Integer n) = Some Integer
literal_kind (value.Number n) = Some Number
literal_kind (value.Text cs) = Some Text

-- an integer as a number, and any other value as it is
abbrev pub number_value : Value → Value
number_value (value.Integer n) = value.Number (n *ℤ pos 1000000)
number_value value.Null = value.Null
number_value (value.Truth b) = value.Truth b
number_value (value.Number n) = value.Number n
number_value (value.Text cs) = value.Text cs

-- a literal where this kind is wanted
abbrev pub widened_value : Kind → Value → Value
widened_value Number v = number_value v
widened_value Integer v = v
widened_value Text v = v
widened_value Truth v = v
