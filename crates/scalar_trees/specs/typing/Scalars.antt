-- What a scalar expression is checked to be, or its first fault (docs/language.md, "Scalar operators", "Faults of types").
use Rattle.std.specs.Prelude.{ℕ, ℤ, Bool, not, ◌&&◌, List, [], ◌∷◌, map, Option, Some, None, is_some, option_and_then, Result, Ok, ⊤, if◌then◌else◌}
use Rattle.std.specs.Option.{option_map, option_to_list}
use Rattle.std.specs.List.{list_all}
use Rattle.vtl_values.specs.declared.kind.Kind.{Kind}
use Rattle.vtl_values.specs.declared.kind.Kind.TheVariants.{Integer, Number, Text, Truth}
use Rattle.vtl_values.specs.declared.place.Place.{Place}
use Rattle.vtl_values.specs.declared.value.Value.{Value}
use Rattle.vtl_syntax.specs.declared.words.AggregateFunction.{AggregateFunction}
use Rattle.vtl_syntax.specs.declared.words.BinaryFunction.{BinaryFunction}
use Rattle.vtl_syntax.specs.declared.words.BinaryFunction.TheVariants as function
use Rattle.vtl_syntax.specs.declared.words.InSign.{InSign}
use Rattle.vtl_syntax.specs.declared.words.RoundFunction.{RoundFunction}
use Rattle.vtl_syntax.specs.declared.words.Sort.{Sort}
use Rattle.vtl_syntax.specs.declared.expr.Expr.{Expr, fold-Expr}
use Rattle.vtl_syntax.specs.declared.expr.Clause.{Clause, out-Clause}
use Rattle.vtl_syntax.specs.declared.expr.JoinOperand.{JoinOperand, fold-JoinOperand}
use Rattle.vtl_syntax.specs.declared.expr.Clause.TheOpen.{Clause-F, Expr-F, JoinOperand-F, SubstrRange-F}
use Rattle.scalar_texts.specs.Patterns.{is_pattern}
use Rattle.scalar_trees.specs.declared.tree.CheckedExpr.{CheckedExpr, out-CheckedExpr}
use Rattle.scalar_trees.specs.declared.tree.CheckedExpr.TheOpen.{CheckedExpr-F}
use Rattle.scalar_trees.specs.declared.tree.CheckedExpr.TheVariants as tree
use Rattle.scalar_trees.specs.declared.operators.UnaryOperator.{UnaryOperator}
use Rattle.scalar_trees.specs.declared.operators.BinaryOperator.{BinaryOperator}
use Rattle.scalar_trees.specs.declared.operators.BinaryOperator.TheVariants as binary
use Rattle.scalar_trees.specs.Kinds.{ANY, agreed, unary_takes, unary_gives, binary_takes, binary_gives, aggregate_takes, aggregate_gives, round_gives, sort_takes, literal_kind, widened_value}
use Rattle.scalar_trees.specs.WellTyped.{digits_fit, is_present}
use Rattle.scalar_trees.specs.declared.typing.scope.Basis.{Basis}
use Rattle.scalar_trees.specs.declared.typing.scope.Basis.TheVariants.{Point, Group}
use Rattle.scalar_trees.specs.declared.typing.scope.Scope.{Scope}
use Rattle.scalar_trees.specs.declared.typing.scope.Slot.{Slot}
use Rattle.scalar_trees.specs.declared.typing.stop.Fault.TheVariants.{UnknownComponent, WrongType, WrongStructure, BadConstant, BadPattern}
use Rattle.scalar_trees.specs.declared.typing.stop.Refusal.{Refusal}
use Rattle.scalar_trees.specs.declared.typing.typed.Typed.{Typed}
use Rattle.scalar_trees.specs.typing.Operators.{prefix_operator, unary_operator, or_operator, sum_operator, product_operator, comparison_operator}
use Rattle.scalar_trees.specs.typing.Scopes.{named, member}
use Rattle.scalar_trees.specs.typing.Steps.{◌>>=◌, or_refused, refused, demanded}

-- a checked expression with its kind, or the first fault: operands first, and of one expression's own the lowest number
abbrev pub Answer : Type 0
Answer = Result Typed Refusal

abbrev pub typed_as : Kind → CheckedExpr → Typed
typed_as kind a = record { tree = a; kind = Some kind }

-- ---- operands

-- an operand where this kind is wanted: there an integer becomes a number
abbrev pub widened_tree : Kind → Option Kind → CheckedExpr → CheckedExpr
widened_tree Number (Some Integer) a = tree.Widened a
widened_tree _ _ a = a

abbrev pub widened : Kind → Typed → CheckedExpr
widened wanted typed = widened_tree wanted typed.kind typed.tree

-- the kind at which operands agree, one of those that their operator takes; else WrongType
abbrev pub joint : Place → List Kind → List (Option Kind) → Result Kind Refusal
joint place takes kinds = or_refused (agreed takes kinds) WrongType place

-- an operand of just this kind
abbrev pub wanted : Place → Kind → Typed → Result CheckedExpr Refusal
wanted place kind a = joint place (kind ∷ []) (a.kind ∷ []) >>= (λ q. Ok (widened q a))

-- the same, where it is given
abbrev pub wanted_if : Place → Kind → Option Typed → Result (Option CheckedExpr) Refusal
wanted_if place kind None = Ok None
wanted_if place kind (Some a) = wanted place kind a >>= (λ t. Ok (Some t))

-- two operands at the kind at which they agree
pub record Agreed : Type 0 where
  pub kind : Kind
  pub left : CheckedExpr
  pub right : CheckedExpr

abbrev pub agreeing : Place → List Kind → Typed → Typed → Result Agreed Refusal
agreeing place takes a b = joint place takes (a.kind ∷ b.kind ∷ []) >>= (λ kind. Ok (record { kind = kind; left = widened kind a; right = widened kind b }))

-- ---- operators

abbrev pub literal_typed : Value → Typed
literal_typed v = record { tree = tree.Literal v; kind = literal_kind v }

abbrev pub slot_typed : Slot → Typed
slot_typed slot = typed_as slot.kind (tree.Component slot.number)

-- the component that a name stands for, if it does
abbrev pub component_typed : Option Slot → Place → Answer
component_typed slot place = or_refused slot UnknownComponent place >>= (λ s. Ok (slot_typed s))

abbrev pub unary_typed : UnaryOperator → Place → Typed → Answer
unary_typed operator place a = joint place (unary_takes operator) (a.kind ∷ []) >>= (λ kind. Ok (typed_as (unary_gives operator kind) (tree.Unary operator (widened kind a))))

abbrev pub binary_typed : BinaryOperator → Place → Typed → Typed → Answer
binary_typed operator place a b = agreeing place (binary_takes operator) a b >>= (λ j. Ok (typed_as (binary_gives operator j.kind) (tree.Binary operator j.left j.right)))

abbrev pub nvl_typed : Place → Typed → Typed → Answer
nvl_typed place a b = agreeing place ANY a b >>= (λ j. Ok (typed_as j.kind (tree.Nvl j.left j.right)))

abbrev pub function_typed : BinaryFunction → Place → Typed → Typed → Answer
function_typed function.Mod place a b = binary_typed binary.Mod place a b
function_typed function.Nvl place a b = nvl_typed place a b
function_typed function.Instr place a b = binary_typed binary.Instr place a b

-- a condition, and branches that agree
abbrev pub if_typed : Place → Typed → Typed → Typed → Answer
if_typed place c a b = wanted place Truth c >>= (λ condition. agreeing place ANY a b >>= (λ j. Ok (typed_as j.kind (tree.If condition j.left j.right))))

-- the operand and all literals agree, and no literal is null
abbrev pub in_typed : InSign → List Value → Place → Typed → Answer
in_typed sign set place a =
    joint place ANY (a.kind ∷ map literal_kind set) >>= (λ kind. demanded (list_all is_present set) BadConstant place >>= (λ met. Ok (typed_as Truth (tree.In (widened kind a) sign (map (widened_value kind) set)))))

-- the operand and its bounds agree
abbrev pub between_typed : Value → Value → Place → Typed → Answer
between_typed low high place a =
    joint place ANY (a.kind ∷ literal_kind low ∷ literal_kind high ∷ []) >>= (λ kind. Ok (typed_as Truth (tree.Between (widened kind a) (widened_value kind low) (widened_value kind high))))

-- a number, and digits within their limits
abbrev pub round_typed : RoundFunction → Option ℤ → Place → Typed → Answer
round_typed function digits place a = wanted place Number a >>= (λ operand. demanded (digits_fit digits) BadConstant place >>= (λ met. Ok (typed_as (round_gives digits) (tree.Round function operand digits))))

abbrev pub matches_typed : List ℕ → Place → Typed → Answer
matches_typed pattern place a = wanted place Text a >>= (λ operand. demanded (is_pattern pattern) BadPattern place >>= (λ met. Ok (typed_as Truth (tree.Matches operand pattern))))

abbrev pub substr_typed : Place → Typed → Option Typed → Option Typed → Answer
substr_typed place a start length =
    wanted place Text a >>= (λ operand. wanted_if place Integer start >>= (λ from. wanted_if place Integer length >>= (λ count. Ok (typed_as Text (tree.Substr operand from count)))))

abbrev pub replace_typed : Place → Typed → Typed → Option Typed → Answer
replace_typed place a old by = wanted place Text a >>= (λ operand. wanted place Text old >>= (λ pattern. wanted_if place Text by >>= (λ new. Ok (typed_as Text (tree.Replace operand pattern new)))))

-- an argument or a result of the sort; it keeps its own kind
abbrev pub sort_typed : Sort → Place → Typed → Answer
sort_typed sort place a = joint place (sort_takes sort) (a.kind ∷ []) >>= (λ kind. Ok (typed_as kind (tree.OfSort sort (widened kind a))))

-- the number of the component that an expression is, if it is one
abbrev pub number_step : {X : Type 0} → CheckedExpr-F X → Option ℕ
number_step (CheckedExpr-F.Component number) = Some number
number_step _ = None

abbrev pub component_number : CheckedExpr → Option ℕ
component_number t = number_step (out-CheckedExpr t)

-- an aggregate is taken of a component, which stands as a bare name, and groups nothing of its own
abbrev pub aggregate_typed : AggregateFunction → Bool → Place → Typed → Answer
aggregate_typed function is_bare place a =
    joint place (aggregate_takes function) (a.kind ∷ []) >>= (λ kind. or_refused (if is_bare then component_number a.tree else None) WrongStructure place >>= (λ number. Ok (typed_as (aggregate_gives function kind) (tree.Aggregate function number))))

-- ---- expressions

pub record Meaning : Type 0 where
  -- the name that the expression is, where it is just a name
  pub own_name : Option (List ℕ)
  -- its checked tree with its kind, or its first fault, where names stand for this, and it is worked out on that
  pub typed : Scope → Basis → Answer

-- `, start, length` of `substr`
pub record RangeMeaning : Type 0 where
  pub start : Meaning
  pub length : Option Meaning

-- One level, whose parts have their meaning. Of a clause only the place of its word counts in a scalar expression, and
-- groupings and items aren't looked at.
abbrev pub Level : Type 0
Level = Expr-F Place Meaning ⊤ ⊤ Meaning RangeMeaning

abbrev pub own_name_of : Level → Option (List ℕ)
own_name_of (Expr-F.Name name place) = Some name
own_name_of _ = None

-- operands are looked at in order, for their faults alone
abbrev pub visited : List Meaning → Scope → Basis → Result (Unit {0}) Refusal
visited [] scope basis = Ok tt
visited (m ∷ ms) scope basis = m.typed scope basis >>= (λ a. visited ms scope basis)

-- what stands for a data set: its operands, and then WrongStructure
abbrev pub misplaced : List Meaning → Place → Scope → Basis → Answer
misplaced parts place scope basis = visited parts scope basis >>= (λ met. refused WrongStructure place)

abbrev pub typed_if : Option Meaning → Scope → Basis → Result (Option Typed) Refusal
typed_if None scope basis = Ok None
typed_if (Some m) scope basis = m.typed scope basis >>= (λ a. Ok (Some a))

-- `alias#name` is one expression, so the alias isn't looked at as a name
abbrev pub member_typed : Option (List ℕ) → Meaning → List ℕ → Place → Scope → Basis → Answer
member_typed (Some alias) a name place scope basis = component_typed (member scope basis alias name) place
member_typed None a name place scope basis = misplaced (a ∷ []) place scope basis

-- aggregates stand on a group; inside of one, names are those of points
abbrev pub aggregate_at : AggregateFunction → Meaning → Bool → Place → Scope → Basis → Answer
aggregate_at function a is_grouped place scope Point = misplaced (a ∷ []) place scope Point
aggregate_at function a is_grouped place scope Group = a.typed scope Point >>= aggregate_typed function (is_some a.own_name && not is_grouped) place

abbrev pub count_at : Place → Basis → Answer
count_at place Point = refused WrongStructure place
count_at place Group = Ok (typed_as Integer tree.CountAll)

abbrev pub typed_step : Level → Scope → Basis → Answer
typed_step (Expr-F.Literal v place) scope basis = Ok (literal_typed v)
typed_step (Expr-F.Name name place) scope basis = component_typed (named scope basis name) place
typed_step (Expr-F.Bracket a place) scope basis = a.typed scope basis
typed_step (Expr-F.Signed sign a place) scope basis = a.typed scope basis >>= unary_typed (prefix_operator sign) place
typed_step (Expr-F.Unary f a place) scope basis = a.typed scope basis >>= unary_typed (unary_operator f) place
typed_step (Expr-F.Or a sign b place) scope basis = a.typed scope basis >>= (λ x. b.typed scope basis >>= binary_typed (or_operator sign) place x)
typed_step (Expr-F.And a b place) scope basis = a.typed scope basis >>= (λ x. b.typed scope basis >>= binary_typed binary.And place x)
typed_step (Expr-F.Compare a sign b place) scope basis = a.typed scope basis >>= (λ x. b.typed scope basis >>= binary_typed (comparison_operator sign) place x)
typed_step (Expr-F.Sum a sign b place) scope basis = a.typed scope basis >>= (λ x. b.typed scope basis >>= binary_typed (sum_operator sign) place x)
typed_step (Expr-F.Product a sign b place) scope basis = a.typed scope basis >>= (λ x. b.typed scope basis >>= binary_typed (product_operator sign) place x)
typed_step (Expr-F.Binary f a b place) scope basis = a.typed scope basis >>= (λ x. b.typed scope basis >>= function_typed f place x)
typed_step (Expr-F.If c a b place) scope basis = c.typed scope basis >>= (λ x. a.typed scope basis >>= (λ y. b.typed scope basis >>= if_typed place x y))
typed_step (Expr-F.In a sign set place) scope basis = a.typed scope basis >>= in_typed sign set place
typed_step (Expr-F.Between a low high place) scope basis = a.typed scope basis >>= between_typed low high place
typed_step (Expr-F.Round f a digits place) scope basis = a.typed scope basis >>= round_typed f digits place
typed_step (Expr-F.MatchCharacters a pattern place) scope basis = a.typed scope basis >>= matches_typed pattern place
typed_step (Expr-F.Substr a range place) scope basis =
    a.typed scope basis >>= (λ x. typed_if (option_map (λ r. r.start) range) scope basis >>= (λ start. typed_if (option_and_then (λ r. r.length) range) scope basis >>= substr_typed place x start))
typed_step (Expr-F.Replace a old by place) scope basis = a.typed scope basis >>= (λ x. old.typed scope basis >>= (λ y. typed_if by scope basis >>= replace_typed place x y))
typed_step (Expr-F.Typed sort a place) scope basis = a.typed scope basis >>= sort_typed sort place
typed_step (Expr-F.Member a name place) scope basis = member_typed a.own_name a name place scope basis
typed_step (Expr-F.Aggregate f a groups place) scope basis = aggregate_at f a (is_some groups) place scope basis
typed_step (Expr-F.CountAll place) scope basis = count_at place basis
typed_step (Expr-F.Clause a clause place) scope basis = misplaced (a ∷ []) clause scope basis
typed_step (Expr-F.ExistsIn a b rows place) scope basis = misplaced (a ∷ b ∷ []) place scope basis
typed_step (Expr-F.Sets f a b others place) scope basis = misplaced (a ∷ b ∷ others) place scope basis
typed_step (Expr-F.Difference f a b place) scope basis = misplaced (a ∷ b ∷ []) place scope basis
typed_step (Expr-F.Join f a b others filter calc keep rename place) scope basis = misplaced (a ∷ b ∷ others) place scope basis
typed_step (Expr-F.Window f a over place) scope basis = misplaced (a ∷ []) place scope basis
typed_step (Expr-F.Offset f a offset over place) scope basis = misplaced (a ∷ []) place scope basis
typed_step (Expr-F.Rank over place) scope basis = misplaced [] place scope basis
typed_step (Expr-F.CheckDatapoint a rules rules_place output place) scope basis = misplaced (a ∷ []) place scope basis
typed_step (Expr-F.Hierarchy a rules rules_place component mode input output place) scope basis = misplaced (a ∷ []) place scope basis
typed_step (Expr-F.CheckHierarchy a rules rules_place component mode input output place) scope basis = misplaced (a ∷ []) place scope basis
typed_step (Expr-F.Check a code level imbalance output place) scope basis = misplaced (a ∷ option_to_list imbalance) place scope basis
typed_step (Expr-F.Time f a place) scope basis = misplaced (a ∷ []) place scope basis
typed_step (Expr-F.Timeshift a shift place) scope basis = misplaced (a ∷ []) place scope basis
typed_step (Expr-F.FillTimeSeries a span place) scope basis = misplaced (a ∷ []) place scope basis
typed_step (Expr-F.CallOf name arguments place) scope basis = misplaced arguments place scope basis

abbrev pub clause_place : {A B C D E F : Type 0} → Clause-F A B C D E F → Place
clause_place (Clause-F.Filter condition place) = place
clause_place (Clause-F.Calc items place) = place
clause_place (Clause-F.Keep components place) = place
clause_place (Clause-F.Drop components place) = place
clause_place (Clause-F.Rename renames place) = place
clause_place (Clause-F.Sub items place) = place
clause_place (Clause-F.Unpivot identifier measure place) = place
clause_place (Clause-F.Aggr items groups place) = place

abbrev pub step : Level → Meaning
step x = record { own_name = own_name_of x; typed = typed_step x }

abbrev pub operand_step : JoinOperand-F Place Meaning ⊤ ⊤ Meaning RangeMeaning → Meaning
operand_step x = x.expr

abbrev pub range_step : SubstrRange-F Place Meaning ⊤ ⊤ Meaning RangeMeaning → RangeMeaning
range_step x = record { start = x.start; length = x.length }

abbrev pub meaning : Expr → Meaning
meaning = fold-Expr Place Meaning ⊤ ⊤ Meaning RangeMeaning clause_place step (λ groups. tt) (λ item. tt) operand_step range_step

abbrev pub operand_meaning : JoinOperand → Meaning
operand_meaning = fold-JoinOperand Place Meaning ⊤ ⊤ Meaning RangeMeaning clause_place step (λ groups. tt) (λ item. tt) operand_step range_step

-- what an expression is checked to be, or its first fault
abbrev pub typed : Scope → Basis → Expr → Answer
typed scope basis e = (meaning e).typed scope basis

-- ---- whole expressions

-- the kind of a whole expression: where it is the literal null, the first of the kinds that its place takes
abbrev pub whole_kind : Kind → Option Kind → Kind
whole_kind first None = first
whole_kind first (Some kind) = kind

abbrev pub whole_as : Kind → Typed → CheckedExpr × Kind
whole_as first a = record { 0 = a.tree; 1 = whole_kind first a.kind }

-- a whole expression, where null has this kind
abbrev pub whole : Kind → Scope → Basis → Expr → Result (CheckedExpr × Kind) Refusal
whole first scope basis e = typed scope basis e >>= (λ a. Ok (whole_as first a))

-- the place of a clause's word
abbrev pub place_of : Clause → Place
place_of c = clause_place (out-Clause c)
