-- What an expression outside of clauses is checked to be, or its first fault (docs/language.md, "Structures of results",
-- "Faults of structures").
use Rattle.std.specs.Prelude.{ℕ, List, [], ◌∷◌, ◌++◌, map, Option, Some, None, Result, Ok, ⊤}
use Rattle.std.specs.Option.{option_map, option_to_list}
use Rattle.vtl_values.specs.declared.place.Place.{Place}
use Rattle.vtl_syntax.specs.declared.words.BinaryFunction.{BinaryFunction}
use Rattle.vtl_syntax.specs.declared.words.BinaryFunction.TheVariants as function
use Rattle.vtl_syntax.specs.declared.words.SetFunction.{SetFunction}
use Rattle.vtl_syntax.specs.declared.words.SetFunction.TheVariants as several
use Rattle.vtl_syntax.specs.declared.words.DifferenceFunction.{DifferenceFunction}
use Rattle.vtl_syntax.specs.declared.words.DifferenceFunction.TheVariants as two
use Rattle.vtl_syntax.specs.declared.words.Sort.{Sort}
use Rattle.vtl_syntax.specs.declared.words.Sort.TheVariants.{Dataset}
use Rattle.vtl_syntax.specs.declared.expr.Expr.{Expr, para-Expr}
use Rattle.vtl_syntax.specs.declared.expr.Clause.{Clause}
use Rattle.vtl_syntax.specs.declared.expr.Groups.{Groups}
use Rattle.vtl_syntax.specs.declared.expr.Item.{Item}
use Rattle.vtl_syntax.specs.declared.expr.JoinOperand.{JoinOperand}
use Rattle.vtl_syntax.specs.declared.expr.SubstrRange.{SubstrRange}
use Rattle.vtl_syntax.specs.declared.ruleset.Ruleset.{Ruleset}
use Rattle.vtl_syntax.specs.declared.expr.Clause.TheOpen.{Expr-F, JoinOperand-F, SubstrRange-F}
use Rattle.scalar_trees.specs.declared.operators.BinaryOperator.TheVariants as binary
use Rattle.scalar_trees.specs.declared.typing.stop.Fault.TheVariants.{UnknownComponent, WrongType, WrongStructure}
use Rattle.scalar_trees.specs.declared.typing.stop.Refusal.{Refusal}
use Rattle.scalar_trees.specs.typing.Operators.{prefix_operator, unary_operator, or_operator, sum_operator, product_operator, comparison_operator}
use Rattle.scalar_trees.specs.typing.Scalars.{literal_typed, sort_typed}
use Rattle.scalar_trees.specs.typing.Steps.{◌>>=◌, or_refused, refused}
use Rattle.data_set_trees.specs.declared.form.Form.{Form}
use Rattle.data_set_trees.specs.declared.form.Form.TheVariants as form
use Rattle.data_set_trees.specs.declared.operand.DataSet.{DataSet}
use Rattle.data_set_trees.specs.declared.operand.Operand.{Operand}
use Rattle.data_set_trees.specs.declared.operand.Operand.TheVariants as operand
use Rattle.data_set_trees.specs.declared.tree.SetOperation.{SetOperation}
use Rattle.data_set_trees.specs.declared.tree.SetOperation.TheVariants as operation
use Rattle.data_set_trees.specs.Trees.{SetAnswer}
use Rattle.data_set_trees.specs.Pairs.{lifted}
use Rattle.data_set_trees.specs.Members.{member_typed}
use Rattle.data_set_trees.specs.Exists.{exists_typed}
use Rattle.data_set_trees.specs.Sets.{sets_typed}
use Rattle.data_set_trees.specs.Choices.{choice_typed}
use Rattle.data_set_trees.specs.Joins.{alias_of}
use Rattle.expression_rules.specs.OnClauses.{on_clause}
use Rattle.expression_rules.specs.OnChecks.{check_typed}
use Rattle.expression_rules.specs.OnRules.{datapoint_called, hierarchy_called, with_ruleset, on_datapoint, on_hierarchy, on_check_hierarchy}
use Rattle.expression_rules.specs.OnSets.{on_aggregate, on_window, on_offset, on_time, on_shift, on_fill}
use Rattle.expression_rules.specs.JoinClauses.{join_typed}

-- what the names of data sets stand for, and the rulesets that there are
pub record Naming : Type 0 where
  pub data_set : List ℕ → Option DataSet
  pub rulesets : List Ruleset

-- what an expression is checked to be, where names stand for these
abbrev pub Typing : Type 0
Typing = Naming → SetAnswer

-- of `, start, length`
pub record RangeTyping : Type 0 where
  pub start : Typing
  pub length : Option Typing

-- one level: each part as it is written, and what it is checked to be
abbrev pub Level : Type 0
Level = Expr-F (Clause × ⊤) (Expr × Typing) (Groups × ⊤) (Item × ⊤) (JoinOperand × Typing) (SubstrRange × RangeTyping)

-- ---- operands

-- what the operands are, or the first fault of the first that has one
abbrev pub all_typed : List Typing → Naming → Result (List Operand) Refusal
all_typed [] naming = Ok []
all_typed (t ∷ ts) naming = t naming >>= (λ o. all_typed ts naming >>= (λ os. Ok (o ∷ os)))

abbrev pub typings : List (Expr × Typing) → List Typing
typings parts = map (λ (p : Expr × Typing). p.1) parts

abbrev pub range_typings : Option (SubstrRange × RangeTyping) → List Typing
range_typings None = []
range_typings (Some r) = r.1.start ∷ option_to_list r.1.length

-- a scalar operator on these operands
abbrev pub on_operands : Form → Place → List Typing → Naming → SetAnswer
on_operands f place parts naming = all_typed parts naming >>= lifted f place

-- ---- words

abbrev pub form_of_function : BinaryFunction → Form
form_of_function function.Mod = form.Binary binary.Mod
form_of_function function.Nvl = form.Nvl
form_of_function function.Instr = form.Binary binary.Instr

abbrev pub operation_of : SetFunction → SetOperation
operation_of several.Union = operation.Union
operation_of several.Intersect = operation.Intersect

abbrev pub difference_of : DifferenceFunction → SetOperation
difference_of two.Setdiff = operation.Setdiff
difference_of two.Symdiff = operation.Symdiff

-- ---- forms

-- a name that is an expression stands for a data set
abbrev pub named_typed : Option DataSet → Place → SetAnswer
named_typed known place = or_refused known UnknownComponent place >>= (λ d. Ok (operand.DataSet d))

-- an argument or a result of a defined operator is of its sort
abbrev pub sorted : Sort → Place → Operand → SetAnswer
sorted sort place (operand.Scalar t) = sort_typed sort place t >>= (λ u. Ok (operand.Scalar u))
sorted Dataset place (operand.DataSet d) = Ok (operand.DataSet d)
sorted _ place (operand.DataSet d) = refused WrongType place

abbrev pub choice_of : Place → List Operand → SetAnswer
choice_of place (c ∷ a ∷ b ∷ []) = choice_typed place c a b
choice_of place _ = refused WrongStructure place

abbrev pub join_typings : JoinOperand × Typing → JoinOperand × Typing → List (JoinOperand × Typing) → List Typing
join_typings a b others = map (λ (p : JoinOperand × Typing). p.1) (a ∷ b ∷ others)

abbrev pub join_aliases : JoinOperand × Typing → JoinOperand × Typing → List (JoinOperand × Typing) → List (Option (List ℕ))
join_aliases a b others = map (λ (p : JoinOperand × Typing). alias_of p.0) (a ∷ b ∷ others)

-- those of the clauses in a join that are there, in their order
abbrev pub clauses_of : Option (Clause × ⊤) → Option (Clause × ⊤) → Option (Clause × ⊤) → Option (Clause × ⊤) → List Clause
clauses_of filter calc keep rename = map (λ (p : Clause × ⊤). p.0) (((option_to_list filter ++ option_to_list calc) ++ option_to_list keep) ++ option_to_list rename)

-- Names stand for data sets; each operator has its operands, and then its own faults. `count()` and `rank` have no place
-- outside of clauses. Calls of defined operators are written out before, and are none here.
abbrev pub typed_step : Level → Naming → SetAnswer
typed_step (Expr-F.Literal v place) naming = Ok (operand.Scalar (literal_typed v))
typed_step (Expr-F.Name name place) naming = named_typed (naming.data_set name) place
typed_step (Expr-F.Bracket a place) naming = a.1 naming
typed_step (Expr-F.Signed sign a place) naming = on_operands (form.Unary (prefix_operator sign)) place (a.1 ∷ []) naming
typed_step (Expr-F.Unary f a place) naming = on_operands (form.Unary (unary_operator f)) place (a.1 ∷ []) naming
typed_step (Expr-F.Or a sign b place) naming = on_operands (form.Binary (or_operator sign)) place (a.1 ∷ b.1 ∷ []) naming
typed_step (Expr-F.And a b place) naming = on_operands (form.Binary binary.And) place (a.1 ∷ b.1 ∷ []) naming
typed_step (Expr-F.Compare a sign b place) naming = on_operands (form.Binary (comparison_operator sign)) place (a.1 ∷ b.1 ∷ []) naming
typed_step (Expr-F.Sum a sign b place) naming = on_operands (form.Binary (sum_operator sign)) place (a.1 ∷ b.1 ∷ []) naming
typed_step (Expr-F.Product a sign b place) naming = on_operands (form.Binary (product_operator sign)) place (a.1 ∷ b.1 ∷ []) naming
typed_step (Expr-F.Binary f a b place) naming = on_operands (form_of_function f) place (a.1 ∷ b.1 ∷ []) naming
typed_step (Expr-F.In a sign set place) naming = on_operands (form.In sign set) place (a.1 ∷ []) naming
typed_step (Expr-F.Between a low high place) naming = on_operands (form.Between low high) place (a.1 ∷ []) naming
typed_step (Expr-F.Round f a digits place) naming = on_operands (form.Round f digits) place (a.1 ∷ []) naming
typed_step (Expr-F.MatchCharacters a pattern place) naming = on_operands (form.Matches pattern) place (a.1 ∷ []) naming
typed_step (Expr-F.Substr a range place) naming = on_operands form.Substr place (a.1 ∷ range_typings range) naming
typed_step (Expr-F.Replace a old by place) naming = on_operands form.Replace place (a.1 ∷ old.1 ∷ typings (option_to_list by)) naming
typed_step (Expr-F.If c a b place) naming = all_typed (c.1 ∷ a.1 ∷ b.1 ∷ []) naming >>= choice_of place
typed_step (Expr-F.Typed sort a place) naming = a.1 naming >>= sorted sort place
typed_step (Expr-F.Member a name place) naming = a.1 naming >>= member_typed name place
typed_step (Expr-F.Clause a clause place) naming = a.1 naming >>= on_clause clause.0
typed_step (Expr-F.ExistsIn a b rows place) naming = a.1 naming >>= (λ x. b.1 naming >>= exists_typed rows place x)
typed_step (Expr-F.Sets f a b others place) naming = all_typed (a.1 ∷ b.1 ∷ typings others) naming >>= sets_typed (operation_of f) place
typed_step (Expr-F.Difference f a b place) naming = all_typed (a.1 ∷ b.1 ∷ []) naming >>= sets_typed (difference_of f) place
typed_step (Expr-F.Join f a b others filter calc keep rename place) naming = all_typed (join_typings a b others) naming >>= join_typed f place (join_aliases a b others) (clauses_of filter calc keep rename)
typed_step (Expr-F.Aggregate f a groups place) naming = a.1 naming >>= on_aggregate f (option_map (λ (g : Groups × ⊤). g.0) groups) place
typed_step (Expr-F.Window f a over place) naming = a.1 naming >>= on_window f over place
typed_step (Expr-F.CountAll place) naming = refused WrongStructure place
typed_step (Expr-F.Offset f a offset over place) naming = a.1 naming >>= on_offset f offset over place
typed_step (Expr-F.Rank over place) naming = refused WrongStructure place
typed_step (Expr-F.CheckDatapoint a rules rules_place output place) naming = with_ruleset (datapoint_called naming.rulesets rules) rules_place (λ r. a.1 naming >>= on_datapoint output place r)
typed_step (Expr-F.Hierarchy a rules rules_place component mode input output place) naming =
    with_ruleset (hierarchy_called naming.rulesets rules) rules_place (λ r. a.1 naming >>= on_hierarchy component mode input output place r)
typed_step (Expr-F.CheckHierarchy a rules rules_place component mode input output place) naming =
    with_ruleset (hierarchy_called naming.rulesets rules) rules_place (λ r. a.1 naming >>= on_check_hierarchy component mode input output place r)
typed_step (Expr-F.Check a code level imbalance output place) naming = all_typed (a.1 ∷ typings (option_to_list imbalance)) naming >>= check_typed (record { code = code; level = level }) output place
typed_step (Expr-F.Time f a place) naming = a.1 naming >>= on_time f place
typed_step (Expr-F.Timeshift a shift place) naming = a.1 naming >>= on_shift shift place
typed_step (Expr-F.FillTimeSeries a span place) naming = a.1 naming >>= on_fill span place
typed_step (Expr-F.CallOf name arguments place) naming = refused WrongStructure place

-- ---- whole expressions

abbrev pub operand_step : JoinOperand-F (Clause × ⊤) (Expr × Typing) (Groups × ⊤) (Item × ⊤) (JoinOperand × Typing) (SubstrRange × RangeTyping) → Typing
operand_step o = o.expr.1

abbrev pub range_step : SubstrRange-F (Clause × ⊤) (Expr × Typing) (Groups × ⊤) (Item × ⊤) (JoinOperand × Typing) (SubstrRange × RangeTyping) → RangeTyping
range_step r = record { start = r.start.1; length = option_map (λ (p : Expr × Typing). p.1) r.length }

abbrev pub typing : Expr → Typing
typing = para-Expr ⊤ Typing ⊤ ⊤ Typing RangeTyping (λ clause. tt) typed_step (λ groups. tt) (λ item. tt) operand_step range_step

-- what an expression is checked to be where names stand for these, or its first fault
abbrev pub typed : Naming → Expr → SetAnswer
typed naming e = typing e naming
