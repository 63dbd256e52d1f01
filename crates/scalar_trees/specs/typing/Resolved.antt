-- Scalar expressions as they are written, with components for names and without brackets, whatever their kinds.
use Rattle.std.specs.Prelude.{ℕ, Bool, List, map, Option, Some, None, is_some, option_and_then, ⊤, if◌then◌else◌}
use Rattle.std.specs.Option.{option_map}
use Rattle.vtl_syntax.specs.declared.words.AggregateFunction.{AggregateFunction}
use Rattle.vtl_syntax.specs.declared.words.BinaryFunction.{BinaryFunction}
use Rattle.vtl_syntax.specs.declared.words.BinaryFunction.TheVariants as function
use Rattle.vtl_syntax.specs.declared.expr.Expr.{Expr, fold-Expr}
use Rattle.vtl_syntax.specs.declared.expr.Clause.TheOpen.{Expr-F, JoinOperand-F, SubstrRange-F}
use Rattle.scalar_trees.specs.declared.tree.CheckedExpr.{CheckedExpr}
use Rattle.scalar_trees.specs.declared.tree.CheckedExpr.TheVariants as tree
use Rattle.scalar_trees.specs.declared.operators.BinaryOperator.{BinaryOperator}
use Rattle.scalar_trees.specs.declared.operators.BinaryOperator.TheVariants as binary
use Rattle.scalar_trees.specs.Kinds.{number_value}
use Rattle.scalar_trees.specs.declared.typing.scope.Basis.{Basis}
use Rattle.scalar_trees.specs.declared.typing.scope.Basis.TheVariants.{Point, Group}
use Rattle.scalar_trees.specs.declared.typing.scope.Scope.{Scope}
use Rattle.scalar_trees.specs.declared.typing.scope.Slot.{Slot}
use Rattle.scalar_trees.specs.typing.Operators.{prefix_operator, unary_operator, or_operator, sum_operator, product_operator, comparison_operator}
use Rattle.scalar_trees.specs.typing.Scopes.{named, member}

abbrev pub Resolved : Type 0
Resolved = Option CheckedExpr

abbrev pub one : (CheckedExpr → CheckedExpr) → Resolved → Resolved
one make a = option_map make a

abbrev pub two : (CheckedExpr → CheckedExpr → CheckedExpr) → Resolved → Resolved → Resolved
two make a b = option_and_then (λ x. option_map (make x) b) a

abbrev pub three : (CheckedExpr → CheckedExpr → CheckedExpr → CheckedExpr) → Resolved → Resolved → Resolved → Resolved
three make a b c = option_and_then (λ x. two (make x) b c) a

abbrev pub binary_of : BinaryOperator → Resolved → Resolved → Resolved
binary_of operator a b = two (tree.Binary operator) a b

abbrev pub function_of : BinaryFunction → Resolved → Resolved → Resolved
function_of function.Mod a b = binary_of binary.Mod a b
function_of function.Nvl a b = two tree.Nvl a b
function_of function.Instr a b = binary_of binary.Instr a b

-- a part that may be left out
abbrev pub if_given : Option Resolved → Option (Option CheckedExpr)
if_given None = Some None
if_given (Some a) = option_map Some a

abbrev pub component_of : Option Slot → Resolved
component_of slot = option_map (λ s. tree.Component s.number) slot

-- what an expression is, and the name that it is just
pub record Part : Type 0 where
  pub own_name : Option (List ℕ)
  pub resolved : Scope → Basis → Resolved

pub record RangePart : Type 0 where
  pub start : Part
  pub length : Option Part

abbrev pub PartLevel : Type 0
PartLevel = Expr-F ⊤ Part ⊤ ⊤ Part RangePart

abbrev pub part_name : PartLevel → Option (List ℕ)
part_name (Expr-F.Name name place) = Some name
part_name _ = None

abbrev pub aggregate_of : AggregateFunction → Bool → Option (List ℕ) → Scope → Basis → Resolved
aggregate_of f is_grouped name scope Point = None
aggregate_of f is_grouped name scope Group = if is_grouped then None else option_map (λ s. tree.Aggregate f s.number) (option_and_then (named scope Point) name)

abbrev pub count_of : Basis → Resolved
count_of Point = None
count_of Group = Some tree.CountAll

abbrev pub resolved_step : PartLevel → Scope → Basis → Resolved
resolved_step (Expr-F.Literal v place) scope basis = Some (tree.Literal v)
resolved_step (Expr-F.Name name place) scope basis = component_of (named scope basis name)
resolved_step (Expr-F.Bracket a place) scope basis = a.resolved scope basis
resolved_step (Expr-F.Signed sign a place) scope basis = one (tree.Unary (prefix_operator sign)) (a.resolved scope basis)
resolved_step (Expr-F.Unary f a place) scope basis = one (tree.Unary (unary_operator f)) (a.resolved scope basis)
resolved_step (Expr-F.Or a sign b place) scope basis = binary_of (or_operator sign) (a.resolved scope basis) (b.resolved scope basis)
resolved_step (Expr-F.And a b place) scope basis = binary_of binary.And (a.resolved scope basis) (b.resolved scope basis)
resolved_step (Expr-F.Compare a sign b place) scope basis = binary_of (comparison_operator sign) (a.resolved scope basis) (b.resolved scope basis)
resolved_step (Expr-F.Sum a sign b place) scope basis = binary_of (sum_operator sign) (a.resolved scope basis) (b.resolved scope basis)
resolved_step (Expr-F.Product a sign b place) scope basis = binary_of (product_operator sign) (a.resolved scope basis) (b.resolved scope basis)
resolved_step (Expr-F.Binary f a b place) scope basis = function_of f (a.resolved scope basis) (b.resolved scope basis)
resolved_step (Expr-F.If c a b place) scope basis = three tree.If (c.resolved scope basis) (a.resolved scope basis) (b.resolved scope basis)
resolved_step (Expr-F.In a sign set place) scope basis = one (λ x. tree.In x sign (map number_value set)) (a.resolved scope basis)
resolved_step (Expr-F.Between a low high place) scope basis = one (λ x. tree.Between x (number_value low) (number_value high)) (a.resolved scope basis)
resolved_step (Expr-F.Round f a digits place) scope basis = one (λ x. tree.Round f x digits) (a.resolved scope basis)
resolved_step (Expr-F.MatchCharacters a pattern place) scope basis = one (λ x. tree.Matches x pattern) (a.resolved scope basis)
resolved_step (Expr-F.Substr a range place) scope basis =
    option_and_then (λ x. option_and_then (λ start. option_map (tree.Substr x start) (if_given (option_map (λ p. p.resolved scope basis) (option_and_then (λ r. r.length) range)))) (if_given (option_map (λ r. r.start.resolved scope basis) range))) (a.resolved scope basis)
resolved_step (Expr-F.Replace a old by place) scope basis =
    option_and_then (λ x. option_and_then (λ y. option_map (tree.Replace x y) (if_given (option_map (λ p. p.resolved scope basis) by))) (old.resolved scope basis)) (a.resolved scope basis)
resolved_step (Expr-F.Typed sort a place) scope basis = one (tree.OfSort sort) (a.resolved scope basis)
resolved_step (Expr-F.Member a name place) scope basis = option_and_then (λ alias. component_of (member scope basis alias name)) a.own_name
resolved_step (Expr-F.Aggregate f a groups place) scope basis = aggregate_of f (is_some groups) a.own_name scope basis
resolved_step (Expr-F.CountAll place) scope basis = count_of basis
resolved_step _ scope basis = None

abbrev pub part_step : PartLevel → Part
part_step x = record { own_name = part_name x; resolved = resolved_step x }

abbrev pub part_operand : JoinOperand-F ⊤ Part ⊤ ⊤ Part RangePart → Part
part_operand x = x.expr

abbrev pub part_range : SubstrRange-F ⊤ Part ⊤ ⊤ Part RangePart → RangePart
part_range x = record { start = x.start; length = x.length }

abbrev pub part : Expr → Part
part = fold-Expr ⊤ Part ⊤ ⊤ Part RangePart (λ clause. tt) part_step (λ groups. tt) (λ item. tt) part_operand part_range

-- The expression, if it can be a scalar at all: each name stands for a component, and nothing in it stands for a data set.
-- In sets and bounds integers stand as numbers.
abbrev pub resolved : Scope → Basis → Expr → Resolved
resolved scope basis e = (part e).resolved scope basis
