-- Which trees are spelled alike.
use Rattle.vtl_syntax.specs.declared.expr.Expr.{Expr, out-Expr}
use Rattle.vtl_syntax.specs.declared.expr.Clause.{Clause}
use Rattle.vtl_syntax.specs.declared.expr.Groups.{Groups}
use Rattle.vtl_syntax.specs.declared.expr.Item.{Item}
use Rattle.vtl_syntax.specs.declared.expr.JoinOperand.{JoinOperand}
use Rattle.vtl_syntax.specs.declared.expr.SubstrRange.{SubstrRange}
use Rattle.vtl_syntax.specs.declared.expr.Clause.TheOpen.{Expr-F}

pub data Shape : Type 0 where
  -- it holds no tree
  leaf : Shape
  -- a tree alone
  bare : Shape
  -- a word between two conditions
  between_conditions : Shape
  -- a sign between two operands
  between_operands : Shape
  -- a word or a sign of its own, and no call
  own_word : Shape
  -- what stands behind an operand
  behind_operand : Shape
  one_operand_call : Shape
  two_operands_call : Shape
  -- a call of one operand or more
  operands_call : Shape
  join_call : Shape
  -- a call over groups or over rows
  aggregate_call : Shape
  check_call : Shape
  -- a call by a hierarchical ruleset
  hierarchical_call : Shape

abbrev pub layer_shape : Expr-F Clause Expr Groups Item JoinOperand SubstrRange → Shape
layer_shape (Expr-F.Or a s b p) = between_conditions
layer_shape (Expr-F.And a b p) = between_conditions
layer_shape (Expr-F.Compare a s b p) = between_operands
layer_shape (Expr-F.Sum a s b p) = between_operands
layer_shape (Expr-F.Product a s b p) = between_operands
layer_shape (Expr-F.If c a b p) = own_word
layer_shape (Expr-F.Signed s a p) = own_word
layer_shape (Expr-F.Bracket a p) = own_word
layer_shape (Expr-F.In a s vs p) = behind_operand
layer_shape (Expr-F.Member a w p) = behind_operand
layer_shape (Expr-F.Clause a c p) = behind_operand
layer_shape (Expr-F.Unary f a p) = one_operand_call
layer_shape (Expr-F.Round f a n p) = one_operand_call
layer_shape (Expr-F.Between a u v p) = one_operand_call
layer_shape (Expr-F.MatchCharacters a t p) = one_operand_call
layer_shape (Expr-F.Binary f a b p) = two_operands_call
layer_shape (Expr-F.Difference f a b p) = two_operands_call
layer_shape (Expr-F.Substr a r p) = operands_call
layer_shape (Expr-F.Replace a b c p) = operands_call
layer_shape (Expr-F.ExistsIn a b r p) = two_operands_call
layer_shape (Expr-F.Sets f a b cs p) = operands_call
layer_shape (Expr-F.Join f a b cs u v w x p) = join_call
layer_shape (Expr-F.Aggregate f a g p) = aggregate_call
layer_shape (Expr-F.Window f a o p) = aggregate_call
layer_shape (Expr-F.Offset f a n o p) = aggregate_call
layer_shape (Expr-F.CheckDatapoint a r q o p) = check_call
layer_shape (Expr-F.Hierarchy a r q c m i o p) = hierarchical_call
layer_shape (Expr-F.CheckHierarchy a r q c m i o p) = hierarchical_call
layer_shape (Expr-F.Check a c l i o p) = check_call
layer_shape (Expr-F.Time f a p) = one_operand_call
layer_shape (Expr-F.Timeshift a z p) = one_operand_call
layer_shape (Expr-F.FillTimeSeries a s p) = one_operand_call
layer_shape (Expr-F.CallOf w as' p) = operands_call
layer_shape (Expr-F.Typed s a p) = bare
layer_shape (Expr-F.Literal v p) = leaf
layer_shape (Expr-F.Name w p) = leaf
layer_shape (Expr-F.CountAll p) = leaf
layer_shape (Expr-F.Rank o p) = leaf

abbrev pub shape_of : Expr → Shape
shape_of e = layer_shape (out-Expr e)
