-- Which checked expressions are copied alike.
use Rattle.scalar_trees.specs.declared.tree.CheckedExpr.{CheckedExpr, out-CheckedExpr}
use Rattle.scalar_trees.specs.declared.tree.CheckedExpr.TheOpen.{CheckedExpr-F}

pub data Shape : Type 0 where
  -- it has no expression in it
  leaf : Shape
  -- one expression
  one_operand : Shape
  -- one expression, and values or a pattern
  with_values : Shape
  -- two or three expressions
  operands : Shape
  -- expressions of which some may be left out
  on_texts : Shape

abbrev pub layer_shape : {X : Type 0} → CheckedExpr-F X → Shape
layer_shape (CheckedExpr-F.Literal v) = leaf
layer_shape (CheckedExpr-F.Component n) = leaf
layer_shape (CheckedExpr-F.Widened a) = one_operand
layer_shape (CheckedExpr-F.Unary o a) = one_operand
layer_shape (CheckedExpr-F.Binary o a b) = operands
layer_shape (CheckedExpr-F.Nvl a b) = operands
layer_shape (CheckedExpr-F.If c a b) = operands
layer_shape (CheckedExpr-F.In a sign set) = with_values
layer_shape (CheckedExpr-F.Between a low high) = with_values
layer_shape (CheckedExpr-F.Round f a digits) = one_operand
layer_shape (CheckedExpr-F.Substr a start length) = on_texts
layer_shape (CheckedExpr-F.Replace a old by) = on_texts
layer_shape (CheckedExpr-F.Matches a pattern) = with_values
layer_shape (CheckedExpr-F.OfSort sort a) = one_operand
layer_shape (CheckedExpr-F.Aggregate f n) = leaf
layer_shape CheckedExpr-F.CountAll = leaf

abbrev pub shape_of : CheckedExpr → Shape
shape_of e = layer_shape (out-CheckedExpr e)
