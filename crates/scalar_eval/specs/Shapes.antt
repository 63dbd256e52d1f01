-- Which expressions are worked out alike.
use Rattle.scalar_trees.specs.declared.tree.CheckedExpr.{CheckedExpr, out-CheckedExpr}
use Rattle.scalar_trees.specs.declared.tree.CheckedExpr.TheOpen.{CheckedExpr-F}

pub data Shape : Type 0 where
  -- a leaf, two operands, a choice, or a sort
  plain : Shape
  -- one operand, and words or literals
  one_operand : Shape
  -- a text, and operands that may be left out
  on_texts : Shape

abbrev pub layer_shape : {X : Type 0} → CheckedExpr-F X → Shape
layer_shape (CheckedExpr-F.Literal v) = plain
layer_shape (CheckedExpr-F.Component number) = plain
layer_shape (CheckedExpr-F.Widened a) = one_operand
layer_shape (CheckedExpr-F.Unary operator a) = one_operand
layer_shape (CheckedExpr-F.Binary operator a b) = plain
layer_shape (CheckedExpr-F.Nvl a b) = plain
layer_shape (CheckedExpr-F.If c a b) = plain
layer_shape (CheckedExpr-F.In a sign set) = one_operand
layer_shape (CheckedExpr-F.Between a low high) = one_operand
layer_shape (CheckedExpr-F.Round function a digits) = one_operand
layer_shape (CheckedExpr-F.Substr a start count) = on_texts
layer_shape (CheckedExpr-F.Replace a old new) = on_texts
layer_shape (CheckedExpr-F.Matches a pattern) = one_operand
layer_shape (CheckedExpr-F.OfSort sort a) = plain
layer_shape (CheckedExpr-F.Aggregate function number) = plain
layer_shape CheckedExpr-F.CountAll = plain

abbrev pub shape_of : CheckedExpr → Shape
shape_of e = layer_shape (out-CheckedExpr e)
