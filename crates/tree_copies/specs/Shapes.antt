-- Which expressions are made anew alike.
use Rattle.std.specs.Prelude.{◌≡◌, ℕ, List}
use Rattle.vtl_values.specs.declared.place.Place.{Place}
use Rattle.vtl_syntax.specs.declared.expr.Expr.TheVariants as tree
use Rattle.vtl_syntax.specs.declared.expr.Expr.{Expr, out-Expr}
use Rattle.vtl_syntax.specs.declared.expr.Clause.TheOpen.{Expr-F}

pub data Shape : Type 0 where
  -- a name or a call, which become something else
  replaced : Shape
  -- it has no expression in it
  no_part : Shape
  -- one expression
  one_part : Shape
  -- one expression, and a number or a span
  part_and_number : Shape
  -- one expression, and words or values
  part_and_words : Shape
  -- one expression, and a window
  part_and_window : Shape
  -- two expressions that give a truth
  compared : Shape
  -- two that give a number or a text
  combined : Shape
  -- two data sets, of which points of the first stay
  two_data_sets : Shape
  -- an expression and others, or a clause
  more_parts : Shape
  -- the same, where how many there are is open
  other_parts : Shape
  -- a join
  joined : Shape
  -- a check
  checked : Shape
  -- a hierarchy, or a check by one
  by_hierarchy : Shape

abbrev pub layer_shape : {A B C D E F : Type 0} → Expr-F A B C D E F → Shape
layer_shape (Expr-F.If x0 x1 x2 p) = more_parts
layer_shape (Expr-F.Or x0 x1 x2 p) = compared
layer_shape (Expr-F.And x0 x1 p) = compared
layer_shape (Expr-F.Compare x0 x1 x2 p) = compared
layer_shape (Expr-F.In x0 x1 x2 p) = part_and_words
layer_shape (Expr-F.Sum x0 x1 x2 p) = combined
layer_shape (Expr-F.Product x0 x1 x2 p) = combined
layer_shape (Expr-F.Signed x0 x1 p) = one_part
layer_shape (Expr-F.Member x0 x1 p) = part_and_words
layer_shape (Expr-F.Clause x0 x1 p) = more_parts
layer_shape (Expr-F.Literal x0 p) = no_part
layer_shape (Expr-F.Name x0 p) = replaced
layer_shape (Expr-F.Bracket x0 p) = one_part
layer_shape (Expr-F.Unary x0 x1 p) = one_part
layer_shape (Expr-F.Round x0 x1 x2 p) = part_and_number
layer_shape (Expr-F.Binary x0 x1 x2 p) = combined
layer_shape (Expr-F.Between x0 x1 x2 p) = part_and_words
layer_shape (Expr-F.MatchCharacters x0 x1 p) = part_and_words
layer_shape (Expr-F.Substr x0 x1 p) = more_parts
layer_shape (Expr-F.Replace x0 x1 x2 p) = other_parts
layer_shape (Expr-F.ExistsIn x0 x1 x2 p) = two_data_sets
layer_shape (Expr-F.Sets x0 x1 x2 x3 p) = other_parts
layer_shape (Expr-F.Difference x0 x1 x2 p) = two_data_sets
layer_shape (Expr-F.Join x0 x1 x2 x3 x4 x5 x6 x7 p) = joined
layer_shape (Expr-F.Aggregate x0 x1 x2 p) = other_parts
layer_shape (Expr-F.Window x0 x1 x2 p) = part_and_window
layer_shape (Expr-F.CountAll p) = no_part
layer_shape (Expr-F.Offset x0 x1 x2 x3 p) = part_and_window
layer_shape (Expr-F.Rank x0 p) = no_part
layer_shape (Expr-F.CheckDatapoint x0 x1 x2 x3 p) = checked
layer_shape (Expr-F.Hierarchy x0 x1 x2 x3 x4 x5 x6 p) = by_hierarchy
layer_shape (Expr-F.CheckHierarchy x0 x1 x2 x3 x4 x5 x6 p) = by_hierarchy
layer_shape (Expr-F.Check x0 x1 x2 x3 x4 p) = checked
layer_shape (Expr-F.Time x0 x1 p) = one_part
layer_shape (Expr-F.Timeshift x0 x1 p) = part_and_number
layer_shape (Expr-F.FillTimeSeries x0 x1 p) = part_and_number
layer_shape (Expr-F.CallOf x0 x1 p) = replaced
layer_shape (Expr-F.Typed x0 x1 p) = one_part

abbrev pub shape_of : Expr → Shape
shape_of e = layer_shape (out-Expr e)

-- it is no name and no call
pub record IsOther (e : Expr) : Type 0 where
  pub name : (w : List ℕ) (p : Place) → e ≡ tree.Name w p → ⊥
  pub call : (w : List ℕ) (arguments : List Expr) (p : Place) → e ≡ tree.CallOf w arguments p → ⊥
