-- Checked scalar expressions without what typing put in.
use Rattle.std.specs.Prelude.{map}
use Rattle.scalar_trees.specs.declared.tree.CheckedExpr.{CheckedExpr, fold-CheckedExpr, roll-CheckedExpr}
use Rattle.scalar_trees.specs.declared.tree.CheckedExpr.TheOpen.{CheckedExpr-F}
use Rattle.scalar_trees.specs.Kinds.{number_value}

-- integers in sets and bounds stand as numbers
abbrev pub plain_layer : {X : Type 0} → CheckedExpr-F X → CheckedExpr-F X
plain_layer (CheckedExpr-F.In a sign set) = CheckedExpr-F.In a sign (map number_value set)
plain_layer (CheckedExpr-F.Between a low high) = CheckedExpr-F.Between a (number_value low) (number_value high)
plain_layer x = x

-- one level, whose parts are erased already
abbrev pub erased_step : CheckedExpr-F CheckedExpr → CheckedExpr
erased_step (CheckedExpr-F.Widened a) = a
erased_step x = roll-CheckedExpr (plain_layer x)

-- the expression without its widenings
abbrev pub erased : CheckedExpr → CheckedExpr
erased = fold-CheckedExpr CheckedExpr erased_step
