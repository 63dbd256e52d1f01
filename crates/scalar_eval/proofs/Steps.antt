-- What an operand that may be left out makes of the whole.
use Rattle.std.proofs.Common.{◌≡◌, Option, Some, None, option_map, option_and_then, refl, sym, ap, ◌∙◌}
use Rattle.vtl_values.specs.declared.value.Value.{Value}
use Rattle.scalar_trees.specs.declared.tree.CheckedExpr.{CheckedExpr, fold-roll-CheckedExpr, map-CheckedExpr}
use Rattle.scalar_trees.specs.declared.tree.CheckedExpr.TheVariants as tree
use Rattle.scalar_trees.specs.declared.tree.CheckedExpr.TheOpen.{CheckedExpr-F}
use Rattle.scalar_meaning.specs.Texts.{part_of}
use Rattle.scalar_meaning.specs.Rows.{Row}
use Rattle.scalar_meaning.specs.Scalars.{if_given, meaning_step, meaning}

module _ (row : Row) where
  abbrev given : Option CheckedExpr → Option (Option Value)
  given operand = if_given (option_map (meaning row) operand)

  layer : (a : CheckedExpr) (start count : Option CheckedExpr) → meaning_step row (map-CheckedExpr CheckedExpr (Option Value) (meaning row) (CheckedExpr-F.Substr a start count)) ≡ option_and_then (λ x. option_and_then (λ s. option_map (part_of x s) (given count)) (given start)) (meaning row a)
  layer a None None = refl
  layer a None (Some c) = refl
  layer a (Some b) None = refl
  layer a (Some b) (Some c) = refl

  -- where the text and the start have values
  pub substr_is : (e a : CheckedExpr) (start count : Option CheckedExpr) (v : Value) (s : Option Value) → e ≡ tree.Substr a start count → meaning row a ≡ Some v → given start ≡ Some s → meaning row e ≡ option_map (part_of v s) (given count)
  substr_is e a start count v s is h i =
      ap (meaning row) (is ∙ sym (tree.rolls-Substr a start count))
      ∙ fold-roll-CheckedExpr (Option Value) (meaning_step row) (CheckedExpr-F.Substr a start count)
      ∙ layer a start count
      ∙ (λ j. option_and_then (λ x. option_and_then (λ z. option_map (part_of x z) (given count)) (i j)) (h j))
