-- Walks over operands, and over the items of a clause.
use Rattle.std.proofs.Common.{◌≡◌, List, [], ◌∷◌, map, Ok, refl}
use Rattle.vtl_syntax.specs.declared.expr.Expr.{Expr}
use Rattle.vtl_syntax.specs.declared.expr.Item.{Item}
use Rattle.vtl_syntax.specs.declared.expr.JoinOperand.{JoinOperand}
use Rattle.scalar_trees.specs.typing.Steps.{◌>>=◌}
use Rattle.data_set_trees.specs.declared.clauses.frame.Frame.{Frame}
use Rattle.expression_rules.specs.Expressions.{Naming, typing, all_typed, typed}
use Rattle.expression_rules.specs.OnClauses.{item_checked, items_checked, analytic_checked, all_analytic_checked}
use Rattle.data_set_parts.specs.Walks.{each}
use Rattle.statement_typing.specs.Joins.{typing_of}

pub operands_each : (naming : Naming) (trees : List Expr) → each (typed naming) trees ≡ all_typed (map typing trees) naming
operands_each naming [] = refl
operands_each naming (tree ∷ trees) = λ i. typed naming tree >>= (λ o. operands_each naming trees i >>= (λ os. Ok (o ∷ os)))

pub items_each : (frame : Frame) (items : List Item) → each (item_checked frame) items ≡ items_checked frame items
items_each frame [] = refl
items_each frame (item ∷ items) = λ i. item_checked frame item >>= (λ c. items_each frame items i >>= (λ cs. Ok (c ∷ cs)))

pub joined_each : (naming : Naming) (os : List JoinOperand) → each (λ o. typing_of o naming) os ≡ all_typed (map typing_of os) naming
joined_each naming [] = refl
joined_each naming (o ∷ os) = λ i. typing_of o naming >>= (λ d. joined_each naming os i >>= (λ ds. Ok (d ∷ ds)))

pub analytic_each : (frame : Frame) (items : List Item) → each (analytic_checked frame) items ≡ all_analytic_checked frame items
analytic_each frame [] = refl
analytic_each frame (item ∷ items) = λ i. analytic_checked frame item >>= (λ c. analytic_each frame items i >>= (λ cs. Ok (c ∷ cs)))
