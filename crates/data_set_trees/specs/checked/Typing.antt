-- Which expressions are well typed (docs/language.md, "Data set operators").
use Rattle.std.specs.Prelude.{◌≡◌, List, [], ◌∷◌, Option, Some, ⊤}
use Rattle.vtl_values.specs.declared.structure.Component.{Component}
use Rattle.data_set_trees.specs.checked.Operators.{Operator, IsTyped}
use Rattle.data_set_trees.specs.checked.Expressions.{Expression, Expressions, Named, Applied, none, more}

abbrev mutual
  -- where names have these structures, the expression has that one; each operator in it takes those of its operands, and fits
  pub Fits : {N : Type 0} → (Operator → Type 0) → (N → Option (List Component)) → Expression N → List Component → Type 0
  Fits fit structures (Named n) s = structures n ≡ Some s
  Fits fit structures (Applied o place es) s = (s ≡ o.structure) × fit o × AllFit fit structures es o.operands

  pub AllFit : {N : Type 0} → (Operator → Type 0) → (N → Option (List Component)) → Expressions N → List (List Component) → Type 0
  AllFit fit structures none [] = ⊤
  AllFit fit structures none (s ∷ ss) = ⊥
  AllFit fit structures (more e es) [] = ⊥
  AllFit fit structures (more e es) (s ∷ ss) = Fits fit structures e s × AllFit fit structures es ss

-- where names have these structures, the expression is well typed and has that one
abbrev pub HasStructure : {N : Type 0} → (N → Option (List Component)) → Expression N → List Component → Type 0
HasStructure = Fits IsTyped

abbrev pub HaveStructures : {N : Type 0} → (N → Option (List Component)) → Expressions N → List (List Component) → Type 0
HaveStructures = AllFit IsTyped
