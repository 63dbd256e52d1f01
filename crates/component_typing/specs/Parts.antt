-- What typing answers, and what types the expressions that stand in another.
use Rattle.std.specs.Prelude.{◌≡◌, ℕ, ◌<◌, ⊤, option_and_then, Option, Some, None, Result, Ok, IfOk, IfErr}
use Rattle.std.specs.Option.{option_map}
use denote.Ref.{Bor}
use Rattle.vtl_values.specs.declared.place.Place.{Place}
use Rattle.vtl_syntax.specs.declared.expr.Expr.{Expr, size-Expr}
use Rattle.vtl_syntax.specs.declared.expr.SubstrRange.{SubstrRange, fold-SubstrRange}
use Rattle.scalar_trees.specs.WellTyped.{Kinds}
use Rattle.scalar_trees.specs.declared.typing.scope.Basis.{Basis}
use Rattle.scalar_trees.specs.declared.typing.scope.Scope.{Scope}
use Rattle.scalar_trees.specs.declared.typing.stop.TypeStop.{TypeStop}
use Rattle.scalar_trees.specs.declared.typing.typed.Typed.{Typed}
use Rattle.scalar_trees.specs.typing.Steps.{◌>>=◌, Refuses}
use Rattle.scalar_trees.specs.typing.Sound.{IsTyped}
use Rattle.scalar_trees.specs.typing.Scopes.{kinds_of}
use Rattle.scalar_trees.specs.typing.Scalars.{Answer, substr_typed, Meaning, RangeMeaning, clause_place, step, operand_step, range_step, meaning, typed, typed_if}

-- the checked tree with its kind, well typed, or the first fault, or want of memory
pub record Answers (kinds : Kinds) (meaning : Answer) (result : Result Typed TypeStop) : Type 0 where
  pub ok : IfOk result (λ t. meaning ≡ Ok t)
  pub err : IfErr result (Refuses meaning)
  pub typed : IfOk result (IsTyped kinds)

-- it may be called on each smaller expression, and types that
pub record TypesParts (whole : Expr) (scope : Bor Scope) (pre : Bor Scope → Basis → Bor Expr → Type 0) (post : Bor Scope → Basis → Bor Expr → Result Typed TypeStop → Type 0) : Type 0 where
  pub callable : (basis : Basis) (tree : Bor Expr) → size-Expr tree.now < size-Expr whole → pre scope basis tree
  pub types : (basis : Basis) (tree : Bor Expr) (result : Result Typed TypeStop) → size-Expr tree.now < size-Expr whole → post scope basis tree result → Answers (kinds_of scope.now.columns basis) (typed scope.now basis tree.now) result

-- the size of what may be left out
abbrev pub if_some : {A : Type 0} → (A → ℕ) → Option A → ℕ
if_some f None = 0
if_some f (Some x) = f x

-- an expression, and then what goes on with it
abbrev pub after_typed : Scope → Basis → Expr → (Typed → Answer) → Answer
after_typed scope basis tree next = typed scope basis tree >>= next

-- the same of one that may be left out
abbrev pub after_optional : Scope → Basis → Option Expr → (Option Typed → Answer) → Answer
after_optional scope basis tree next = typed_if (option_map meaning tree) scope basis >>= next

abbrev pub range_meaning : SubstrRange → RangeMeaning
range_meaning = fold-SubstrRange Place Meaning ⊤ ⊤ Meaning RangeMeaning clause_place step (λ groups. tt) (λ item. tt) operand_step range_step

-- `substr` of an operand and a range that may be left out
abbrev pub substr_meaning : Scope → Basis → Expr → Option SubstrRange → Place → Answer
substr_meaning scope basis operand range place =
    typed scope basis operand >>= (λ x. typed_if (option_map (λ r. r.start) (option_map range_meaning range)) scope basis >>= (λ start. typed_if (option_and_then (λ r. r.length) (option_map range_meaning range)) scope basis >>= substr_typed place x start))
