-- What typing answers, and what types the expressions that stand in another.
use Rattle.std.specs.Prelude.{◌≡◌, ℕ, ◌<◌, List, [], ◌∷◌, Option, Some, None, Result, Ok, IfOk, IfErr}
use Rattle.std.specs.Option.{option_map, option_to_list}
use denote.Ref.{Bor}
use Rattle.vtl_syntax.specs.declared.expr.Expr.{Expr, size-Expr}
use Rattle.vtl_syntax.specs.declared.expr.SubstrRange.{SubstrRange, out-SubstrRange}
use Rattle.scalar_trees.specs.declared.typing.stop.Refusal.{Refusal}
use Rattle.scalar_trees.specs.declared.typing.stop.TypeStop.{TypeStop}
use Rattle.scalar_trees.specs.typing.Steps.{◌>>=◌, Refuses}
use Rattle.data_set_trees.specs.declared.operand.Operand.{Operand}
use Rattle.data_set_trees.specs.Trees.{SetAnswer}
use Rattle.expression_rules.specs.Expressions.{Naming, Typing, typing, all_typed, typed}
use Rattle.statement_typing.specs.Names.{Known, naming_of}

-- what is meant, or the first fault, or want of memory
pub record Answers {A : Type 0} (meaning : Result A Refusal) (result : Result A TypeStop) : Type 0 where
  pub ok : IfOk result (λ value. meaning ≡ Ok value)
  pub err : IfErr result (Refuses meaning)

-- it may be called on each smaller expression, and types that
pub record TypesParts (whole : Expr) (names : Bor Known) (pre : Bor Known → Bor Expr → Type 0) (post : Bor Known → Bor Expr → Result Operand TypeStop → Type 0) : Type 0 where
  pub callable : (tree : Bor Expr) → size-Expr tree.now < size-Expr whole → pre names tree
  pub types : (tree : Bor Expr) (result : Result Operand TypeStop) → size-Expr tree.now < size-Expr whole → post names tree result → Answers (typed (naming_of names.now) tree.now) result

-- the size of what may be left out
abbrev pub if_some : {A : Type 0} → (A → ℕ) → Option A → ℕ
if_some f None = 0
if_some f (Some x) = f x

-- ---- operands of one level

-- one that may be left out
abbrev pub of_optional : Option Expr → List Typing
of_optional tree = option_to_list (option_map typing tree)

-- the start of a range, and its length
abbrev pub of_range : SubstrRange → List Typing
of_range range = typing (out-SubstrRange range).start ∷ of_optional (out-SubstrRange range).length

abbrev pub of_optional_range : Option SubstrRange → List Typing
of_optional_range None = []
of_optional_range (Some range) = of_range range

-- ---- what goes on with operands

abbrev pub after_one : Naming → Expr → (Operand → SetAnswer) → SetAnswer
after_one naming tree next = typed naming tree >>= next

abbrev pub after_all : Naming → List Typing → (List Operand → SetAnswer) → SetAnswer
after_all naming parts next = all_typed parts naming >>= next
