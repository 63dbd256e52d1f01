-- What makes the expressions that stand in a tree.
use Rattle.std.specs.Prelude.{◌≡◌, ℕ, ◌<◌, Option, Some, None, Result, IfOk}
use Rattle.std.specs.declared.alloc.AllocError.{AllocError}
use denote.Ref.{Bor}
use Rattle.vtl_syntax.specs.declared.expr.Expr.{Expr, size-Expr}
use Rattle.tree_copies.specs.Made.{Names, Calls, made}

-- it may be called on each smaller expression, and what it answers is made of that
pub record MakesParts (whole : Expr) (name : Names) (call : Calls) (pre : Bor Expr → Type 0) (post : Bor Expr → Result Expr AllocError → Type 0) : Type 0 where
  pub callable : (tree : Bor Expr) → size-Expr tree.now < size-Expr whole → pre tree
  pub makes : (tree : Bor Expr) (result : Result Expr AllocError) → size-Expr tree.now < size-Expr whole → post tree result → IfOk result (λ answer. answer ≡ made name call tree.now)

-- the size of what may be left out
abbrev pub if_some : {A : Type 0} → (A → ℕ) → Option A → ℕ
if_some f None = 0
if_some f (Some x) = f x
