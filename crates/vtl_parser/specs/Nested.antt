-- A function that reads expressions with fewer levels.
use Rattle.std.specs.Prelude.{ℕ, ◌<◌, Result}
use Rattle.std.specs.declared.alloc.Global.{Global}
use denote.Ref.{MutBor}
use Rattle.vtl_syntax.specs.declared.expr.Expr.{Expr}
use Rattle.vtl_grammar.specs.Rules.{expression}
use Rattle.vtl_grammar.specs.Reading.{part_at}
use Rattle.vtl_cursor.specs.declared.cursor.Cursor.{Cursor}
use Rattle.vtl_cursor.specs.declared.stop.Stop.{Stop}
use Rattle.vtl_cursor.specs.Limits.{limits}
use Rattle.vtl_cursor.specs.Views.{GivesDeep}

-- with fewer than `depth` levels it may be called, and reads what the grammar does
pub record ReadsBelow (depth : ℕ) (pre : Global → MutBor Cursor → ℕ → ℕ → Type 0) (post : Global → MutBor Cursor → ℕ → ℕ → Result (Expr × ℕ) Stop → MutBor Cursor → Type 0) : Type 0 where
  pub callable : (alloc : Global) (cursor : MutBor Cursor) (precedence inner : ℕ) → inner < depth → pre alloc cursor precedence inner
  pub reads : (alloc : Global) (old new : MutBor Cursor) (precedence inner : ℕ) (result : Result (Expr × ℕ) Stop) → inner < depth → post alloc old precedence inner result new
      → GivesDeep new.now.tokens.now result (part_at limits inner (expression precedence) old.now.tokens.now)
