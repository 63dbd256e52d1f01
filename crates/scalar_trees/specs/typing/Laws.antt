-- What holds of the typing of all scalar expressions.
use Rattle.std.specs.Prelude.{◌≡◌, ◌≢◌, ◌⊎◌, true, Some, Ok, Err}
use Rattle.vtl_syntax.specs.declared.expr.Expr.{Expr}
use Rattle.vtl_values.specs.declared.kind.Kind.{Kind}
use Rattle.scalar_trees.specs.declared.tree.CheckedExpr.{CheckedExpr}
use Rattle.scalar_trees.specs.declared.tree.CheckedExpr.TheVariants.{Literal}
use Rattle.vtl_values.specs.declared.value.Value.TheVariants.{Null}
use Rattle.scalar_trees.specs.WellTyped.{Kinds, is_of_kind}
use Rattle.scalar_trees.specs.Erased.{erased}
use Rattle.scalar_trees.specs.declared.typing.scope.Basis.{Basis}
use Rattle.scalar_trees.specs.declared.typing.scope.Scope.{Scope}
use Rattle.scalar_trees.specs.declared.typing.stop.Refusal.{Refusal}
use Rattle.scalar_trees.specs.declared.typing.typed.Typed.{Typed}
use Rattle.scalar_trees.specs.typing.Scopes.{kinds_of}
use Rattle.scalar_trees.specs.typing.Scalars.{typed}
use Rattle.scalar_trees.specs.typing.Resolved.{resolved}

-- what is checked is the expression as it is written, apart from what typing put in
abbrev pub IsAsWritten : Type 0
IsAsWritten = (scope : Scope) (basis : Basis) (e : Expr) (t : Typed) → typed scope basis e ≡ Ok t → resolved scope basis e ≡ Some (erased t.tree)

-- a fault is told only where no well typed tree is the expression as it is written
abbrev pub HasNoTree : Type 0
HasNoTree = (scope : Scope) (basis : Basis) (e : Expr) (refusal : Refusal) → typed scope basis e ≡ Err refusal
    → (t : CheckedExpr) (kind : Kind) → is_of_kind (kinds_of scope.columns basis) t kind ≡ true → resolved scope basis e ≢ Some (erased t)

-- a well typed tree has one kind, the literal null aside
abbrev pub HasOneKind : Type 0
HasOneKind = (kinds : Kinds) (t : CheckedExpr) (kind other : Kind) → is_of_kind kinds t kind ≡ true → is_of_kind kinds t other ≡ true → (kind ≡ other) ⊎ (t ≡ Literal Null)
