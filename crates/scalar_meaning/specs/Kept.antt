-- What holds of the values of well typed expressions.
use Rattle.std.specs.Prelude.{◌≡◌, ℕ, true, List, ◌++◌}
use Rattle.std.specs.Option.{IfSome}
use Rattle.std.specs.List.{AllZip}
use Rattle.vtl_values.specs.Texts.{Fits}
use Rattle.vtl_values.specs.declared.kind.Kind.{Kind}
use Rattle.vtl_values.specs.declared.kind.Kind.TheVariants.{Integer}
use Rattle.vtl_values.specs.declared.value.Value.{Value}
use Rattle.vtl_syntax.specs.declared.words.AggregateFunction.{AggregateFunction}
use Rattle.scalar_trees.specs.Kinds.{aggregate_takes, aggregate_gives}
use Rattle.scalar_trees.specs.declared.tree.CheckedExpr.{CheckedExpr}
use Rattle.scalar_trees.specs.WellTyped.{Kinds, is_kind, is_some_kind, given, is_of_kind}
use Rattle.scalar_trees.specs.declared.typing.scope.Basis.TheVariants.{Point}
use Rattle.scalar_trees.specs.declared.typing.scope.Column.{Column}
use Rattle.scalar_trees.specs.typing.Scopes.{kinds_of}
use Rattle.scalar_meaning.specs.Rows.{Row, point_row}
use Rattle.scalar_meaning.specs.Scalars.{meaning}

-- what may be named has a value of the kind that it is said to have, or null, or is out of range
pub record IsRowOf (kinds : Kinds) (row : Row) : Type 0 where
  pub component : (number : ℕ) (kind : Kind) → is_some_kind kind (kinds.component number) ≡ true → Fits kind (row.component number)
  pub aggregated : (function : AggregateFunction) (number : ℕ) (own kind : Kind) → is_some_kind own (kinds.aggregated number) ≡ true → given (aggregate_gives function) (is_kind own) (aggregate_takes function) kind ≡ true → IfSome (row.aggregated function number) (Fits kind)
  pub counted : kinds.counted ≡ true → Fits Integer row.counted

-- An expression of a kind has, on a row of the kinds that it was checked for, null, a value of its kind and within its
-- range, or none since it is out of range. So has each part of it: no operator meets a value of a kind that it doesn't take.
abbrev pub KeepsKinds : Type 0
KeepsKinds = (expr : CheckedExpr) (kinds : Kinds) (row : Row) (kind : Kind) → is_of_kind kinds expr kind ≡ true → IsRowOf kinds row → IfSome (meaning row expr) (Fits kind)

-- a point whose values are of the kinds of their columns, or null, is a row for what is checked on points
abbrev pub PointsAreRows : Type 0
PointsAreRows = (columns : List Column) (key rest : List Value) → AllZip (λ c v. Fits c.kind v) columns (key ++ rest) → IsRowOf (kinds_of columns Point) (point_row key rest)
