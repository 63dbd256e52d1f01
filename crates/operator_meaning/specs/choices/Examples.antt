-- Conditionals on what was sold and given back, by area and year, where it was asked whether a count is known.
use Rattle.std.specs.Prelude.{pos, true, false, List, [], ◌∷◌, codes}
use Rattle.std.specs.FinMap.{from_entries}
use Rattle.vtl_values.specs.declared.kind.Kind.TheVariants as kind
use Rattle.vtl_values.specs.declared.kind.Role.TheVariants.{Measure}
use Rattle.vtl_values.specs.declared.structure.Component.{Component}
use Rattle.vtl_values.specs.declared.value.Value.TheVariants.{Null, Truth, Integer, Text}
use Rattle.point_sets.specs.DataSets.{DataSet}
use Rattle.scalar_trees.specs.declared.operators.BinaryOperator.TheVariants as binary
use Rattle.scalar_trees.specs.declared.tree.CheckedExpr.{CheckedExpr}
use Rattle.scalar_trees.specs.declared.tree.CheckedExpr.TheVariants as expr
use Rattle.data_set_trees.specs.clauses.After.{made}
use Rattle.data_set_trees.specs.declared.tree.Branch.TheVariants as branch
use Rattle.operator_meaning.specs.pairs.Examples.{area, year, number, status, north, south, count}
use Rattle.operator_meaning.specs.choices.Choices.{ChoiceOn}

abbrev pub is_known : Component
is_known = made Measure kind.Truth (codes "is_known")

-- it is known in the north in year 1, not known there in year 3, and nobody was asked in the south
abbrev pub asked : DataSet
asked = from_entries ((north ∷ count 1 ∷ [], Truth true ∷ Text (codes "e") ∷ []) ∷ (north ∷ count 3 ∷ [], Truth false ∷ Null ∷ []) ∷ (south ∷ count 2 ∷ [], Null ∷ Text (codes "e") ∷ []) ∷ [])

abbrev pub by_area : Component → List Component
by_area measure = area ∷ year ∷ measure ∷ status ∷ []

abbrev pub by_year : List Component
by_year = year ∷ area ∷ number ∷ status ∷ []

-- `if asked then back else sold`: the number is component 2 of both
abbrev pub known_or_sold : ChoiceOn
known_or_sold = record {
  holds = branch.DataSet;
  fails = branch.DataSet;
  measures = record { name = codes "number"; kind = kind.Integer; holds = expr.Component 2; fails = expr.Component 2 } ∷ [];
  operands = by_area is_known ∷ by_year ∷ by_area number ∷ [];
  structure = by_area number;
}

-- `if asked then back else value`
abbrev pub known_or : CheckedExpr → ChoiceOn
known_or value = record {
  holds = branch.DataSet;
  fails = branch.Scalar;
  measures = record { name = codes "number"; kind = kind.Integer; holds = expr.Component 2; fails = value } ∷ [];
  operands = by_area is_known ∷ by_year ∷ [];
  structure = by_area number;
}

abbrev pub zero_written : CheckedExpr
zero_written = expr.Literal (count 0)

-- a product that is out of range
abbrev pub too_much : CheckedExpr
too_much = expr.Binary binary.Times (expr.Literal (Integer (pos 900000000000000))) (expr.Literal (Integer (pos 900000000000000)))
