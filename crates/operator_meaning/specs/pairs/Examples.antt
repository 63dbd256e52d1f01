-- Small data sets, on which pairs are worked: what was sold and what was given back, by area and year, and prices by area.
use Rattle.std.specs.Prelude.{ℕ, pos, [], ◌∷◌, codes}
use Rattle.std.specs.FinMap.{from_entries}
use Rattle.vtl_values.specs.declared.kind.Kind.TheVariants as kind
use Rattle.vtl_values.specs.declared.kind.Role.TheVariants.{Identifier, Measure, Viral}
use Rattle.vtl_values.specs.declared.structure.Codes.TheVariants.{Listed}
use Rattle.vtl_values.specs.declared.structure.Component.{Component}
use Rattle.vtl_values.specs.declared.value.Value.{Value}
use Rattle.vtl_values.specs.declared.value.Value.TheVariants.{Null, Integer, Text}
use Rattle.point_sets.specs.DataSets.{DataSet}
use Rattle.scalar_trees.specs.declared.operators.BinaryOperator.TheVariants as binary
use Rattle.scalar_trees.specs.declared.tree.CheckedExpr.TheVariants as expr
use Rattle.data_set_trees.specs.clauses.After.{made}
use Rattle.operator_meaning.specs.pairs.Pairs.{PairOn}

abbrev pub area : Component
area = made Identifier kind.Text (codes "area")

abbrev pub year : Component
year = made Identifier kind.Integer (codes "year")

abbrev pub number : Component
number = made Measure kind.Integer (codes "number")

abbrev pub status : Component
status = record { name = codes "status"; role = Viral; kind = kind.Text; codes = Listed (codes "e" ∷ codes "p" ∷ []) }

abbrev pub north : Value
north = Text (codes "n")

abbrev pub south : Value
south = Text (codes "s")

abbrev pub count : ℕ → Value
count n = Integer (pos n)

-- 5 were sold in the north in year 1, and nobody counted those in the south in year 2
abbrev pub sold : DataSet
sold = from_entries ((north ∷ count 1 ∷ [], count 5 ∷ Text (codes "e") ∷ []) ∷ (south ∷ count 2 ∷ [], Null ∷ Null ∷ []) ∷ [])

-- by year and area: 7 came back in the north in year 1, 9 in the south in year 2, and 2 in the north in year 3
abbrev pub back : DataSet
back = from_entries ((count 1 ∷ north ∷ [], count 7 ∷ Text (codes "p") ∷ []) ∷ (count 2 ∷ south ∷ [], count 9 ∷ Text (codes "e") ∷ []) ∷ (count 3 ∷ north ∷ [], count 2 ∷ Null ∷ []) ∷ [])

-- this much for each in the north
abbrev pub price : ℕ → DataSet
price n = from_entries ((north ∷ [], count n ∷ []) ∷ [])

-- `sold + back`: area 0, year 1, number 2, status 3 of the first; year 4, area 5, number 6, status 7 of the second
abbrev pub together : PairOn
together = record {
  measures = record { name = codes "number"; kind = kind.Integer; value = expr.Binary binary.Plus (expr.Component 2) (expr.Component 6) } ∷ [];
  left = area ∷ year ∷ number ∷ status ∷ [];
  right = year ∷ area ∷ number ∷ status ∷ [];
  structure = area ∷ year ∷ number ∷ status ∷ [];
}

-- `price * back`: area 0, number 1 of the first; year 2, area 3, number 4, status 5 of the second
abbrev pub worth : PairOn
worth = record {
  measures = record { name = codes "number"; kind = kind.Integer; value = expr.Binary binary.Times (expr.Component 1) (expr.Component 4) } ∷ [];
  left = area ∷ number ∷ [];
  right = year ∷ area ∷ number ∷ status ∷ [];
  structure = area ∷ year ∷ number ∷ status ∷ [];
}
