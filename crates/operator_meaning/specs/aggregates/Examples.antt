-- Small data sets, on which aggregates are worked.
use Rattle.std.specs.Prelude.{ℕ, ℤ, pos, negsuc, ◌*ℤ◌, ◌++◌, List, [], ◌∷◌, codes, Some, None}
use Rattle.std.specs.FinMap.{from_entries}
use Rattle.vtl_values.specs.declared.kind.Kind.TheVariants as kind
use Rattle.vtl_values.specs.declared.kind.Role.TheVariants.{Identifier, Measure, Viral}
use Rattle.vtl_values.specs.declared.structure.Codes.TheVariants.{Listed}
use Rattle.vtl_values.specs.declared.structure.Component.{Component}
use Rattle.vtl_values.specs.declared.value.Value.{Value}
use Rattle.vtl_values.specs.declared.value.Value.TheVariants.{Null, Integer, Number, Text}
use Rattle.vtl_syntax.specs.declared.words.AggregateFunction.TheVariants.{Sum}
use Rattle.point_sets.specs.DataSets.{DataSet}
use Rattle.scalar_trees.specs.declared.operators.BinaryOperator.TheVariants as binary
use Rattle.scalar_trees.specs.declared.tree.CheckedExpr.{CheckedExpr}
use Rattle.scalar_trees.specs.declared.tree.CheckedExpr.TheVariants as expr
use Rattle.data_set_trees.specs.clauses.After.{made}
use Rattle.data_set_trees.specs.declared.aggregates.aggregate.CheckedAggregate.{CheckedAggregate}
use Rattle.data_set_trees.specs.aggregates.Aggregates.{aggregate, on_measures}

abbrev pub group : Component
group = made Identifier kind.Text (codes "G")

abbrev pub id : Component
id = made Identifier kind.Integer (codes "Id")

abbrev pub measure : Component
measure = made Measure kind.Number (codes "Me")

abbrev pub status : Component
status = record { name = codes "ST"; role = Viral; kind = kind.Text; codes = Listed (codes "A" ∷ codes "P" ∷ codes "E" ∷ []) }

abbrev pub plain : List Component
plain = group ∷ id ∷ measure ∷ []

abbrev pub with_status : List Component
with_status = group ∷ id ∷ measure ∷ status ∷ []

-- the keys of two groups, and those of their points
abbrev pub group_g : List Value
group_g = Text (codes "g") ∷ []

abbrev pub group_h : List Value
group_h = Text (codes "h") ∷ []

abbrev pub point_of_g : ℕ → List Value
point_of_g n = group_g ++ Integer (pos n) ∷ []

abbrev pub point_of_h : ℕ → List Value
point_of_h n = group_h ++ Integer (pos n) ∷ []

-- a whole number, in millionths
abbrev pub number : ℤ → Value
number n = Number (n *ℤ pos 1000000)

-- two points in the group g, and one in h
abbrev pub counted : DataSet
counted = from_entries ((point_of_g 1, number (pos 5) ∷ []) ∷ (point_of_g 2, number (pos 6) ∷ []) ∷ (point_of_h 1, number (pos 7) ∷ []) ∷ [])

-- a provisional point and an estimated one
abbrev pub marked : DataSet
marked = from_entries ((point_of_g 1, number (pos 10) ∷ Text (codes "P") ∷ []) ∷ (point_of_g 2, number (pos 20) ∷ Text (codes "E") ∷ []) ∷ [])

-- two great numbers, whose sum is out of range, and a third that takes one back
abbrev pub great : DataSet
great = from_entries ((point_of_g 1, number (pos 900000000000000) ∷ []) ∷ (point_of_g 2, number (pos 900000000000000) ∷ []) ∷ (point_of_g 3, number (negsuc 899999999999999) ∷ []) ∷ [])

-- integers, with a null among them
abbrev pub with_null : List Value
with_null = Integer (pos 7) ∷ Null ∷ Integer (pos 2) ∷ Integer (pos 4) ∷ Integer (pos 2) ∷ []

abbrev pub nulls : List Value
nulls = Null ∷ Null ∷ []

-- three and two millionths
abbrev pub millionths : List Value
millionths = Number (pos 3) ∷ Number (pos 2) ∷ []

abbrev pub letters : List Value
letters = Text (codes "b") ∷ Text (codes "a") ∷ Text (codes "c") ∷ []

-- `count() > 1`
abbrev pub several : CheckedExpr
several = expr.Binary binary.Greater expr.CountAll (expr.Literal (Integer (pos 1)))

-- `sum(.. group by G)`, on each of these components
abbrev pub by_group : List Component → CheckedAggregate
by_group components = aggregate (0 ∷ []) (on_measures Sum components) None

-- `sum(.. group by G having count() > 1)`
abbrev pub of_several : List Component → CheckedAggregate
of_several components = aggregate (0 ∷ []) (on_measures Sum components) (Some several)
