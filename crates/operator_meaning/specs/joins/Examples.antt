-- Small data sets, on which joins are worked: people and homes by area, and prices by year and area.
use Rattle.std.specs.Prelude.{ℕ, pos, List, [], ◌∷◌, codes}
use Rattle.std.specs.FinMap.{from_entries}
use Rattle.vtl_values.specs.declared.kind.Kind.TheVariants as kind
use Rattle.vtl_values.specs.declared.kind.Role.TheVariants.{Identifier, Measure, Viral}
use Rattle.vtl_values.specs.declared.structure.Codes.TheVariants.{Listed}
use Rattle.vtl_values.specs.declared.structure.Component.{Component}
use Rattle.vtl_values.specs.declared.value.Value.{Value}
use Rattle.vtl_values.specs.declared.value.Value.TheVariants.{Null, Integer, Text}
use Rattle.vtl_syntax.specs.declared.words.JoinFunction.{JoinFunction}
use Rattle.point_sets.specs.DataSets.{DataSet}
use Rattle.data_set_trees.specs.clauses.After.{made}
use Rattle.data_set_trees.specs.Joins.{join_components, numbered}
use Rattle.operator_meaning.specs.joins.Joins.{JoinOn, join_on}

abbrev pub area : Component
area = made Identifier kind.Text (codes "area")

abbrev pub year : Component
year = made Identifier kind.Integer (codes "year")

abbrev pub people : Component
people = made Measure kind.Integer (codes "people")

abbrev pub homes : Component
homes = made Measure kind.Integer (codes "homes")

abbrev pub price : Component
price = made Measure kind.Integer (codes "price")

-- final figures rank below provisional ones
abbrev pub status : Component
status = record { name = codes "status"; role = Viral; kind = kind.Text; codes = Listed (codes "f" ∷ codes "p" ∷ []) }

abbrev pub north : Value
north = Text (codes "n")

abbrev pub south : Value
south = Text (codes "s")

abbrev pub west : Value
west = Text (codes "w")

abbrev pub final : Value
final = Text (codes "f")

abbrev pub provisional : Value
provisional = Text (codes "p")

abbrev pub count : ℕ → Value
count n = Integer (pos n)

-- 5 people in the north and 3 in the south, all final
abbrev pub counted : DataSet
counted = from_entries ((north ∷ [], count 5 ∷ final ∷ []) ∷ (south ∷ [], count 3 ∷ final ∷ []) ∷ [])

-- 2 homes in the north, a provisional figure, and 4 in the west, without a status
abbrev pub built : DataSet
built = from_entries ((north ∷ [], count 2 ∷ provisional ∷ []) ∷ (west ∷ [], count 4 ∷ Null ∷ []) ∷ [])

-- by year and area: a price of 9 in the north in year 1, and of 8 in the west in year 2
abbrev pub priced : DataSet
priced = from_entries ((count 1 ∷ north ∷ [], count 9 ∷ []) ∷ (count 2 ∷ west ∷ [], count 8 ∷ []) ∷ [])

-- a join whose components are called by their numbers
abbrev pub a_join : JoinFunction → List (List Component) → JoinOn
a_join f operands = join_on f operands (numbered 0 (join_components f operands))

-- of people and homes, and of people and prices
abbrev pub with_homes : JoinFunction → JoinOn
with_homes f = a_join f ((area ∷ people ∷ status ∷ []) ∷ (area ∷ homes ∷ status ∷ []) ∷ [])

abbrev pub with_prices : JoinFunction → JoinOn
with_prices f = a_join f ((area ∷ people ∷ status ∷ []) ∷ (year ∷ area ∷ price ∷ []) ∷ [])
