-- Small data sets, on which set operators are worked: how many men and women were counted, by area and year.
use Rattle.std.specs.Prelude.{ℕ, pos, [], ◌∷◌, codes}
use Rattle.std.specs.FinMap.{from_entries}
use Rattle.vtl_values.specs.declared.kind.Kind.TheVariants as kind
use Rattle.vtl_values.specs.declared.kind.Role.TheVariants.{Identifier, Measure}
use Rattle.vtl_values.specs.declared.structure.Component.{Component}
use Rattle.vtl_values.specs.declared.value.Value.{Value}
use Rattle.vtl_values.specs.declared.value.Value.TheVariants.{Integer, Text}
use Rattle.point_sets.specs.DataSets.{DataSet}
use Rattle.data_set_trees.specs.clauses.After.{made}
use Rattle.data_set_trees.specs.declared.tree.SetOperation.{SetOperation}
use Rattle.operator_meaning.specs.sets.Sets.{SetOn, set_on}

abbrev pub area : Component
area = made Identifier kind.Text (codes "area")

abbrev pub year : Component
year = made Identifier kind.Integer (codes "year")

abbrev pub men : Component
men = made Measure kind.Integer (codes "men")

abbrev pub women : Component
women = made Measure kind.Integer (codes "women")

abbrev pub north : Value
north = Text (codes "n")

abbrev pub south : Value
south = Text (codes "s")

abbrev pub count : ℕ → Value
count n = Integer (pos n)

-- by area and year: 5 men and 7 women in the north in year 1, 3 men and 4 women in the south in year 2
abbrev pub counted : DataSet
counted = from_entries ((north ∷ count 1 ∷ [], count 5 ∷ count 7 ∷ []) ∷ (south ∷ count 2 ∷ [], count 3 ∷ count 4 ∷ []) ∷ [])

-- by year and area, women first: 8 women and 6 men in the north in year 1, 1 woman and 2 men in the south in year 1
abbrev pub again : DataSet
again = from_entries ((count 1 ∷ north ∷ [], count 8 ∷ count 6 ∷ []) ∷ (count 1 ∷ south ∷ [], count 1 ∷ count 2 ∷ []) ∷ [])

-- an operator on both
abbrev pub of_both : SetOperation → SetOn
of_both operation = set_on operation ((area ∷ year ∷ men ∷ women ∷ []) ∷ (year ∷ area ∷ women ∷ men ∷ []) ∷ []) (area ∷ year ∷ men ∷ women ∷ [])
