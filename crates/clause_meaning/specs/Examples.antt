-- A small data set, on which clauses are worked: how many men and women there are, by area and year.
use Rattle.std.specs.Prelude.{ℕ, pos, List, [], ◌∷◌, codes}
use Rattle.std.specs.FinMap.{from_entries}
use Rattle.vtl_values.specs.declared.kind.Kind.TheVariants as kind
use Rattle.vtl_values.specs.declared.kind.Role.TheVariants.{Identifier, Measure, Viral}
use Rattle.vtl_values.specs.declared.structure.Codes.TheVariants.{Listed}
use Rattle.vtl_values.specs.declared.structure.Component.{Component}
use Rattle.vtl_values.specs.declared.value.Value.{Value}
use Rattle.vtl_values.specs.declared.value.Value.TheVariants.{Null, Integer, Number, Text}
use Rattle.point_sets.specs.DataSets.{DataSet}
use Rattle.scalar_trees.specs.declared.operators.BinaryOperator.TheVariants as binary
use Rattle.scalar_trees.specs.declared.tree.CheckedExpr.{CheckedExpr}
use Rattle.scalar_trees.specs.declared.tree.CheckedExpr.TheVariants as expr
use Rattle.data_set_trees.specs.declared.clauses.frame.Frame.{Frame}
use Rattle.data_set_trees.specs.declared.clauses.clause.CheckedItem.{CheckedItem}
use Rattle.data_set_trees.specs.declared.clauses.clause.CheckedMeasure.{CheckedMeasure}
use Rattle.data_set_trees.specs.declared.clauses.clause.CheckedRename.{CheckedRename}
use Rattle.data_set_trees.specs.declared.clauses.clause.CheckedSubItem.{CheckedSubItem}
use Rattle.data_set_trees.specs.declared.clauses.clause.Target.TheVariants.{Old, New}
use Rattle.data_set_trees.specs.clauses.Frames.{frame_of}
use Rattle.data_set_trees.specs.clauses.After as after

-- area 0, year 1, men 2, women 3, status 4
abbrev pub components : List Component
components = after.made Identifier kind.Text (codes "area") ∷ after.made Identifier kind.Integer (codes "year") ∷ after.made Measure kind.Integer (codes "men") ∷ after.made Measure kind.Integer (codes "women") ∷ record { name = codes "status"; role = Viral; kind = kind.Text; codes = Listed (codes "e" ∷ codes "p" ∷ []) } ∷ []

abbrev pub frame : Frame
frame = frame_of components

-- the north in year 1, and the south in year 2
abbrev pub north : List Value
north = Text (codes "n") ∷ Integer (pos 1) ∷ []

abbrev pub south : List Value
south = Text (codes "s") ∷ Integer (pos 2) ∷ []

-- 5 men and 7 women in the north; nobody counted the men in the south, where there are 9 women
abbrev pub counts : List (List Value × List Value)
counts = (north, Integer (pos 5) ∷ Integer (pos 7) ∷ Text (codes "p") ∷ []) ∷ (south, Null ∷ Integer (pos 9) ∷ Null ∷ []) ∷ []

abbrev pub people : DataSet
people = from_entries counts

-- `men > 4`
abbrev pub many_men : CheckedExpr
many_men = expr.Binary binary.Greater (expr.Component 2) (expr.Literal (Integer (pos 4)))

-- `year = 1.0`
abbrev pub year_one : List CheckedSubItem
year_one = record { component = 1; value = Number (pos 1000000) } ∷ []

-- `men := women, was := men`
abbrev pub moved : List CheckedItem
moved = record { target = Old 2; role = Measure; kind = kind.Integer; value = expr.Component 3 } ∷ record { target = New (codes "was"); role = Measure; kind = kind.Integer; value = expr.Component 2 } ∷ []

-- `men := women * 120000000000000`, which is within the range of integers for 7 women and not for 9
abbrev pub multiplied : List CheckedItem
multiplied = record { target = Old 2; role = Measure; kind = kind.Integer; value = expr.Binary binary.Times (expr.Component 3) (expr.Literal (Integer (pos 120000000000000))) } ∷ []

-- `men to boys`
abbrev pub boys : List CheckedRename
boys = record { component = 2; name = codes "boys" } ∷ []

-- `men * 2, women * 2`
abbrev pub doubled : List CheckedMeasure
doubled = twice (codes "men") 2 ∷ twice (codes "women") 3 ∷ []
  where
    twice : List ℕ → ℕ → CheckedMeasure
    twice name number = record { name = name; kind = kind.Integer; value = expr.Binary binary.Times (expr.Component number) (expr.Literal (Integer (pos 2))) }

-- the points with women and status alone
abbrev pub women : List (List Value × List Value)
women = (north, Integer (pos 7) ∷ Text (codes "p") ∷ []) ∷ (south, Integer (pos 9) ∷ Null ∷ []) ∷ []

-- the points of the measures that aren't null
abbrev pub by_sex : List (List Value × List Value)
by_sex =
    (Text (codes "n") ∷ Integer (pos 1) ∷ Text (codes "men") ∷ [], Integer (pos 5) ∷ Text (codes "p") ∷ [])
    ∷ (Text (codes "n") ∷ Integer (pos 1) ∷ Text (codes "women") ∷ [], Integer (pos 7) ∷ Text (codes "p") ∷ [])
    ∷ (Text (codes "s") ∷ Integer (pos 2) ∷ Text (codes "women") ∷ [], Integer (pos 9) ∷ Null ∷ []) ∷ []
