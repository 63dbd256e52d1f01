-- How nodes are built.
use Rattle.std.specs.Prelude.{◌≡◌, Bool, true, List, length, slice_get, Option, Some}
use Rattle.std.specs.FinMap.{empty}
use Rattle.std.specs.List.{All, AllZip, list_any}
use Rattle.vtl_values.specs.declared.structure.Component.{Component}
use Rattle.data_set_trees.specs.declared.tree.DataSetTree.{DataSetTree}
use Rattle.data_set_trees.specs.declared.tree.Source.{Source}
use Rattle.data_set_trees.specs.checked.Expressions.{Expression, expression_of, renamed}
use Rattle.data_set_trees.specs.checked.Scripts.{is_same, names_in}
use Rattle.data_set_trees.specs.checked.Typing.{HasStructure}
use Rattle.built_scripts.specs.Built.{all_built}
use Rattle.held_index.specs.Holdings.{Holding}
use Rattle.held_index.specs.declared.want.Want.{Want}
use Rattle.transform_nodes.specs.Trees.{Plain, expression, forgotten, IsFit, StandsOn}

-- what is held of an operand without points
abbrev pub nothing_held : Want → Holding
nothing_held w = record { want = w; content = empty }

-- whether the name is one of the sources
abbrev pub is_among : List Source → Source → Bool
is_among sources name = list_any (is_same name) sources

-- the expression is well typed for some structures of its names
pub record IsWellTyped (e : Expression Source) : Type 0 where
  pub structures : Source → Option (List Component)
  pub structure : List Component
  pub typed : HasStructure structures e structure

-- all names are among the sources
abbrev pub AreAmong : List Source → List Source → Type 0
AreAmong sources names = All (λ n. is_among sources n ≡ true) names

-- a tree can be built: it is well typed, its operators are built, and all that it names is among the sources
pub record CanBuild (sources : List Source) (e : Expression Source) : Type 0 where
  pub typed : IsWellTyped e
  pub built : all_built e ≡ true
  pub named : AreAmong sources (names_in e)

-- a new tree works the expression out over the numbered sources, holds what its rules want of empty operands, and has nothing pending
pub record IsBuilt (sources : List Source) (e : Expression Source) (p : Plain) : Type 0 where
  pub works_out : renamed (slice_get sources) (expression p) ≡ renamed Some e
  pub fit : IsFit (length sources) p
  pub alone : forgotten p ≡ p
  pub stands : StandsOn p (λ n. empty)

abbrev pub AllCanBuild : List Source → List DataSetTree → Type 0
AllCanBuild sources trees = All (λ tree. CanBuild sources (expression_of tree)) trees

abbrev pub AreBuilt : List Source → List DataSetTree → List Plain → Type 0
AreBuilt sources trees ps = AllZip (λ tree p. IsBuilt sources (expression_of tree) p) trees ps
