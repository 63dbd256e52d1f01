-- Which scripts are built (docs/language.md, "What runs").
use Rattle.std.specs.Prelude.{◌≡◌, Bool, true, false, ◌&&◌, ⊤}
use Rattle.std.specs.List.{All, list_all}
use Rattle.vtl_values.specs.Structures.{IsStructure}
use Rattle.data_set_trees.specs.declared.tree.DataSetOperator.{DataSetOperator}
use Rattle.data_set_trees.specs.declared.tree.DataSetOperator.TheVariants.{Clause, Pair, Choice, ExistsIn, Set, Join, InJoin, Aggregate, Window, WindowInJoin, Time, Check, Datapoint, Hierarchy}
use Rattle.data_set_trees.specs.declared.tree.DataSetTree.{DataSetTree}
use Rattle.data_set_trees.specs.declared.checked.script.CheckedStatement.{CheckedStatement}
use Rattle.data_set_trees.specs.checked.Expressions.{Expression, Expressions, Named, Applied, none, more, expression_of}
use Rattle.data_set_trees.specs.checked.Scripts.{Script, IsChecked}

-- An operator is built where there is a rule for it.
abbrev pub is_built : DataSetOperator → Bool
is_built (Clause clause) = true
is_built (Pair items) = true
is_built (Choice holds fails items) = true
is_built (ExistsIn rows) = true
is_built (Set operation) = true
is_built (Join f) = true
is_built (InJoin clause) = true
is_built (Aggregate a) = false
is_built (Window w) = false
is_built (WindowInJoin w) = false
is_built (Time t) = false
is_built (Check c) = false
is_built (Datapoint d) = false
is_built (Hierarchy h) = false

abbrev mutual
  -- all operators of an expression are built
  pub all_built : {N : Type 0} → Expression N → Bool
  all_built (Named n) = true
  all_built (Applied o place es) = is_built o.operator && each_all_built es

  pub each_all_built : {N : Type 0} → Expressions N → Bool
  each_all_built none = true
  each_all_built (more e es) = all_built e && each_all_built es

abbrev pub is_tree_built : DataSetTree → Bool
is_tree_built tree = all_built (expression_of tree)

abbrev pub is_statement_built : CheckedStatement → Bool
is_statement_built statement = is_tree_built statement.tree

-- all operators of a script are built
abbrev pub is_script_built : Script → Bool
is_script_built s = list_all is_statement_built s.statements

-- all operators of a script are well typed, and built: it may be run
pub record IsRunnable (s : Script) : Type 0 where
  pub checked : IsChecked s
  pub built : is_script_built s ≡ true

abbrev mutual
  -- the operands and the results of its operators have structures
  pub AreStructured : {N : Type 0} → Expression N → Type 0
  AreStructured (Named n) = ⊤
  AreStructured (Applied o place es) = All IsStructure o.operands × IsStructure o.structure × EachStructured es

  pub EachStructured : {N : Type 0} → Expressions N → Type 0
  EachStructured none = ⊤
  EachStructured (more e es) = AreStructured e × EachStructured es

abbrev pub IsTreeStructured : DataSetTree → Type 0
IsTreeStructured tree = AreStructured (expression_of tree)

abbrev pub IsStatementStructured : CheckedStatement → Type 0
IsStatementStructured statement = IsTreeStructured statement.tree
