-- How many steps runs may take: those of their operators' rules, each with the right deltas of its operands as news.
use Rattle.std.specs.Prelude.{ℕ, ◌+◌, ◌≤◌, List, map, Result, Ok, Err}
use Rattle.std.specs.List.{zip}
use Rattle.data_model.specs.Deltas.{delta_between}
use Rattle.point_sets.specs.DataSets.{DataSet}
use Rattle.point_sets.specs.Changes.{Changes, values_eq}
use Rattle.operator_meaning.specs.Results.{Evaluated, Wrong, sets_of, results_of}
use Rattle.data_set_trees.specs.checked.Scripts.{Script}
use Rattle.held_index.specs.Holdings.{Holding}
use Rattle.transform_nodes.specs.Nodes.{numbered, settled_tree}
use Rattle.operator_rules.specs.Rules.{reach_of}
use Rattle.transform_nodes.specs.Runs.{Moves, IsRunnable, AreRunnable}
use Rattle.transform_nodes.specs.Trees.{Plain, Plains, Source, Operates, none, more, plain, all_expressions}
use Rattle.data_set_trees.specs.checked.Operators.{Operator}
use Rattle.transform_nodes.specs.declared.work.Work.{Work}

-- the right delta of each operand
abbrev pub deltas_between : List DataSet → List DataSet → List Changes
deltas_between old new = map (λ p. delta_between values_eq p.0 p.1) (zip old new)

-- the reach of an operator whose operands come to this on the old and on the new inputs; where one has a fault the rule isn't asked
abbrev pub own_reach : Operator → List Holding → Result (List Evaluated) Wrong → Result (List Evaluated) Wrong → ℕ
own_reach rule held (Ok old) (Ok new) = reach_of rule held (deltas_between (sets_of old) (sets_of new))
own_reach rule held (Ok old) (Err wrong) = 0
own_reach rule held (Err wrong) new = 0

abbrev mutual
  -- the reaches of a tree's operators together, where its sources have these data sets, old ones and new ones
  pub tree_reach : (ℕ → DataSet) → (ℕ → DataSet) → Plain → ℕ
  tree_reach old new (Source n) = 0
  tree_reach old new (Operates rule place ps held points pending pending_points) = all_reach old new ps + own_reach rule held (results_of old (all_expressions ps)) (results_of new (all_expressions ps))

  pub all_reach : (ℕ → DataSet) → (ℕ → DataSet) → Plains → ℕ
  all_reach old new none = 0
  all_reach old new (more p ps) = tree_reach old new p + all_reach old new ps

-- the same of a work, once its node is settled, from the old inputs xs to the new ones ys
abbrev pub work_reach : Script → Work → List DataSet → List DataSet → ℕ
work_reach s w xs ys = tree_reach (numbered s xs w.node.sources) (numbered s ys w.node.sources) (settled_tree w.settle (plain w.node.tree))

-- whichever data sets the sources have, from the one number of steps to the other the reaches weren't passed
abbrev pub StaysWithin : List Changes → Plain → ℕ → ℕ → Type 0
StaysWithin news p before after = (m : Moves news) → IsRunnable news m p → after ≤ before + tree_reach m.old m.new p

abbrev pub AllStayWithin : List Changes → Plains → ℕ → ℕ → Type 0
AllStayWithin news ps before after = (m : Moves news) → AreRunnable news m ps → after ≤ before + all_reach m.old m.new ps
