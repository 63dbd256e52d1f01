-- Nodes, works and dones, and the inputs that they stand for. A list of inputs has one data set for each structure of the script.
use Rattle.std.specs.Prelude.{◌≡◌, ℕ, List, map, length, slice_get, true, Option, Some, None, is_some, unwrap_or, cond, ⊤}
use Rattle.std.specs.Option.{IsSomeAnd}
use Rattle.std.specs.List.{All, AllZip}
use Rattle.std.specs.Arc.{arc_value}
use Rattle.std.specs.Coded.{Coded}
use Rattle.std.specs.FinMap.{empty}
use Rattle.data_model.specs.Deltas.{Leads}
use Rattle.point_sets.specs.DataSets.{DataSet}
use Rattle.point_sets.specs.Changes.{Changes}
use Rattle.data_set_trees.specs.declared.checked.script.CheckedStatement.{CheckedStatement}
use Rattle.data_set_trees.specs.declared.tree.Source.{Source}
use Rattle.data_set_trees.specs.declared.tree.Source.TheVariants.{Result as ResultOf}
use Rattle.data_set_trees.specs.checked.Expressions.{expression_of, renamed}
use Rattle.data_set_trees.specs.checked.Scripts.{Script, IsChecked, sources_of, uses_of}
use Rattle.operator_meaning.specs.Operators.{AreOperands}
use Rattle.operator_meaning.specs.Results.{Evaluated}
use Rattle.operator_meaning.specs.Scripts.{Has, Fails, set_named, states}
use Rattle.release_text.specs.Releases.{Page, page_of}
use Rattle.transform_nodes.specs.declared.node.Node.{Node}
use Rattle.transform_nodes.specs.declared.work.Settle.{Settle}
use Rattle.transform_nodes.specs.declared.work.Settle.TheVariants.{Apply, Forget}
use Rattle.transform_nodes.specs.declared.work.Work.{Work}
use Rattle.transform_nodes.specs.declared.work.Finish.{Finish}
use Rattle.transform_nodes.specs.declared.work.Finish.TheVariants.{Right, Fault, GaveUp}
use Rattle.transform_nodes.specs.declared.work.DoneParts.{DoneParts}
use Rattle.transform_nodes.specs.contracts.work.DoneParts as parts
use Rattle.transform_nodes.specs.Faults.{wrong_of}
use Rattle.transform_nodes.specs.Trees.{Plain, Plains, plain, expression, counted, StandsOn, applied, all_applied, forgotten, all_forgotten, IsFit, HasPatches, AllHavePatches}

-- the inputs are data sets of the script's structures, each of at most 200,000 points
abbrev pub AreInputs : Script → List DataSet → Type 0
AreInputs s xs = AreOperands (map (λ named. named.1) s.inputs) xs

-- the data set that a name stands for on the inputs, if it has one; where it has none, it counts as empty
abbrev pub named_on : Script → List DataSet → Source → Option DataSet
named_on s xs = set_named xs (states s xs)

abbrev pub operand_on : Script → List DataSet → Source → DataSet
operand_on s xs source = unwrap_or (named_on s xs source) empty

-- what a list of sources stands for, by their numbers in it
abbrev pub numbered : Script → List DataSet → List Source → ℕ → DataSet
numbered s xs sources n = unwrap_or (slice_get (map (operand_on s xs) sources) n) empty

-- each of the sources has a data set
abbrev pub AllHave : Script → List DataSet → List Source → Type 0
AllHave s xs = All (λ source. is_some (named_on s xs source) ≡ true)

-- the news lead from what the sources stand for on the inputs xs to what they do on ys
abbrev pub AllLead : Script → List Changes → List Source → List DataSet → List DataSet → Type 0
AllLead s news sources xs ys = AllZip (λ d source. Leads d (operand_on s xs source) (operand_on s ys source)) news sources

-- the pages of a statement whose data set this is
abbrev pub published : CheckedStatement → DataSet → Option Page
published statement set = cond statement.persistent (Some (page_of statement.name statement.structure set)) None

-- the tree works out the statement's expression, with the numbers of the sources in place of the names; and it is published with these pages
pub record WorksOut (statement : CheckedStatement) (sources : List Source) (tree : Plain) (set : DataSet) (pages : Option Page) : Type 0 where
  pub tree_is : renamed (slice_get sources) (expression tree) ≡ renamed Some (expression_of statement.tree)
  pub pages_are : pages ≡ published statement set

-- the parts of a node are those of its statement
pub record IsNodeOf (s : Script) (node : Node) : Type 0 where
  pub sources : node.sources ≡ sources_of s node.statement
  pub uses : node.uses ≡ uses_of s node.statement
  pub fit : IsFit (length node.sources) (plain node.tree)

-- two nodes are of the same statement, with the same sources and uses
pub record HasSameParts (old new : Node) : Type 0 where
  pub statement : new.statement ≡ old.statement
  pub sources : new.sources ≡ old.sources
  pub uses : new.uses ≡ old.uses

-- what was pending may be put in place: it is there
abbrev pub CanSettle : Settle → Plain → Type 0
CanSettle Apply tree = HasPatches tree
CanSettle Forget tree = ⊤

abbrev pub AllCanSettle : Settle → Plains → Type 0
AllCanSettle Apply trees = AllHavePatches trees
AllCanSettle Forget trees = ⊤

abbrev pub settled_tree : Settle → Plain → Plain
settled_tree Apply = applied
settled_tree Forget = forgotten

abbrev pub all_settled : Settle → Plains → Plains
all_settled Apply = all_applied
all_settled Forget = all_forgotten

abbrev pub settled_pages : Settle → Node → Option Page
settled_pages Apply node = node.pending_pages
settled_pages Forget node = node.pages

-- once it is settled so, the node stands for the inputs xs: its statement has a data set on them, and what the node holds is what its operators have
pub record StandsAs (s : Script) (xs : List DataSet) (settle : Settle) (node : Node) : Type 0 where
  pub shape : IsNodeOf s node
  pub ready : CanSettle settle (plain node.tree)
  pub has : Evaluated
  pub state : states s xs node.statement ≡ Has has
  pub works_out : IsSomeAnd (slice_get s.statements node.statement) (λ statement. WorksOut statement node.sources (settled_tree settle (plain node.tree)) has.set (settled_pages settle node))
  pub holds : StandsOn (settled_tree settle (plain node.tree)) (numbered s xs node.sources)

-- a work stands for the old inputs xs and the new ones ys of a checked script
pub record WorkStandsFor (s : Script) (w : Work) (xs ys : List DataSet) : Type 0 where
  pub checked : IsChecked s
  pub old_inputs : AreInputs s xs
  pub new_inputs : AreInputs s ys
  pub statement_is : w.node.statement ≡ w.statement
  pub node_stands : StandsAs s xs w.settle w.node
  pub have : AllHave s ys w.node.sources
  pub news_lead : AllLead s (map arc_value w.news.items) w.node.sources xs ys

-- a work may be run where it stands for two lists of inputs
abbrev pub CanRun : Work → Type 0
CanRun w = (s : Script) × ((xs ys : List DataSet) × WorkStandsFor s w xs ys)

-- the statement's change, once for each statement that uses it, its points and its pages on the new inputs, of which the node has all pending
pub record IsRight (s : Script) (node : Node) (xs ys : List DataSet) (deltas : List Changes) (points : ℕ) (pages : Option Page) : Type 0 where
  pub has : Evaluated
  pub state : states s ys node.statement ≡ Has has
  pub count : length deltas ≡ node.uses
  pub each : All (λ d. Leads d (operand_on s xs (ResultOf node.statement)) (operand_on s ys (ResultOf node.statement))) deltas
  pub points_are : points ≡ counted has.points
  pub pages_are : IsSomeAnd (slice_get s.statements node.statement) (λ statement. pages ≡ published statement has.set)
  pub pending : StandsAs s ys Apply node

-- what a work came to; of one that was given up nothing is said
abbrev pub FinishFor : Script → Node → List DataSet → List DataSet → Finish → Type 0
FinishFor s node xs ys (Right deltas points pages) = IsRight s node xs ys (map arc_value deltas.items) points pages
FinishFor s node xs ys (Fault kept told) = (wrong_of told ≡ wrong_of kept) × (states s ys node.statement ≡ Fails (wrong_of kept))
FinishFor s node xs ys GaveUp = ⊤

-- a done stands for the old inputs xs and the new ones ys: but for what is pending, its node stands for xs
pub record DoneStandsFor (s : Script) (d : DoneParts) (xs ys : List DataSet) : Type 0 where
  pub statement_is : d.node.statement ≡ d.statement
  pub node_stands : StandsAs s xs Forget d.node
  pub finish_is : FinishFor s d.node xs ys d.finish

abbrev pub done_coded : Coded DoneParts
done_coded = (parts.the_row).coded
