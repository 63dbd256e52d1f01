-- How changes go through nodes.
use Rattle.std.specs.Prelude.{◌≡◌, ℕ, List, map, length, Option, Some, Result, Ok, Err, ⊤}
use Rattle.std.specs.Option.{IfSome, option_map}
use Rattle.std.specs.List.{All}
use Rattle.std.specs.Arc.{arc_value}
use Rattle.data_model.specs.Deltas.{BeginsAt, apply}
use Rattle.point_sets.specs.DataSets.{DataSet}
use Rattle.point_sets.specs.Changes.{Changes}
use Rattle.operator_meaning.specs.Results.{Evaluated, result_of}
use Rattle.release_text.specs.Releases.{Page, page_of}
use Rattle.transform_nodes.specs.Faults.{wrong_of}
use Rattle.transform_nodes.specs.Halts.{wrong_in}
use Rattle.transform_nodes.specs.Runs.{Moves, IsRunnable, RanOne}
use Rattle.transform_nodes.specs.Trees.{plain, expression}
use Rattle.transform_nodes.specs.declared.halt.Halt.{Halt}
use Rattle.transform_nodes.specs.declared.node.Node.{Node}
use Rattle.transform_nodes.specs.declared.work.Finish.{Finish}
use Rattle.transform_nodes.specs.declared.work.Finish.TheVariants.{Right, Fault, GaveUp}

-- the page with another data set
abbrev pub with_set : DataSet → Page → Page
with_set set page = page_of page.name page.components set

-- the delta begins at the set of the page, where there is one
abbrev pub PageBegins : Changes → Option Page → Type 0
PageBegins d page = IfSome page (λ p. BeginsAt d p.set)

-- the page after the delta
abbrev pub page_after : Changes → Option Page → Option Page
page_after d page = option_map (λ p. with_set (apply d p.set) p) page

-- the page, where there is one, shows the result of the tree on the old data sets
abbrev pub PagesShow : (news : List Changes) → Moves news → Node → Type 0
PagesShow news m node = IfSome node.pages (λ page. (v : Evaluated) → result_of m.old (expression (plain node.tree)) ≡ Ok v → page.set ≡ v.set)

abbrev pub CanRunNode : List Changes → Node → Type 0
CanRunNode news node = (m : Moves news) × (IsRunnable news m (plain node.tree) × PagesShow news m node)

-- a node that was run: one delta, as often as its result is used, and the pages after it, which are pending
pub record IsFinished (news : List Changes) (m : Moves news) (old new : Node) (deltas : List Changes) (points : ℕ) (pages : Option Page) : Type 0 where
  pub delta : Changes
  pub ran : RanOne news m (plain old.tree) (plain new.tree) delta points
  pub count : length deltas ≡ old.uses
  pub each : All (λ d. d ≡ delta) deltas
  pub pages_are : pages ≡ page_after delta old.pages
  pub pending : new.pending_pages ≡ pages

abbrev pub FinishOn : (news : List Changes) → Moves news → Node → Node → Finish → Type 0
FinishOn news m old new (Right deltas points pages) = IsFinished news m old new (map arc_value deltas.items) points pages
FinishOn news m old new (Fault kept told) = (wrong_of told ≡ wrong_of kept) × (result_of m.new (expression (plain old.tree)) ≡ Err (wrong_of kept))
FinishOn news m old new GaveUp = ⊤

abbrev pub OutcomeOn : (news : List Changes) → Moves news → Node → Node → Result Finish Halt → Type 0
OutcomeOn news m old new (Ok finish) = FinishOn news m old new finish
OutcomeOn news m old new (Err halt) = IfSome (wrong_in halt) (λ w. result_of m.new (expression (plain old.tree)) ≡ Err w)

-- whichever data sets the sources have
abbrev pub FinishesRight : List Changes → Node → Node → Finish → Type 0
FinishesRight news old new finish = (m : Moves news) → IsRunnable news m (plain old.tree) → PagesShow news m old → FinishOn news m old new finish

abbrev pub ComesOutRight : List Changes → Node → Node → Result Finish Halt → Type 0
ComesOutRight news old new answer = (m : Moves news) → IsRunnable news m (plain old.tree) → PagesShow news m old → OutcomeOn news m old new answer

-- what a halt comes to
abbrev pub IsStopped : Halt → Finish → Type 0
IsStopped halt (Right deltas points pages) = ⊥
IsStopped halt (Fault kept told) = (wrong_of told ≡ wrong_of kept) × (wrong_in halt ≡ Some (wrong_of kept))
IsStopped halt GaveUp = ⊤
