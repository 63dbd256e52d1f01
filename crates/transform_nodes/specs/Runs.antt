-- How changes go through trees.
use Rattle.std.specs.Prelude.{◌≡◌, ℕ, ◌<◌, ◌≤◌, List, [], ◌∷◌, map, length, slice_index_or, Option, Some, Result, Ok, Err, ⊤}
use Rattle.std.specs.Option.{IfSome}
use Rattle.std.specs.Arc.{arc_value}
use Rattle.std.specs.FinMap.{empty, len}
use Rattle.vtl_values.specs.declared.structure.Component.{Component}
use Rattle.vtl_values.specs.declared.place.Place.{Place}
use Rattle.data_model.specs.Deltas.{BeginsAt, Leads, apply}
use Rattle.data_model.specs.Outcomes.{Made}
use Rattle.data_model.specs.declared.TheConstants.{POINT_LIMIT}
use Rattle.point_sets.specs.DataSets.{DataSet}
use Rattle.point_sets.specs.Changes.{Changes}
use Rattle.data_set_trees.specs.checked.Operators.{IsTyped, Operator}
use Rattle.data_set_trees.specs.checked.Typing.{HasStructure, HaveStructures}
use Rattle.operator_meaning.specs.Operators.{meaning_of, AreOperands}
use Rattle.structured_sets.specs.Fitting.{IsBoundedSetOf}
use Rattle.operator_meaning.specs.Results.{Evaluated, sets_of, points_of, placed, result_of, results_of}
use Rattle.held_index.specs.Holdings.{Holding}
use Rattle.held_index.specs.declared.want.Want.{Want}
use Rattle.transform_nodes.specs.Halts.{wrong_in}
use Rattle.transform_nodes.specs.Trees.{Plain, Plains, plains_of, expression, all_expressions, counted, Holds, StandsOn, AllStandOn, applied, all_applied, HasPatches, AllHavePatches}
use Rattle.transform_nodes.specs.declared.carry.Gathered.{Gathered}
use Rattle.transform_nodes.specs.declared.carry.Ran.{Ran}
use Rattle.transform_nodes.specs.declared.halt.Halt.{Halt}
use Rattle.transform_nodes.specs.declared.operate.Worked.{Worked}

-- the change of an operand by its number
abbrev pub news_of : ℕ → List Changes → Changes
news_of n news = slice_index_or news n empty

-- each change leads from the one data set to the other
abbrev pub AllLeads : List Changes → List DataSet → List DataSet → Type 0
AllLeads [] [] [] = ⊤
AllLeads (d ∷ ds) (x ∷ xs) (y ∷ ys) = Leads d x y × AllLeads ds xs ys
AllLeads ds xs ys = ⊥

-- ---- one operator

-- what is held after the news
abbrev pub planned : List Want → List Holding → List Changes → List Holding
planned [] hs news = []
planned (w ∷ ws) [] news = []
planned (w ∷ ws) (h ∷ hs) news = record h { content = apply (news_of w.operand news) h.content } ∷ planned ws hs news

-- the news of each wanted operand begin at what is held of it, and leave few points
pub record IsPlannable (d : Changes) (x : DataSet) : Type 0 where
  pub begins : BeginsAt d x
  pub few : len (apply d x) ≤ POINT_LIMIT

abbrev pub CanPlan : List Want → List Holding → List Changes → Type 0
CanPlan wants held news = (k : ℕ) (w : Want) (h : Holding) → k < length wants → IsPlannable (news_of (slice_index_or wants k w).operand news) (slice_index_or held k h).content

-- operands zs on which the rule's operator has the points that were counted, of which this is held, and which the news lead to ys
pub record IsWork (rule : Operator) (held : List Holding) (news : List Changes) (before : ℕ) (zs ys : List DataSet) : Type 0 where
  pub typed : IsTyped rule
  pub old_fit : AreOperands rule.operands zs
  pub new_fit : AreOperands rule.operands ys
  pub leads : AllLeads news zs ys
  pub holds : Holds rule zs held before

-- an operator that was worked out: its delta leads from the result x to that on ys, and with the patches it holds what its rule wants of ys
pub record IsWorked (rule : Operator) (held : List Holding) (ys : List DataSet) (x : DataSet) (w : Worked) : Type 0 where
  pub new : DataSet
  pub gives : meaning_of rule ys ≡ Made new
  pub leads : Leads (arc_value w.delta) x new
  pub holds : Holds rule ys w.patches.items w.points
  pub long : length w.patches.items ≡ length held
  pub few : w.points ≤ POINT_LIMIT

abbrev pub WorkAnswer : Operator → Place → List Holding → List DataSet → DataSet → Result Worked Halt → Type 0
WorkAnswer rule place held ys x (Ok worked) = IsWorked rule held ys x worked
WorkAnswer rule place held ys x (Err halt) = IfSome (wrong_in halt) (λ w. (n : ℕ) → placed place n (meaning_of rule ys) ≡ Err w)

-- whichever operands the work is for
abbrev pub WorksRight : Operator → Place → List Holding → List Changes → ℕ → Result Worked Halt → Type 0
WorksRight rule place held news before answer = (zs ys : List DataSet) (work : IsWork rule held news before zs ys) → WorkAnswer rule place held ys work.holds.made answer

-- ---- trees

-- data sets of the sources, old ones and new ones, both of the sources' structures; the news lead from the old ones to the new ones
pub record Moves (news : List Changes) : Type 0 where
  pub structures : ℕ → Option (List Component)
  pub old : ℕ → DataSet
  pub new : ℕ → DataSet
  pub old_fit : (n : ℕ) (t : List Component) → structures n ≡ Some t → IsBoundedSetOf t (old n)
  pub new_fit : (n : ℕ) (t : List Component) → structures n ≡ Some t → IsBoundedSetOf t (new n)
  pub lead : (n : ℕ) → n < length news → Leads (news_of n news) (old n) (new n)

-- the tree is well typed over the sources, and stands for their old data sets
pub record IsRunnable (news : List Changes) (m : Moves news) (p : Plain) : Type 0 where
  pub structure : List Component
  pub typed : HasStructure m.structures (expression p) structure
  pub stands : StandsOn p m.old

pub record AreRunnable (news : List Changes) (m : Moves news) (ps : Plains) : Type 0 where
  pub structures : List (List Component)
  pub typed : HaveStructures m.structures (all_expressions ps) structures
  pub stands : AllStandOn ps m.old

abbrev pub CanRunTree : List Changes → Plain → Type 0
CanRunTree news p = (m : Moves news) × IsRunnable news m p

abbrev pub CanRunAll : List Changes → Plains → Type 0
CanRunAll news ps = (m : Moves news) × AreRunnable news m ps

-- a tree p that became q: its delta leads from its result on the old data sets to that on the new ones, and what is pending in q is that of the new ones
pub record RanOne (news : List Changes) (m : Moves news) (p q : Plain) (d : Changes) (points : ℕ) : Type 0 where
  pub before : Evaluated
  pub after : Evaluated
  pub was : result_of m.old (expression p) ≡ Ok before
  pub is : result_of m.new (expression p) ≡ Ok after
  pub leads : Leads d before.set after.set
  pub counts : points ≡ counted after.points
  pub patches : HasPatches q
  pub stands : StandsOn (applied q) m.new

pub record RanAll (news : List Changes) (m : Moves news) (ps qs : List Plain) (ds : List Changes) (points : ℕ) : Type 0 where
  pub before : List Evaluated
  pub after : List Evaluated
  pub was : results_of m.old (all_expressions (plains_of ps)) ≡ Ok before
  pub is : results_of m.new (all_expressions (plains_of ps)) ≡ Ok after
  pub leads : AllLeads ds (sets_of before) (sets_of after)
  pub counts : points ≡ counted (points_of after)
  pub patches : AllHavePatches (plains_of qs)
  pub stands : AllStandOn (all_applied (plains_of qs)) m.new

abbrev pub RunAnswer : (news : List Changes) → Moves news → Plain → Plain → Result Ran Halt → Type 0
RunAnswer news m p q (Ok ran) = RanOne news m p q (arc_value ran.delta) ran.points
RunAnswer news m p q (Err halt) = IfSome (wrong_in halt) (λ w. result_of m.new (expression p) ≡ Err w)

abbrev pub RunAllAnswer : (news : List Changes) → Moves news → List Plain → List Plain → Result Gathered Halt → Type 0
RunAllAnswer news m ps qs (Ok all) = RanAll news m ps qs (map arc_value all.news.items) all.points
RunAllAnswer news m ps qs (Err halt) = IfSome (wrong_in halt) (λ w. results_of m.new (all_expressions (plains_of ps)) ≡ Err w)

-- whichever data sets the sources have
abbrev pub RunsRight : List Changes → Plain → Plain → Result Ran Halt → Type 0
RunsRight news p q answer = (m : Moves news) → IsRunnable news m p → RunAnswer news m p q answer

abbrev pub RunAllRight : List Changes → List Plain → List Plain → Result Gathered Halt → Type 0
RunAllRight news ps qs answer = (m : Moves news) → AreRunnable news m (plains_of ps) → RunAllAnswer news m ps qs answer
