-- Slots of statements.
use Rattle.std.specs.Prelude.{◌≡◌, ◌≢◌, ◌==◌, ◌<◌, ◌⊎◌, ℕ, zero, suc, Bool, true, false, not, List, [], ◌∷◌, ◌++◌, length, map, slice_get, slice_set, slice_index_or, Option, Some, None, cond, if◌then◌else◌, sum, min, ◌≤◌, ⊤}
use Rattle.std.specs.declared.sync.Arc.{Arc}
use Rattle.std.specs.List.{All, Contains, list_all}
use Rattle.std.specs.declared.alloc.Global.{Global}
use Rattle.std.specs.Prelude.{Vec}
use Rattle.point_sets.specs.Changes.{Changes}
use Rattle.data_set_trees.specs.declared.tree.Source.{Source}
use Rattle.data_set_trees.specs.declared.tree.Source.TheVariants.{Input, Result as ResultOf}
use Rattle.data_set_trees.specs.checked.Scripts.{is_same}
use Rattle.release_text.specs.Releases.{Page}
use Rattle.round_journal.specs.Releases.{and_page}
use Rattle.round_journal.specs.node.Node.{Node}
use Rattle.round_journal.specs.work.Settle.{Settle}
use Rattle.round_journal.specs.work.Settle.TheVariants.{Apply, Forget}
use Rattle.operator_meaning.specs.Scripts.{POINTS_LIMIT}
use Rattle.round_journal.specs.fault.NodeFault.{NodeFault}
use Rattle.round_core.specs.declared.ends.End.{End}
use Rattle.round_core.specs.declared.ends.End.TheVariants.{GoesOn, Dropped, Fault, Total, Published}
use Rattle.round_core.specs.declared.slot.Slot.{Slot}
use Rattle.round_core.specs.declared.slot.Stage.{Stage}
use Rattle.round_core.specs.declared.slot.Stage.TheVariants.{Waiting, Out, Right, Wrong, Spoiled}

-- P of each slot and its number
abbrev pub EachSlot : (ℕ → Slot → Type 0) → List Slot → Type 0
EachSlot P slots = (i : ℕ) (d : Slot) → i < length slots → P i (slice_index_or slots i d)

-- what is pending since the round of the last release became part of it; nothing else did. A node that was never worked in has the round 0
abbrev pub settle_by : ℕ → ℕ → Settle
settle_by zero published = Forget
settle_by (suc n) published = if suc n == published then Apply else Forget

-- the slot of a statement that is back
abbrev pub back_with : ℕ → Node → Stage → Slot → Slot
back_with round node stage old = record old { stage = stage; stamp = round; node = Some node }

-- the node and its news are handed out, and the rest stays
pub record HandsOut (old : Slot) (published : ℕ) (settle : Settle) (news : Vec (Arc Changes Global) Global) (node : Node) (new : Slot) : Type 0 where
  pub settle_is : settle ≡ settle_by old.stamp published
  pub news_are : news ≡ old.news
  pub node_is : old.node ≡ Some node
  pub sources : new.sources ≡ old.sources
  pub stage : new.stage ≡ Out
  pub stamp : new.stamp ≡ old.stamp

-- the result of a statement is named in this place
abbrev pub NamesAt : List Source → ℕ → ℕ → Type 0
NamesAt sources i k = slice_get sources k ≡ Some (ResultOf i)

abbrev pub NamesNone : List Source → ℕ → Type 0
NamesNone sources i = All (λ source. source ≢ ResultOf i) sources

-- a statement came back with a data set
abbrev pub IsRight : Stage → Type 0
IsRight Waiting = ⊥
IsRight Out = ⊥
IsRight (Right points pages) = ⊤
IsRight (Wrong kept told) = ⊥
IsRight Spoiled = ⊥

-- an input, or a result that came back with a data set
abbrev pub ThereIn : List Slot → Source → Type 0
ThereIn slots (Input n) = ⊤
ThereIn slots (ResultOf j) = (j < length slots) × ((d : Slot) → IsRight (slice_index_or slots j d).stage)

-- the statement may be claimed
pub record ReadyIn (slots : List Slot) (i : ℕ) : Type 0 where
  pub below : i < length slots
  pub waits : (d : Slot) → (slice_index_or slots i d).stage ≡ Waiting
  pub operands : (d : Slot) → All (ThereIn slots) (slice_index_or slots i d).sources

-- all but the news and the stage
pub record SameHome (old new : Slot) : Type 0 where
  pub sources : new.sources ≡ old.sources
  pub stamp : new.stamp ≡ old.stamp
  pub node : new.node ≡ old.node

abbrev pub SameHomes : List Slot → List Slot → Type 0
SameHomes olds news = (length news ≡ length olds) × ((i : ℕ) (d : Slot) → i < length olds → SameHome (slice_index_or olds i d) (slice_index_or news i d))

-- the pages of those that came back with a data set
abbrev pub pages_of_stage : Stage → Option Page
pages_of_stage Waiting = None
pages_of_stage Out = None
pages_of_stage (Right points pages) = pages
pages_of_stage (Wrong kept told) = None
pages_of_stage Spoiled = None

-- the pages of some, in order
abbrev pub pages_by : {X : Type 0} → (X → Option Page) → List X → List Page
pages_by f [] = []
pages_by f (x ∷ xs) = and_page (f x) (pages_by f xs)

abbrev pub pages_in : List Slot → List Page
pages_in = pages_by (λ slot. pages_of_stage slot.stage)

-- the points of one that came back with a data set
abbrev pub points_of_stage : Stage → ℕ
points_of_stage Waiting = 0
points_of_stage Out = 0
points_of_stage (Right points pages) = points
points_of_stage (Wrong kept told) = 0
points_of_stage Spoiled = 0

-- the points of all
abbrev pub points_in_all : List Slot → ℕ
points_in_all slots = sum (map (λ slot. points_of_stage slot.stage) slots)

-- whether a statement is out
abbrev pub is_out : Slot → Bool
is_out slot = out_stage slot.stage
  where
    out_stage : Stage → Bool
    out_stage Waiting = false
    out_stage Out = true
    out_stage (Right points pages) = false
    out_stage (Wrong kept told) = false
    out_stage Spoiled = false

-- the slot has this fault
abbrev pub HasFault : Slot → NodeFault → NodeFault → Type 0
HasFault slot kept told = slot.stage ≡ Wrong kept told

abbrev pub IsFaultFree : Slot → Type 0
IsFaultFree slot = (kept told : NodeFault) → slot.stage ≢ Wrong kept told

-- the first slot that has a fault
pub record FirstWrong (slots : List Slot) (i : ℕ) : Type 0 where
  pub below : i < length slots
  pub wrong : (d : Slot) → (kept : NodeFault) × (told : NodeFault) × HasFault (slice_index_or slots i d) kept told
  pub first : (j : ℕ) (d : Slot) → j < i → IsFaultFree (slice_index_or slots j d)

-- no statement is out or ready
pub record AllStill (slots : List Slot) : Type 0 where
  pub none_out : EachSlot (λ i slot. slot.stage ≢ Out) slots
  pub none_ready : (i : ℕ) → ¬ (ReadyIn slots i)

-- how a round goes on with these slots
abbrev pub EndsSo : List Slot → Bool → End → Type 0
EndsSo slots spoiled GoesOn = ¬ (AllStill slots)
EndsSo slots spoiled Dropped = AllStill slots × (spoiled ≡ true)
EndsSo slots spoiled (Fault i) = AllStill slots × (spoiled ≡ false) × FirstWrong slots i
EndsSo slots spoiled (Total n) = AllStill slots × (spoiled ≡ false) × EachSlot (λ i slot. IsFaultFree slot) slots × (POINTS_LIMIT < points_in_all slots) × (n ≡ min (points_in_all slots) 18446744073709551615)
EndsSo slots spoiled Published = AllStill slots × (spoiled ≡ false) × EachSlot (λ i slot. IsFaultFree slot) slots × (points_in_all slots ≤ POINTS_LIMIT)

-- one is taken from the end, where it is named
pub record Remain (named : Bool) (old new : List (Arc Changes Global)) : Type 0 where
  pub gone : List (Arc Changes Global)
  pub front : new ++ gone ≡ old
  pub count : length gone ≤ cond named 1 0

-- what a slot becomes that names the result of statement i, and of which d is in the list of its changes
pub record HandedOn (i : ℕ) (deltas : List (Arc Changes Global)) (old new : Slot) : Type 0 where
  pub home : SameHome old new
  pub stage : new.stage ≡ old.stage
  pub news : (NamesNone old.sources i × (new.news ≡ old.news)) ⊎ ((k : ℕ) × (d : Arc Changes Global) × NamesAt old.sources i k × Contains deltas d × (new.news.items ≡ slice_set old.news.items k d))

-- whether the statement names the result of statement i
abbrev pub names_it : ℕ → Slot → Bool
names_it i slot = not (list_all (λ n. not (is_same (ResultOf i) n)) slot.sources)

-- the first of the listed statements that may be claimed
pub record FirstReadyIn (slots : List Slot) (order : List ℕ) (i : ℕ) : Type 0 where
  pub before : List ℕ
  pub behind : List ℕ
  pub stands : order ≡ before ++ i ∷ behind
  pub ready : ReadyIn slots i
  pub first : All (λ j. ¬ (ReadyIn slots j)) before
