-- What a production keeps of its journal.
use Rattle.std.specs.Prelude.{◌≡◌, ◌≢◌, ◌≤◌, ◌<◌, ◌+◌, ◌-◌, ℕ, Bool, true, false, List, [], length, take, min, Option, Some, vec_capacity, slice_get, slice_index_or}
use Rattle.std.specs.Option.{IsSomeAnd}
use Rattle.std.specs.Arc.{arc_value}
use Rattle.std.specs.declared.sync.Arc.{Arc}
use Rattle.std.specs.declared.alloc.Global.{Global}
use Rattle.data_model.specs.Deltas.{Leads}
use Rattle.point_sets.specs.DataSets.{DataSet}
use Rattle.point_sets.specs.Changes.{Changes}
use Rattle.data_set_trees.specs.declared.checked.script.CheckedStatement.{CheckedStatement}
use Rattle.data_set_trees.specs.declared.tree.Source.{Source}
use Rattle.data_set_trees.specs.checked.Scripts.{Script, IsChecked, sources_of}
use Rattle.operator_meaning.specs.Results.{Evaluated}
use Rattle.operator_meaning.specs.Scripts.{Has, Fails, states}
use Rattle.release_text.specs.Releases.{Page}
use Rattle.round_journal.specs.node.Node.{Node}
use Rattle.round_journal.specs.work.Settle.{Settle}
use Rattle.round_journal.specs.work.Settle.TheVariants.{Apply, Forget}
use Rattle.round_journal.specs.Faults.{wrong_of}
use Rattle.round_journal.specs.Nodes.{operand_on, StandsAs, published}
use Rattle.round_journal.specs.Trees.{counted}
use Rattle.round_journal.specs.Journals.{State, Named, state_of, Status, Legal, number, base as base_of, old_inputs, new_inputs, inputs_now, IsThere, Over, aside}
use Rattle.round_journal.specs.Journals as journals
use Rattle.round_journal.specs.Releases.{IsReleaseOf, IsRelease}
use Rattle.release_text.specs.declared.release.Release.{Release}
use Rattle.std.specs.List.{All}
use Rattle.round_core.specs.declared.counts.Counts.{Counts}
use Rattle.round_core.specs.declared.limits.TheConstants.{ENTRY_LIMIT, FIELD_LIMIT, SCRIPT_LIMIT, EARLIER_LIMIT}
use Rattle.round_core.specs.declared.machine.Machine.{Machine}
use Rattle.round_core.specs.declared.slot.Slot.{Slot}
use Rattle.round_core.specs.declared.slot.Stage.{Stage}
use Rattle.round_core.specs.declared.slot.Stage.TheVariants.{Waiting, Out, Right, Wrong, Spoiled}
use Rattle.round_core.specs.declared.production.Production.TheInside.{Inside}
use Rattle.round_core.specs.Inputs.{InputsKept}
use Rattle.round_core.specs.Seen.{Seen}
use Rattle.round_core.specs.Slots.{EachSlot, settle_by}

-- the counters of an empty journal
abbrev pub first_counts : Counts
first_counts = record { accepted = 0; fields = 0; newest = 0; published = 0; rounds = 0; script = 0; base = 0; running = false; dropped = false; spoiled = false; to = 0; aside = 0 }

-- the counters are those of the journal
pub record CountsKept (k : Counts) (s : State) : Type 0 where
  pub accepted : k.accepted ≡ length s.accepted
  pub fields : k.fields ≡ s.fields
  pub newest : k.newest ≡ s.newest.number
  pub published : k.published ≡ s.published
  pub rounds : k.rounds ≡ s.rounds
  pub script : k.script ≡ s.round.number
  pub base : k.base ≡ base_of s
  pub running : k.running ≡ s.running
  pub dropped : k.dropped ≡ s.dropped
  pub spoiled : k.spoiled ≡ s.spoiled
  pub to : k.to ≡ s.to
  pub aside : k.aside ≡ aside s

-- what the slots go by: the script, the rounds of the last release and of the last opening, the inputs from which the round goes on and those that it leads to, and where the statements are
pub record Scene : Type 0 where
  pub script : Script
  pub published : ℕ
  pub round : ℕ
  pub olds : List DataSet
  pub news : List DataSet
  pub status : ℕ → Status

abbrev pub scene_of : State → Scene
scene_of s = record { script = s.round.script; published = s.published; round = s.rounds; olds = old_inputs s; news = new_inputs s; status = s.status }

-- the node of statement i, once it is settled so, stands for the inputs
abbrev pub IsHome : Script → List DataSet → ℕ → Settle → Option Node → Type 0
IsHome c xs i settle node = IsSomeAnd node (λ n. (n.statement ≡ i) × StandsAs c xs settle n)

-- where a source is there, its news lead from what it was to what it is
abbrev pub LeadsThere : Scene → Arc Changes Global → Source → Type 0
LeadsThere v d source = IsThere v.script v.status v.news source → Leads (arc_value d) (operand_on v.script v.olds source) (operand_on v.script v.news source)

pub record NewsKept (v : Scene) (news : List (Arc Changes Global)) (sources : List Source) : Type 0 where
  pub many : length news ≡ length sources
  pub each : (k : ℕ) (d : Arc Changes Global) (e : Source) → k < length sources → LeadsThere v (slice_index_or news k d) (slice_index_or sources k e)

-- a statement that waits has its old node and its news
pub record WaitingKept (v : Scene) (i : ℕ) (slot : Slot) : Type 0 where
  pub place : v.status i ≡ journals.Waiting
  pub earlier : slot.stamp < v.round
  pub home : IsHome v.script v.olds i (settle_by slot.stamp v.published) slot.node
  pub news : NewsKept v slot.news.items slot.sources

-- the points and the pages are those of the statement's data set on the new inputs, of which the node has all pending
pub record ResultKept (v : Scene) (i points : ℕ) (pages : Option Page) (node : Option Node) : Type 0 where
  pub has : Evaluated
  pub state : states v.script v.news i ≡ Has has
  pub points_are : points ≡ counted has.points
  pub pages_are : (statement : CheckedStatement) → slice_get v.script.statements i ≡ Some statement → pages ≡ published statement has.set
  pub pending : IsHome v.script v.news i Apply node

-- a statement that is back has its node, which stands for the old inputs, with nothing pending
pub record BackKept (v : Scene) (i : ℕ) (slot : Slot) (status : Status) : Type 0 where
  pub place : v.status i ≡ status
  pub now : slot.stamp ≡ v.round
  pub home : IsHome v.script v.olds i Forget slot.node

abbrev pub StageKept : Scene → ℕ → Slot → Stage → Type 0
StageKept v i slot Waiting = WaitingKept v i slot
StageKept v i slot Out = (n : ℕ) × (v.status i ≡ journals.Out n)
StageKept v i slot (Right points pages) = BackKept v i slot journals.Back × ResultKept v i points pages slot.node
StageKept v i slot (Wrong kept told) = BackKept v i slot journals.Back × (wrong_of told ≡ wrong_of kept) × (states v.script v.news i ≡ Fails (wrong_of kept))
StageKept v i slot Spoiled = BackKept v i slot journals.Spoiled

-- where no round is open, each statement has its node
pub record RestKept (v : Scene) (i : ℕ) (slot : Slot) : Type 0 where
  pub earlier : slot.stamp ≤ v.round
  pub home : IsHome v.script v.olds i (settle_by slot.stamp v.published) slot.node

abbrev pub PlaceKept : Scene → ℕ → Slot → Bool → Type 0
PlaceKept v i slot true = StageKept v i slot slot.stage
PlaceKept v i slot false = RestKept v i slot

pub record SlotKept (v : Scene) (running : Bool) (i : ℕ) (slot : Slot) : Type 0 where
  pub sources : slot.sources ≡ sources_of v.script i
  pub place : PlaceKept v i slot running

pub record SlotsKept (v : Scene) (running : Bool) (slots : List Slot) : Type 0 where
  pub many : length slots ≡ length v.script.statements
  pub each : EachSlot (SlotKept v running) slots

-- none of these statements waits
abbrev pub NoneWaits : List Slot → List ℕ → Type 0
NoneWaits slots = All (λ i. (d : Slot) → (slice_index_or slots i d).stage ≢ Waiting)

-- the releases that were made last before the latest one are kept, at most so many of them, each with its number
pub record EarlierKept (s : State) (releases : List Release) : Type 0 where
  pub many : length releases ≡ min (number s) EARLIER_LIMIT
  pub each : (i : ℕ) (d : Release) (e : Named) → i < length releases → IsReleaseOf s (number s - length releases + i) (slice_index_or s.earlier (number s - length releases + i) e) (slice_index_or releases i d)

-- the scripts that are held are those of the journal
pub record ScriptsKept (a : Machine) (s : State) : Type 0 where
  pub first : arc_value a.first ≡ s.first
  pub newest : arc_value a.newest ≡ s.newest.script
  pub round : arc_value a.script ≡ s.round.script

-- all that is kept but that the round is not over
pub record Sound (a : Machine) (s : State) : Type 0 where
  pub scripts : ScriptsKept a s
  pub counts : CountsKept a.counts s
  pub inputs : InputsKept (old_inputs s) (new_inputs s) (inputs_now s) a.inputs
  pub slots : SlotsKept (scene_of s) s.running a.slots.items
  pub passed : s.running ≡ true → NoneWaits a.slots.items (take a.passed s.round.script.order)
  pub release : IsRelease s a.latest
  pub earlier : EarlierKept s a.earlier.items
  pub earlier_fit : EARLIER_LIMIT ≤ vec_capacity a.earlier
  pub pages : a.room.items ≡ []
  pub pages_fit : s.running ≡ true → length a.slots.items ≤ vec_capacity a.room

-- the journal is legal, within its limits, and has room for what is set aside
pub record Within (a : Machine) : Type 0 where
  pub checked : IsChecked (arc_value a.first)
  pub legal : Legal (arc_value a.first) a.journal.items
  pub entries : a.limits.entries ≤ ENTRY_LIMIT
  pub fields : a.limits.fields ≤ FIELD_LIMIT
  pub scripts : a.limits.scripts ≤ SCRIPT_LIMIT
  pub fits : length a.journal.items + a.counts.aside ≤ a.limits.entries
  pub fields_fit : a.counts.fields ≤ a.limits.fields
  pub scripts_fit : a.counts.newest < a.limits.scripts
  pub room : length a.journal.items + a.counts.aside ≤ vec_capacity a.journal

-- what the journal says
abbrev pub state_at : Machine → State
state_at a = state_of (arc_value a.first) a.journal.items

pub record KeptMachine (a : Machine) : Type 0 where
  pub within : Within a
  pub sound : Sound a (state_at a)
  pub live : ¬ (Over (state_at a))

abbrev pub seen_of : Machine → Seen
seen_of a = record { script = arc_value a.first; limits = a.limits; journal = a.journal.items }

abbrev pub Kept : Inside → Type 0
Kept a = KeptMachine a.machine

abbrev pub seen : Inside → Seen
seen a = seen_of a.machine
