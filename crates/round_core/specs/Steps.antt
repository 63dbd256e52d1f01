-- What the calls make of a production's parts.
use Rattle.std.specs.Prelude.{◌≡◌, ◌≢◌, ◌≤◌, ◌<◌, ◌+◌, ℕ, true, false, List, length, map, Option, Some, None, slice_get, slice_index_or, vec_capacity, ⊤}
use Rattle.std.specs.FinMap.{empty}
use Rattle.std.specs.Arc.{arc_value}
use Rattle.std.specs.declared.sync.Arc.{Arc}
use Rattle.std.specs.declared.alloc.Global.{Global}
use Rattle.data_model.specs.Deltas.{Leads}
use Rattle.point_sets.specs.DataSets.{DataSet}
use Rattle.point_sets.specs.Changes.{Changes}
use Rattle.point_sets.specs.declared.revision.Revision.{Revision}
use Rattle.data_set_trees.specs.declared.tree.Source.{Source}
use Rattle.data_set_trees.specs.declared.tree.Source.TheVariants.{Input, Result as ResultOf}
use Rattle.data_set_trees.specs.checked.Scripts.{Script, sources_of}
use Rattle.round_journal.specs.work.Settle.TheVariants.{Forget}
use Rattle.round_journal.specs.Journals.{number, verdict_on, round_need, fault_said}
use Rattle.round_journal.specs.declared.verdict.ScriptFault.{ScriptFault}
use Rattle.round_journal.specs.declared.entry.What.TheVariants.{Judged, Published, Failed, Dropped}
use Rattle.round_journal.specs.declared.verdict.Verdict.{Verdict}
use Rattle.round_core.specs.declared.counts.Counts.{Counts}
use Rattle.round_core.specs.declared.inputs.InputChange.{InputChange}
use Rattle.round_core.specs.declared.machine.Machine.{Machine}
use Rattle.round_core.specs.declared.slot.Slot.{Slot}
use Rattle.round_core.specs.declared.slot.Stage.TheVariants.{Waiting}
use Rattle.round_core.specs.declared.stops.Given.{Given}
use Rattle.round_core.specs.declared.stops.Given.TheVariants.{Counted, Published as GivenPublished, Failed as GivenFailed, Dropped as GivenDropped}
use Rattle.round_core.specs.Answers.{full_for}
use Rattle.round_core.specs.declared.machine.FirstRound.{FirstRound}
use Rattle.round_core.specs.declared.machine.Setting.{Setting}
use Rattle.round_core.specs.Inputs.{LeadsOrStays, AllCarry, AllBegin}
use Rattle.round_core.specs.Kept.{KeptMachine, Within, Sound, IsHome, seen_of, state_at}
use Rattle.round_core.specs.Seen.{Seen, state_in, seen_with}
use Rattle.round_core.specs.Slots.{EachSlot}

-- the parts are kept, and callers see the same
pub record Stays (old new : Machine) : Type 0 where
  pub kept : KeptMachine new
  pub seen : seen_of new ≡ seen_of old

-- the verdict on a revision is noted
pub record Judges (old : Machine) (n : ℕ) (r : Revision) (v : Verdict) (new : Machine) : Type 0 where
  pub verdict : v ≡ verdict_on (state_at old) r
  pub kept : KeptMachine new
  pub entry : seen_of new ≡ seen_with (seen_of old) n (Judged r v)

-- a judged revision fits, and the journal has room for it
pub record HasRoom (a : Machine) (r : Revision) : Type 0 where
  pub fits : full_for (seen_of a) r ≡ None
  pub room : length a.journal.items + a.counts.aside + 1 ≤ vec_capacity a.journal

-- as a round is opened: the change of an input leads from what it was to what it is; that of a result is not there yet
abbrev pub IsFirstNews : List InputChange → Arc Changes Global → Source → Type 0
IsFirstNews changes d (Input n) = (change : InputChange) (x y : DataSet) → slice_get changes n ≡ Some change → LeadsOrStays x y change.older → Leads (arc_value d) x y
IsFirstNews changes d (ResultOf i) = ⊤

pub record AreFirstNews (changes : List InputChange) (news : List (Arc Changes Global)) (sources : List Source) : Type 0 where
  pub many : length news ≡ length sources
  pub each : (k : ℕ) (d : Arc Changes Global) (e : Source) → k < length sources → IsFirstNews changes (slice_index_or news k d) (slice_index_or sources k e)

-- the slot is ready for a round
pub record IsPrepared (changes : List InputChange) (slot : Slot) : Type 0 where
  pub waits : slot.stage ≡ Waiting
  pub news : AreFirstNews changes slot.news.items slot.sources

-- the slot of a statement as its script's first round begins: its node stands for empty inputs
pub record IsFirstSlot (c : Script) (i : ℕ) (slot : Slot) : Type 0 where
  pub sources : slot.sources ≡ sources_of c i
  pub stamp : slot.stamp ≡ 0
  pub home : IsHome c (map (λ _. empty) c.inputs) i Forget slot.node

-- the round goes on with the script of the one before
pub record GoesOnWith (changes : List InputChange) (a : Machine) : Type 0 where
  pub same : a.counts.script ≡ a.counts.newest
  pub carried : AllCarry a.inputs.changes.items changes
  pub slots : EachSlot (λ i slot. IsPrepared changes slot) a.slots.items

-- the round is the first one of the newest script
pub record BeginsWith (changes : List InputChange) (first : FirstRound) (a : Machine) : Type 0 where
  pub other : a.counts.script ≢ a.counts.newest
  pub script : arc_value first.script ≡ arc_value a.newest
  pub many : length first.slots.items ≡ length (arc_value a.newest).statements
  pub from_nothing : AllBegin a.inputs.sets.items changes
  pub slots : EachSlot (IsFirstSlot (arc_value a.newest)) first.slots.items
  pub prepared : EachSlot (λ i slot. IsPrepared changes slot) first.slots.items

abbrev pub HasSlots : List InputChange → Option FirstRound → Machine → Type 0
HasSlots changes None a = GoesOnWith changes a
HasSlots changes (Some first) a = BeginsWith changes first a

-- what a round needs is set aside
pub record IsSetAside (setting : Setting) (a : Machine) : Type 0 where
  pub room : length a.journal.items + round_need (arc_value a.newest) ≤ vec_capacity a.journal
  pub pages : length (arc_value a.newest).statements ≤ vec_capacity a.room
  pub slots : HasSlots setting.changes.items setting.first a

-- the script and the slots of a round, as it goes on with those of the one before, or has its own
abbrev pub HasRound : Option FirstRound → Machine → Machine → Type 0
HasRound None old new = (new.script ≡ old.script) × (new.slots ≡ old.slots) × (new.counts.script ≡ old.counts.script) × (new.counts.base ≡ old.counts.base)
HasRound (Some first) old new = (new.script ≡ first.script) × (new.slots ≡ first.slots) × (new.counts.script ≡ old.counts.newest) × (new.counts.base ≡ 0)

-- what was set aside for a round is taken on
pub record TakesOn (setting : Setting) (old new : Machine) : Type 0 where
  pub rest : new ≡ record old { passed = 0; inputs = record old.inputs { changes = setting.changes }; script = new.script; slots = new.slots; counts = record old.counts { script = new.counts.script; base = new.counts.base } }
  pub round : HasRound setting.first old new

-- a round is open, whose last entry is the caller's; it may be over
pub record OpenStill (a : Machine) (n : ℕ) : Type 0 where
  pub within : Within a
  pub sound : Sound a (state_at a)
  pub running : (state_at a).running ≡ true
  pub same_caller : (state_at a).by ≡ n

-- the round goes on, or its end stands after its last entry
abbrev pub EndedSo : Seen → ℕ → Given → Seen → Type 0
EndedSo old n Counted new = new ≡ old
EndedSo old n (GivenPublished k) new = (new ≡ seen_with old n (Published (state_in old).to)) × (k ≡ number (state_in old) + 1)
EndedSo old n (GivenFailed told) new = (kept : ScriptFault) × (fault_said told ≡ fault_said kept) × (new ≡ seen_with old n (Failed (state_in old).to kept))
EndedSo old n GivenDropped new = new ≡ seen_with old n (Dropped (state_in old).to)

abbrev pub closed_counts : Counts → Counts
closed_counts k = record k { running = false; aside = 0 }
