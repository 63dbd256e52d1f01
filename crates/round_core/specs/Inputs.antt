-- What the changes of inputs lead from and to.
use Rattle.std.specs.Prelude.{◌≡◌, ◌≢◌, ◌<◌, ℕ, List, [], ◌∷◌, map, length, slice_index_or, Option, Some, None}
use Rattle.std.specs.Arc.{arc_value}
use Rattle.std.specs.declared.sync.Arc.{Arc}
use Rattle.std.specs.declared.alloc.Global.{Global}
use Rattle.std.specs.List.{All}
use Rattle.std.specs.Option.{IsSomeAnd}
use Rattle.std.specs.FinMap.{empty}
use Rattle.data_model.specs.Deltas.{Leads}
use Rattle.point_sets.specs.DataSets.{DataSet}
use Rattle.point_sets.specs.Changes.{Changes}
use Rattle.revision_judge.specs.Judging.{input}
use Rattle.round_core.specs.declared.inputs.InputChange.{InputChange}
use Rattle.round_core.specs.declared.inputs.Inputs.{Inputs}
use Rattle.round_core.specs.declared.inputs.Next.{Next}
use Rattle.round_core.specs.declared.runs.Runs.{Runs}

-- each leads on from where the one before it leads
abbrev pub LeadsThrough : List Changes → DataSet → DataSet → Type 0
LeadsThrough [] x y = x ≡ y
LeadsThrough (d ∷ ds) x y = (z : DataSet) × Leads d x z × LeadsThrough ds z y

-- wherever the first ones lead, the others do
abbrev pub LeadAlike : List Changes → List Changes → Type 0
LeadAlike ds es = (x y : DataSet) → LeadsThrough ds x y → LeadsThrough es x y

-- the parts of a change
abbrev pub changes_in : Runs → List Changes
changes_in runs = map arc_value runs.runs.items

-- nothing changed, or the change leads from the one to the other
abbrev pub LeadsOrStays : DataSet → DataSet → Option (Arc Changes Global) → Type 0
LeadsOrStays x y None = x ≡ y
LeadsOrStays x y (Some d) = Leads (arc_value d) x y

-- an input was x at the last release, y as the last round was opened, and is z now
pub record ChangeKept (x y z : DataSet) (change : InputChange) : Type 0 where
  pub older : LeadsOrStays x y change.older
  pub newer : LeadsThrough (changes_in change.newer) y z

-- the change as a round is opened over the input of now
abbrev pub Carries : InputChange → InputChange → Type 0
Carries change next = (x y z : DataSet) → ChangeKept x y z change → ChangeKept x z z next

-- the change leads up to now, and there is none from there
pub record Starts (older : Changes) (next : InputChange) : Type 0 where
  pub older_is : IsSomeAnd next.older (λ d. arc_value d ≡ older)
  pub newer_is : next.newer.runs.items ≡ []

-- all of them do
pub record AllCarry (changes next : List InputChange) : Type 0 where
  pub many : length next ≡ length changes
  pub each : (i : ℕ) (d e : InputChange) → i < length changes → Carries (slice_index_or changes i d) (slice_index_or next i e)

-- each input's change leads from no points to what it is now, and there is none from there
pub record AllBegin (nows : List DataSet) (changes : List InputChange) : Type 0 where
  pub many : length changes ≡ length nows
  pub each : (n : ℕ) (d : InputChange) → n < length nows → ChangeKept empty (input nows n) (input nows n) (slice_index_or changes n d)

-- the change as the round is published
abbrev pub closed : InputChange → InputChange
closed change = record change { older = None }

-- the inputs of the last release, of the last round, and of now
pub record InputsKept (bases tos nows : List DataSet) (a : Inputs) : Type 0 where
  pub sets : a.sets.items ≡ nows
  pub many : length a.changes.items ≡ length nows
  pub each : (n : ℕ) (d : InputChange) → n < length nows → ChangeKept (input bases n) (input tos n) (input nows n) (slice_index_or a.changes.items n d)

pub record AllClosed (changes next : List InputChange) : Type 0 where
  pub many : length next ≡ length changes
  pub each : (i : ℕ) (d : InputChange) → i < length changes → slice_index_or next i d ≡ closed (slice_index_or changes i d)

-- so many empty inputs, which never changed
pub record AreEmpty (many : ℕ) (a : Inputs) : Type 0 where
  pub sets : length a.sets.items ≡ many
  pub changes : length a.changes.items ≡ many
  pub empty_sets : (i : ℕ) (d : DataSet) → i < many → slice_index_or a.sets.items i d ≡ empty
  pub none_changed : (i : ℕ) (d : InputChange) → i < many → ChangeKept empty empty empty (slice_index_or a.changes.items i d)

-- there is an input with the number
abbrev pub HasInput : Inputs → ℕ → Type 0
HasInput a n = (n < length a.sets.items) × (n < length a.changes.items)

-- an input as it is after a revision, and how it came to be since the last round was opened
pub record IsNext (tos afters : List DataSet) (next : Next) : Type 0 where
  pub value_is : next.value ≡ input afters next.set
  pub newer : LeadsThrough (changes_in next.newer) (input tos next.set) (input afters next.set)

-- these inputs are as they are after a revision, and it leaves the others
pub record AreNexts (tos nows afters : List DataSet) (nexts : List Next) : Type 0 where
  pub each : All (IsNext tos afters) nexts
  pub others : (n : ℕ) → All (λ next. next.set ≢ n) nexts → input afters n ≡ input nows n
