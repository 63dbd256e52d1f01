-- Which works and dones stand for what a journal says.
use Rattle.std.specs.Prelude.{◌≡◌, ◌≢◌, ℕ, true, List, ⊤}
use Rattle.std.specs.List.{All}
use Rattle.data_set_trees.specs.checked.Scripts.{Script}
use Rattle.transform_nodes.specs.declared.work.Work.{Work}
use Rattle.transform_nodes.specs.declared.work.DoneParts.{DoneParts}
use Rattle.transform_nodes.specs.Nodes.{WorkStandsFor, DoneStandsFor}
use Rattle.round_journal.specs.declared.entry.Entry.{Entry}
use Rattle.round_journal.specs.declared.entry.What.{What}
use Rattle.round_journal.specs.declared.entry.What.TheVariants.{Judged, Rescripted, Opened, Claimed, Returned, GaveUp, Published, Failed, Dropped}
use Rattle.round_journal.specs.Journals.{State, inputs, base as base_of}
use Rattle.point_sets.specs.DataSets.{DataSet}

-- round, base and prefix are those of the open round
pub record InRound (s : State) (round base to : ℕ) : Type 0 where
  pub running : s.running ≡ true
  pub round_is : round ≡ s.rounds
  pub base_is : base ≡ base_of s
  pub to_is : to ≡ s.to

-- the work is of the open round, and stands for its old and its new inputs
pub record WorkStands (s : State) (w : Work) : Type 0 where
  pub place : InRound s w.round w.base w.to
  pub on : WorkStandsFor s.round.script w (inputs w.base s) (inputs w.to s)

pub record DoneStands (s : State) (d : DoneParts) : Type 0 where
  pub place : InRound s d.round d.base d.to
  pub on : DoneStandsFor s.round.script d (inputs d.base s) (inputs d.to s)

-- the done is one that running the work makes, or giving it up: of the same round, statement, base and prefix, and it stands for whichever inputs the work stands for
pub record IsDoneOf (w : Work) (d : DoneParts) : Type 0 where
  pub round : d.round ≡ w.round
  pub statement : d.statement ≡ w.statement
  pub base : d.base ≡ w.base
  pub to : d.to ≡ w.to
  pub stands : (c : Script) (xs ys : List DataSet) → WorkStandsFor c w xs ys → DoneStandsFor c d xs ys

-- the entry doesn't give the statement back
abbrev pub Keeps : ℕ → What → Type 0
Keeps i (Judged r v) = ⊤
Keeps i (Rescripted c) = ⊤
Keeps i (Opened to) = ⊤
Keeps i (Claimed j) = ⊤
Keeps i (Returned j) = i ≢ j
Keeps i (GaveUp j) = i ≢ j
Keeps i (Published to) = ⊤
Keeps i (Failed to fault) = ⊤
Keeps i (Dropped to) = ⊤

abbrev pub AllKeep : ℕ → List Entry → Type 0
AllKeep i = All (λ e. Keeps i e.what)
