-- Rounds that one caller runs alone.
use Rattle.std.specs.Prelude.{◌≡◌, ◌≤◌, ◌<◌, ◌+◌, ◌⊎◌, ℕ, true, false, List, [], ◌++◌, Option, Some, None, length, ⊤}
use Rattle.std.specs.List.{All}
use Rattle.round_core.specs.Journals.{State, number, NoneOut, Over, fault_said}
use Rattle.round_core.specs.Counts.{IsOfStatement}
use Rattle.round_core.specs.entry.Entry.{Entry}
use Rattle.round_core.specs.entry.What.{What}
use Rattle.round_core.specs.entry.What.TheVariants.{Judged, Rescripted, Opened, Claimed, Returned, GaveUp, Published as PublishedTo, Failed as FailedTo, Dropped as DroppedTo}
use Rattle.round_core.specs.verdict.ScriptFault.{ScriptFault}
use Rattle.round_core.specs.declared.stops.Given.{Given}
use Rattle.round_core.specs.declared.stops.Given.TheVariants.{Counted, Published, Failed, Dropped}
use Rattle.round_core.specs.declared.stops.OpenStop.{OpenStop}
use Rattle.round_core.specs.declared.stops.OpenStop.TheVariants as stop
use Rattle.round_core.specs.Answers.{GivesSo, cannot_open}
use Rattle.round_core.specs.Seen.{Seen, state_in, seen_with, opened}
use Rattle.round_runs.specs.declared.round.RoundEnd.{RoundEnd}
use Rattle.round_runs.specs.declared.round.RoundEnd.TheVariants as end

-- a round is open, and nothing is out
pub record IsOpen (p : Seen) : Type 0 where
  pub running : (state_in p).running ≡ true
  pub none_out : NoneOut (state_in p)

-- a round was opened by caller n
abbrev pub IsOpened : Seen → ℕ → Type 0
IsOpened p n = (before : Seen) × (p ≡ opened before n)

-- with the entry that opens a round over all accepted revisions
abbrev pub newly_open : Seen → ℕ → Seen
newly_open p n = seen_with p n (Opened (length (state_in p).accepted))

-- the statement came back, or was given up
abbrev pub IsBackOf : ℕ → What → Type 0
IsBackOf i w = (w ≡ Returned i) ⊎ (w ≡ GaveUp i)

-- a statement was handed out, or came back and wasn't given up
abbrev pub IsDone : What → Type 0
IsDone (Judged r v) = ⊥
IsDone (Rescripted c) = ⊥
IsDone (Opened to) = ⊥
IsDone (Claimed i) = ⊤
IsDone (Returned i) = ⊤
IsDone (GaveUp i) = ⊥
IsDone (PublishedTo to) = ⊥
IsDone (FailedTo to fault) = ⊥
IsDone (DroppedTo to) = ⊥

-- caller n had the work of a statement, and gave it back
pub record GivesNext (old : Seen) (n : ℕ) (given : Given) (new : Seen) : Type 0 where
  pub statement : ℕ
  pub what : What
  pub back : IsBackOf statement what
  pub gives : GivesSo (seen_with old n (Claimed statement)) n what given new
  pub number : (k : ℕ) → given ≡ Published k → k ≡ number (state_in (seen_with old n (Claimed statement))) + 1
  pub fits : length new.journal ≤ new.limits.entries
  pub live : ¬ (Over (state_in new))

-- of the revisions and releases the states say the same, and of the round but for its statements
pub record IsSameRound (old new : State) : Type 0 where
  pub first : new.first ≡ old.first
  pub newest : new.newest ≡ old.newest
  pub accepted : new.accepted ≡ old.accepted
  pub latest : new.latest ≡ old.latest
  pub earlier : new.earlier ≡ old.earlier
  pub round : new.round ≡ old.round
  pub dropped : new.dropped ≡ old.dropped
  pub to : new.to ≡ old.to

-- works of caller n were handed out and came back; none was given up, unless that is noted
pub record WorksOn (n : ℕ) (old new : Seen) : Type 0 where
  pub works : List Entry
  pub more : new ≡ record old { journal = old.journal ++ works }
  pub theirs : All (λ e. (e.by ≡ n) × IsOfStatement e.what) works
  pub done : (state_in new).spoiled ≡ false → All (λ e. IsDone e.what) works
  pub same : IsSameRound (state_in old) (state_in new)

-- the entry of an end; where a fault is told, the one in the journal says the same
abbrev pub IsEntryOf : Given → ℕ → What → Type 0
IsEntryOf Counted to w = ⊥
IsEntryOf (Published number) to w = w ≡ PublishedTo to
IsEntryOf (Failed told) to w = (kept : ScriptFault) × (fault_said told ≡ fault_said kept) × (w ≡ FailedTo to kept)
IsEntryOf Dropped to w = w ≡ DroppedTo to

-- the number of a release is the next one
abbrev pub IsNext : Given → ℕ → Type 0
IsNext Counted last = ⊥
IsNext (Published number) last = number ≡ last + 1
IsNext (Failed fault) last = ⊤
IsNext Dropped last = ⊤

-- caller n ran the open round to its end
pub record RunsRound (old : Seen) (n : ℕ) (end : Given) (new : Seen) : Type 0 where
  pub worked : Seen
  pub works : WorksOn n old worked
  pub what : What
  pub what_is : IsEntryOf end (state_in old).to what
  pub entry : new ≡ seen_with worked n what
  pub number : IsNext end (number (state_in old))

-- caller n opened a round, and ran it to this end
abbrev pub OpensAndRuns : Seen → ℕ → Given → Seen → Type 0
OpensAndRuns old n end new = (cannot_open old ≡ None) × RunsRound (newly_open old n) n end new

-- a round was opened and run to its end; or none was, for the cause that is told or for want of memory
abbrev pub RunsWhole : Seen → ℕ → RoundEnd → Seen → Type 0
RunsWhole old n (end.NothingNew accepted) new = (new ≡ old) × (cannot_open old ≡ Some (stop.NothingNew accepted))
RunsWhole old n (end.Full full) new = (new ≡ old) × (cannot_open old ≡ Some (stop.Full full))
RunsWhole old n (end.Published k) new = OpensAndRuns old n (Published k) new
RunsWhole old n (end.Failed fault) new = OpensAndRuns old n (Failed fault) new
RunsWhole old n end.Memory new = (new ≡ old) ⊎ OpensAndRuns old n Dropped new

-- the end of a round that was run
abbrev pub end_given : Given → RoundEnd
end_given Counted = end.Memory
end_given (Published k) = end.Published k
end_given (Failed fault) = end.Failed fault
end_given Dropped = end.Memory

-- why no round was opened; where one is open there is no such end
abbrev pub not_opened : OpenStop → RoundEnd
not_opened (stop.Running rounds) = end.Memory
not_opened (stop.NothingNew accepted) = end.NothingNew accepted
not_opened (stop.Full full) = end.Full full
not_opened stop.Memory = end.Memory
