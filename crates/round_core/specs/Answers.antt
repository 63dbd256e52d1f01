-- What the calls of a production answer (docs/language.md, "Rounds").
use Rattle.std.specs.Prelude.{◌≡◌, ◌==◌, ◌||◌, ◌&&◌, ◌+◌, ℕ, zero, suc, Bool, true, false, not, nat_lt, min, length, Option, Some, None, if◌then◌else◌}
use Rattle.point_sets.specs.declared.revision.Revision.{Revision}
use Rattle.round_journal.specs.work.Work.{Work}
use Rattle.round_journal.specs.work.Finish.{Finish}
use Rattle.round_journal.specs.work.Finish.TheVariants.{Right, Fault, GaveUp as FinishGaveUp}
use Rattle.std.specs.Arc.{arc_value}
use Rattle.std.specs.declared.sync.Arc.{Arc}
use Rattle.std.specs.declared.alloc.Global.{Global}
use Rattle.data_set_trees.specs.checked.Scripts.{Script}
use Rattle.round_journal.specs.Journals.{State, Status, Waiting, Out, Back, Spoiled, fields_of, aside, round_need, round_wrong, Over, FirstReady, IsOutBy, fault_said}
use Rattle.round_journal.specs.declared.verdict.ScriptFault.{ScriptFault}
use Rattle.operator_meaning.specs.Scripts.{ScriptWrong}
use Rattle.round_journal.specs.Stands.{WorkStands}
use Rattle.round_journal.specs.declared.entry.What.{What}
use Rattle.round_journal.specs.declared.entry.What.TheVariants.{Rescripted, Claimed, Returned, GaveUp, Published, Failed, Dropped}
use Rattle.round_core.specs.declared.limits.Full.{Full}
use Rattle.round_core.specs.declared.limits.Full.TheVariants.{Entries, Fields, Scripts}
use Rattle.round_core.specs.declared.stops.OpenStop.{OpenStop}
use Rattle.round_core.specs.declared.stops.OpenStop.TheVariants.{Running, NothingNew, Full as NoRoom}
use Rattle.round_core.specs.declared.stops.Given.{Given}
use Rattle.round_core.specs.declared.stops.Given.TheVariants.{Counted, Published as GivenPublished, Failed as GivenFailed, Dropped as GivenDropped}
use Rattle.round_core.specs.Seen.{Seen, state_in, seen_with}

-- a number as a u64 tells it: the last one where it is larger
abbrev pub told : ℕ → ℕ
told n = min n 18446744073709551615

-- the entries that are held, set aside and needed, if together they pass the limit
abbrev pub entries_wanting : Seen → ℕ → ℕ → Option Full
entries_wanting p kept need = if nat_lt p.limits.entries (length p.journal + kept + need) then Some (Entries (length p.journal) kept need) else None

-- the fields of all judged revisions and those of this one, if together they pass the limit
abbrev pub fields_wanting : Seen → Revision → Option Full
fields_wanting p r = if nat_lt p.limits.fields ((state_in p).fields + fields_of r) then Some (Fields (state_in p).fields (told (fields_of r))) else None

abbrev pub or_else : Option Full → Option Full → Option Full
or_else None other = other
or_else (Some full) other = Some full

-- why a revision doesn't fit: first the entries, then the fields
abbrev pub full_for : Seen → Revision → Option Full
full_for p r = or_else (entries_wanting p (aside (state_in p)) 1) (fields_wanting p r)

-- the scripts that there were, where they are as many as may be
abbrev pub scripts_wanting : Seen → Option Full
scripts_wanting p = if nat_lt p.limits.scripts ((state_in p).newest.number + 2) then Some (Scripts ((state_in p).newest.number + 1)) else None

-- why a script can't be replaced, but for want of memory: first the scripts, then the entries
abbrev pub cannot_rescript : Seen → Option Full
cannot_rescript p = or_else (scripts_wanting p) (entries_wanting p (aside (state_in p)) 1)

-- there is nothing to be worked out: nothing was accepted yet and the script is the first one; or the last round had all accepted and the newest script, and wasn't dropped
abbrev pub nothing_new : State → Bool
nothing_new s = (length s.accepted == 0 && s.newest.number == 0) || (s.to == length s.accepted && not s.dropped && s.round.number == s.newest.number)

abbrev pub no_room : Option Full → Option OpenStop
no_room None = None
no_room (Some full) = Some (NoRoom full)

-- why a round can't be opened, but for want of memory: one is open; nothing is new; its entries don't fit
abbrev pub cannot_open : Seen → Option OpenStop
cannot_open p =
    if (state_in p).running then Some (Running (state_in p).rounds)
    else if nothing_new (state_in p) then Some (NothingNew (length (state_in p).accepted))
    else no_room (entries_wanting p 0 (round_need (state_in p).newest.script))

abbrev pub one_if_out : Status → ℕ
one_if_out Waiting = 0
one_if_out (Out n) = 1
one_if_out Back = 0
one_if_out Spoiled = 0

-- how many of the first n statements are out
abbrev pub works_out : ℕ → (ℕ → Status) → ℕ
works_out zero status = 0
works_out (suc n) status = works_out n status + one_if_out (status n)

-- caller n has the work of the first ready statement, which stands for the journal after it
pub record Claims (old : Seen) (n : ℕ) (w : Work) (new : Seen) : Type 0 where
  pub first : FirstReady (state_in old) (state_in old).round.script.order w.statement
  pub entry : new ≡ seen_with old n (Claimed w.statement)
  pub out : IsOutBy (state_in new) n w.statement
  pub stands : WorkStands (state_in new) w

-- the script is in force for the next round, and this is its number
pub record Replaces (old : Seen) (n : ℕ) (c : Script) (k : ℕ) (new : Seen) : Type 0 where
  pub number_is : k ≡ (state_in old).newest.number + 1
  pub script : Arc Script Global
  pub script_is : arc_value script ≡ c
  pub entry : new ≡ seen_with old n (Rescripted script)

-- the entry of a work that is given back
abbrev pub given_what : Finish → ℕ → What
given_what (Right deltas points pages) i = Returned i
given_what (Fault kept told) i = Returned i
given_what FinishGaveUp i = GaveUp i

-- the journal after giving back: the entry of the work, and where the round ended its end after it; the fault that is told says what the one in the journal does
abbrev pub GivesSo : Seen → ℕ → What → Given → Seen → Type 0
GivesSo old n w Counted new = new ≡ seen_with old n w
GivesSo old n w (GivenPublished k) new = new ≡ seen_with (seen_with old n w) n (Published (state_in old).to)
GivesSo old n w (GivenFailed told) new = (kept : ScriptFault) × (fault_said told ≡ fault_said kept) × (new ≡ seen_with (seen_with old n w) n (Failed (state_in old).to kept))
GivesSo old n w GivenDropped new = new ≡ seen_with (seen_with old n w) n (Dropped (state_in old).to)

-- what the journal says with the entry of a work that is given back
abbrev pub state_given : Seen → ℕ → What → State
state_given old n w = state_in (seen_with old n w)

-- the round is over, and a statement was given up
abbrev pub EndsDropped : State → Type 0
EndsDropped s = Over s × (s.spoiled ≡ true)

-- none was given up, and the script is in bounds on the round's inputs
abbrev pub EndsPublished : State → Type 0
EndsPublished s = Over s × (s.spoiled ≡ false) × (round_wrong s ≡ None)

-- none was given up, and the script has this fault there
abbrev pub EndsFailed : State → ScriptWrong → Type 0
EndsFailed s wrong = Over s × (s.spoiled ≡ false) × (round_wrong s ≡ Some wrong)
