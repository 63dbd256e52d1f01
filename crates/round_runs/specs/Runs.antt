-- What a run of `eval` leaves in its production.
use Rattle.std.specs.Prelude.{◌≡◌, ◌≤◌, ℕ, true, false, List, [], ◌∷◌, ◌++◌, map, sum, length, Option, Some, None}
use Rattle.std.specs.List.{All, AllZip}
use Rattle.point_sets.specs.declared.revision.Revision.{Revision}
use Rattle.data_set_trees.specs.checked.Scripts.{Script}
use Rattle.release_text.specs.Releases.{release}
use Rattle.release_text.specs.declared.release.Release.{Release}
use Rattle.operator_meaning.specs.Scripts.{ScriptWrong, script_wrong}
use Rattle.round_core.specs.Journals.{State, Legal, numbered_first, inputs_now, fields_of, verdict_on, fault_said}
use Rattle.round_core.specs.Answers.{nothing_new}
use Rattle.round_core.specs.Releases.{IsRelease}
use Rattle.round_core.specs.entry.Entry.{Entry}
use Rattle.round_core.specs.entry.What.{What}
use Rattle.round_core.specs.entry.What.TheVariants.{Judged, Rescripted, Opened, Claimed, Returned, GaveUp, Published, Failed, Dropped}
use Rattle.round_core.specs.verdict.Verdict.{Verdict}
use Rattle.round_core.specs.verdict.Verdict.TheVariants.{Accepted, Refused}
use Rattle.round_core.specs.declared.limits.Limits.{Limits}
use Rattle.round_core.specs.declared.limits.TheConstants.{ENTRY_LIMIT, FIELD_LIMIT, SCRIPT_LIMIT}
use Rattle.round_core.specs.Seen.{Seen, state_in, seen_with}
use Rattle.round_runs.specs.declared.eval.End.{End}
use Rattle.round_runs.specs.declared.eval.End.TheVariants as end
use Rattle.round_runs.specs.declared.eval.Ran.{Ran}
use Rattle.round_runs.specs.declared.eval.Verdicts.{Verdicts}
use Rattle.round_runs.specs.declared.round.RoundEnd.{RoundEnd}
use Rattle.round_runs.specs.declared.round.RoundEnd.TheVariants as round
use Rattle.round_runs.specs.Eval.{judge_all, end_of, failed_line}
use Rattle.round_runs.specs.Lines.{verdict_line}
use Rattle.round_runs.specs.Rounds.{IsDone}
use Rattle.round_runs.specs.Answers.{Answer}

-- the limits of the program
abbrev pub LIMITS : Limits
LIMITS = record { entries = ENTRY_LIMIT; fields = FIELD_LIMIT; scripts = SCRIPT_LIMIT }

-- caller 0 had a verdict on the revision
abbrev pub IsVerdictOn : Revision → Entry → Type 0
IsVerdictOn r e = (v : Verdict) × (e ≡ record { by = 0; what = Judged r v })

-- a round over so many revisions ended with a release, or with a fault
abbrev pub IsEnd : ℕ → What → Type 0
IsEnd n (Judged r v) = ⊥
IsEnd n (Rescripted c) = ⊥
IsEnd n (Opened to) = ⊥
IsEnd n (Claimed i) = ⊥
IsEnd n (Returned i) = ⊥
IsEnd n (GaveUp i) = ⊥
IsEnd n (Published to) = to ≡ n
IsEnd n (Failed to fault) = to ≡ n
IsEnd n (Dropped to) = ⊥

-- the entries of a round over so many revisions: its opening, works that were handed out and came back, of which none was given up, and its end
pub record IsRound (n : ℕ) (es : List Entry) : Type 0 where
  pub works : List Entry
  pub end : What
  pub parts : es ≡ (record { by = 0; what = Opened n }) ∷ works ++ (record { by = 0; what = end }) ∷ []
  pub done : All (λ e. IsDone e.what) works
  pub ends : IsEnd n end

-- a round over all accepted revisions, unless there are none
abbrev pub IsRoundOf : List Revision → List Entry → Type 0
IsRoundOf [] es = es ≡ []
IsRoundOf (r ∷ rs) es = IsRound (length (r ∷ rs)) es

-- the journal of a run: a verdict on each revision, in order, and then the round over the accepted ones
pub record IsJournalOf (revisions accepted : List Revision) (j : List Entry) : Type 0 where
  pub verdicts : List Entry
  pub round : List Entry
  pub parts : j ≡ verdicts ++ round
  pub each : AllZip IsVerdictOn revisions verdicts
  pub one_round : IsRoundOf accepted round

-- a production that ran a script over revisions, within the program's limits
pub record IsRunOf (c : Script) (revisions : List Revision) (p : Seen) : Type 0 where
  pub script_is : p.script ≡ c
  pub limits_are : p.limits ≡ LIMITS
  pub journal_is : IsJournalOf revisions (judge_all c revisions).accepted p.journal

-- no more revisions than a feed may have, and no more fields
pub record IsFew (revisions : List Revision) : Type 0 where
  pub revisions_few : length revisions ≤ 100000
  pub fields_few : sum (map fields_of revisions) ≤ 8000000

-- how many revisions were accepted after a verdict more
abbrev pub count_after : ℕ → Verdict → ℕ
count_after accepted (Accepted receipt) = receipt
count_after accepted (Refused set parts refusal) = accepted

-- one revision more was judged, and its line stands behind those before
pub record JudgesNext (old : Seen) (before : Verdicts) (r : Revision) (new : Seen) (behind : Verdicts) : Type 0 where
  pub verdict : Verdict
  pub verdict_is : verdict ≡ verdict_on (state_in old) r
  pub entry : new ≡ seen_with old 0 (Judged r verdict)
  pub line : behind.lines.items ≡ before.lines.items ++ verdict_line verdict
  pub count : behind.accepted ≡ count_after before.accepted verdict

-- no round was opened yet, and the script wasn't replaced
pub record IsFirst (c : Script) (s : State) : Type 0 where
  pub first : s.first ≡ c
  pub newest : s.newest ≡ numbered_first c
  pub round : s.round ≡ numbered_first c
  pub latest : s.latest ≡ record { prefix = 0; script = numbered_first c }
  pub earlier : s.earlier ≡ []
  pub running : s.running ≡ false
  pub to : s.to ≡ 0

-- the revisions were judged, and no round was opened yet
pub record JudgedSo (c : Script) (revisions : List Revision) (verdicts : Verdicts) (p : Seen) : Type 0 where
  pub script_is : p.script ≡ c
  pub limits_are : p.limits ≡ LIMITS
  pub so_far : judge_all c revisions ≡ record { accepted = (state_in p).accepted; text = verdicts.lines.items }
  pub count : verdicts.accepted ≡ length (state_in p).accepted
  pub each : AllZip IsVerdictOn revisions p.journal
  pub fields_are : (state_in p).fields ≡ sum (map fields_of revisions)
  pub rest : IsFirst c (state_in p)

-- the end is this failed line
abbrev pub IsFailed : End → List ℕ → Type 0
IsFailed end.Released line = ⊥
IsFailed (end.Failed text) line = text.items ≡ line

-- what a round over so many accepted revisions, or none, comes to; where memory was wanting there is no end
abbrev pub EndsSo : Script → ℕ → RoundEnd → End → Type 0
EndsSo c accepted (round.NothingNew n) e = e ≡ end.Released
EndsSo c accepted (round.Full full) e = ⊥
EndsSo c accepted (round.Published number) e = e ≡ end.Released
EndsSo c accepted (round.Failed fault) e = IsFailed e (failed_line c accepted (fault_said fault))
EndsSo c accepted round.Memory e = ⊥

-- what the end is written as
abbrev pub WritesEnd : Seen → End → Answer → Type 0
WritesEnd p end.Released meant = (r : Release) → IsRelease (state_in p) r → meant ≡ record { status = 0; text = release r.number r.prefix r.script r.pages }
WritesEnd p (end.Failed line) meant = meant ≡ record { status = 5; text = line.items }

-- no round is open, the latest release stands on all accepted revisions, and there is nothing new; on all of them the script is in bounds
pub record IsAtRest (p : Seen) : Type 0 where
  pub closed : (state_in p).running ≡ false
  pub prefix : (state_in p).latest.prefix ≡ length (state_in p).accepted
  pub done : nothing_new (state_in p) ≡ true
  pub in_bounds : script_wrong p.script (inputs_now (state_in p)) ≡ None

-- on all accepted revisions the script has a fault
abbrev pub HasFault : Seen → Type 0
HasFault p = (wrong : ScriptWrong) × (script_wrong p.script (inputs_now (state_in p)) ≡ Some wrong)

-- how a run with this end leaves its production
abbrev pub LeavesSo : Seen → End → Type 0
LeavesSo p end.Released = IsAtRest p
LeavesSo p (end.Failed line) = HasFault p

-- it ran some script over some revisions
abbrev pub IsSomeRun : Seen → Type 0
IsSomeRun p = (c : Script) × (revisions : List Revision) × IsRunOf c revisions p

-- a run of a script over revisions, with all that is written of it
pub record RanSo (c : Script) (revisions : List Revision) (ran : Ran) : Type 0 where
  pub run : IsRunOf c revisions ran.production
  pub lines : ran.lines.items ≡ (judge_all c revisions).text
  pub end : WritesEnd ran.production ran.end (end_of c (judge_all c revisions).accepted)
  pub legal : Legal ran.production.script ran.production.journal
  pub leaves : LeavesSo ran.production ran.end
