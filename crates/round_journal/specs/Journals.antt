-- Journals: what they say, and which are legal (docs/language.md, "Rounds").
use Rattle.std.specs.Prelude.{◌≡◌, ◌≢◌, ◌==◌, ◌+◌, ◌-◌, ◌*◌, ◌<◌, ◌⊎◌, ℕ, Bool, true, false, List, [], ◌∷◌, ◌++◌, Option, Some, None, is_some, map, sum, take, length, slice_get, unwrap_or, option_map, if◌then◌else◌, ⊤}
use Rattle.std.specs.List.{All}
use Rattle.std.specs.Arc.{arc_value}
use Rattle.point_sets.specs.DataSets.{DataSet}
use Rattle.point_sets.specs.declared.revision.Part.{Part}
use Rattle.point_sets.specs.declared.revision.Revision.{Revision}
use Rattle.revision_judge.specs.Judging.{Judgement, Fit, Refused as RefusedFor, judged, inputs_after}
use Rattle.data_set_trees.specs.declared.tree.Source.{Source}
use Rattle.data_set_trees.specs.declared.tree.Source.TheVariants.{Input, Result as ResultOf}
use Rattle.data_set_trees.specs.checked.Scripts.{Script, IsChecked, sources_of}
use Rattle.operator_meaning.specs.Scripts.{ScriptWrong, At as StatementWrong, Total as TotalWrong, states, set_in, script_wrong, with_at}
use Rattle.transform_nodes.specs.Faults.{wrong_of}
use Rattle.round_journal.specs.declared.entry.Entry.{Entry}
use Rattle.round_journal.specs.declared.entry.What.{What}
use Rattle.round_journal.specs.declared.entry.What.TheVariants.{Judged, Rescripted, Opened, Claimed, Returned, GaveUp, Published, Failed, Dropped}
use Rattle.round_journal.specs.declared.verdict.Verdict.{Verdict}
use Rattle.round_journal.specs.declared.verdict.Verdict.TheVariants.{Accepted, Refused}
use Rattle.round_journal.specs.declared.verdict.ScriptFault.{ScriptFault}
use Rattle.round_journal.specs.declared.verdict.ScriptFault.TheVariants.{At, Total}

-- where a statement is in a round: it waits, it is out with a caller's number, it came back, or it was given up
pub data Status : Type 0 where
  Waiting : Status
  Out : ℕ → Status
  Back : Status
  Spoiled : Status

-- a script with its number: the first one has 0, and each that replaces another the next number
pub record Numbered : Type 0 where
  pub number : ℕ
  pub script : Script

-- what a release is made of: the prefix of accepted revisions that it stands on, and its script
pub record Named : Type 0 where
  pub prefix : ℕ
  pub script : Numbered

-- what a journal says
pub record State : Type 0 where
  -- the first script, and the one that the next round has
  pub first : Script
  pub newest : Numbered
  -- the accepted revisions, in order
  pub accepted : List Revision
  -- the fields of all judged revisions
  pub fields : ℕ
  -- the latest release, the earlier ones in order, release 0 among them, and the number of the latest one's round
  pub latest : Named
  pub earlier : List Named
  pub published : ℕ
  -- the number of rounds; the script of the last one; whether it is open, was dropped, and had a statement given up; its prefix; where its statements are; and its entries, but for the judged ones and those of new scripts
  pub rounds : ℕ
  pub round : Numbered
  pub running : Bool
  pub dropped : Bool
  pub spoiled : Bool
  pub to : ℕ
  pub status : ℕ → Status
  pub spent : ℕ
  -- who made the last entry
  pub by : ℕ

-- the first script with its number
abbrev pub numbered_first : Script → Numbered
numbered_first c = record { number = 0; script = c }

-- an empty journal of a production whose first script is c; release 0 stands on no revision
abbrev pub start : Script → State
start c = record { first = c; newest = numbered_first c; accepted = []; fields = 0; latest = record { prefix = 0; script = numbered_first c }; earlier = []; published = 0; rounds = 0; round = numbered_first c; running = false; dropped = false; spoiled = false; to = 0; status = λ _. Waiting; spent = 0; by = 0 }

-- the fields of all rows of a part, and of all parts of a revision
abbrev pub part_fields : Part → ℕ
part_fields part = sum (map (λ row. length row.fields) part.rows)

abbrev pub fields_of : Revision → ℕ
fields_of r = sum (map part_fields r.parts)

abbrev pub accepted_after : List Revision → Revision → Verdict → List Revision
accepted_after rs r (Accepted n) = rs ++ r ∷ []
accepted_after rs r (Refused set parts refusal) = rs

-- the script that replaces another
abbrev pub replaced : Numbered → Script → Numbered
replaced old c = record { number = old.number + 1; script = c }

-- one entry more
abbrev pub after_what : State → ℕ → What → State
after_what s n (Judged r v) = record s { accepted = accepted_after s.accepted r v; fields = s.fields + fields_of r; by = n }
after_what s n (Rescripted c) = record s { newest = replaced s.newest (arc_value c); by = n }
after_what s n (Opened to) = record s { rounds = s.rounds + 1; round = s.newest; running = true; dropped = false; spoiled = false; to = to; status = λ _. Waiting; spent = 1; by = n }
after_what s n (Claimed i) = record s { status = with_at i (Out n) s.status; spent = s.spent + 1; by = n }
after_what s n (Returned i) = record s { status = with_at i Back s.status; spent = s.spent + 1; by = n }
after_what s n (GaveUp i) = record s { status = with_at i Spoiled s.status; spoiled = true; spent = s.spent + 1; by = n }
after_what s n (Published to) = record s { running = false; latest = record { prefix = to; script = s.round }; earlier = s.earlier ++ s.latest ∷ []; published = s.rounds; by = n }
after_what s n (Failed to fault) = record s { running = false; by = n }
after_what s n (Dropped to) = record s { running = false; dropped = true; by = n }

abbrev pub after : State → Entry → State
after s e = after_what s e.by e.what

abbrev pub after_all : State → List Entry → State
after_all s [] = s
after_all s (e ∷ es) = after_all (after s e) es

-- what a journal says whose production began with the script c
abbrev pub state_of : Script → List Entry → State
state_of c j = after_all (start c) j

-- the number of the latest release
abbrev pub number : State → ℕ
number s = length s.earlier

-- the prefix from which a round goes on: that of the latest release, where it is of the round's script, and else no revision
abbrev pub base : State → ℕ
base s = if s.round.number == s.latest.script.number then s.latest.prefix else 0

-- the input data sets after the first n accepted revisions; those from which the last round went on, those that it led to, and those of now
abbrev pub inputs : ℕ → State → List DataSet
inputs n s = inputs_after s.first.inputs (take n s.accepted)

abbrev pub old_inputs : State → List DataSet
old_inputs s = inputs (base s) s

abbrev pub new_inputs : State → List DataSet
new_inputs s = inputs s.to s

abbrev pub inputs_now : State → List DataSet
inputs_now s = inputs_after s.first.inputs s.accepted

-- the entries that a whole round of a script may need
abbrev pub round_need : Script → ℕ
round_need c = 2 * length c.statements + 2

-- the entries that are set aside for the open round
abbrev pub aside : State → ℕ
aside s = if s.running then round_need s.round.script - s.spent else 0

-- an input, or a result that was returned in the round and has a data set there
abbrev pub IsThere : Script → (ℕ → Status) → List DataSet → Source → Type 0
IsThere c status ys (Input n) = ⊤
IsThere c status ys (ResultOf j) = (status j ≡ Back) × (is_some (set_in (states c ys j)) ≡ true)

-- the statement wasn't claimed, and each result that it names is there
pub record Ready (s : State) (i : ℕ) : Type 0 where
  pub below : i < length s.round.script.statements
  pub waits : s.status i ≡ Waiting
  pub operands : All (IsThere s.round.script s.status (new_inputs s)) (sources_of s.round.script i)

-- the first of the listed statements that is ready
pub record FirstReady (s : State) (order : List ℕ) (i : ℕ) : Type 0 where
  pub before : List ℕ
  pub behind : List ℕ
  pub stands : order ≡ before ++ i ∷ behind
  pub ready : Ready s i
  pub first : All (λ j. ¬ (Ready s j)) before

abbrev pub NoneReady : State → Type 0
NoneReady s = (i : ℕ) → ¬ (Ready s i)

abbrev pub NoneOut : State → Type 0
NoneOut s = (i n : ℕ) → i < length s.round.script.statements → s.status i ≢ Out n

-- the round is open, and no statement is out or ready
pub record Over (s : State) : Type 0 where
  pub open_still : s.running ≡ true
  pub none_ready : NoneReady s
  pub none_out : NoneOut s

-- the name that the part with this number, from 1, gives its data set
abbrev pub name_of_part : List Part → ℕ → List ℕ
name_of_part parts n = unwrap_or (option_map (λ part. part.set) (slice_get parts (n - 1))) []

-- what a verdict on a revision is
abbrev pub verdict_for : Revision → ℕ → Judgement → Verdict
verdict_for r receipt (Fit nexts) = Accepted receipt
verdict_for r receipt (RefusedFor refusal) = Refused (name_of_part r.parts refusal.part) (length r.parts) refusal

-- the verdict on the inputs of now; an accepted revision gets the next number from 1
abbrev pub verdict_on : State → Revision → Verdict
verdict_on s r = verdict_for r (length s.accepted + 1) (judged s.first.inputs (inputs_now s) r)

-- what a script's fault says
abbrev pub fault_said : ScriptFault → ScriptWrong
fault_said (At statement fault) = StatementWrong statement (wrong_of fault)
fault_said (Total points) = TotalWrong points

-- why the round's script has no meaning on the round's inputs, if it has none
abbrev pub round_wrong : State → Option ScriptWrong
round_wrong s = script_wrong s.round.script (new_inputs s)

-- the end of a round: it is over, and its end carries its prefix and stands directly after its last entry, made by the same caller
pub record Ends (s : State) (n to : ℕ) : Type 0 where
  pub over : Over s
  pub prefix : to ≡ s.to
  pub same_caller : n ≡ s.by

-- a round may open: none is open; all accepted revisions are in it; there are some, or a new script; and the last one had fewer, or was dropped, or had another script
pub record MayOpen (s : State) (to : ℕ) : Type 0 where
  pub none_open : s.running ≡ false
  pub all : to ≡ length s.accepted
  pub some : (0 < to) ⊎ (0 < s.newest.number)
  pub news : (s.to < to) ⊎ ((s.dropped ≡ true) ⊎ (s.round.number < s.newest.number))

-- a script of the production: it is checked, and has the inputs of the first one
pub record IsOfProduction (s : State) (c : Script) : Type 0 where
  pub checked : IsChecked c
  pub same_inputs : c.inputs ≡ s.first.inputs

-- statement i is out with the caller's number
pub record IsOutBy (s : State) (n i : ℕ) : Type 0 where
  pub open_round : s.running ≡ true
  pub below : i < length s.round.script.statements
  pub out : s.status i ≡ Out n

-- which entry of caller n may come next
abbrev pub MayCome : State → ℕ → What → Type 0
MayCome s n (Judged r v) = ¬ (Over s) × (v ≡ verdict_on s r)
MayCome s n (Rescripted c) = ¬ (Over s) × IsOfProduction s (arc_value c)
MayCome s n (Opened to) = MayOpen s to
MayCome s n (Claimed i) = (s.running ≡ true) × FirstReady s s.round.script.order i
MayCome s n (Returned i) = IsOutBy s n i
MayCome s n (GaveUp i) = IsOutBy s n i
MayCome s n (Published to) = Ends s n to × (s.spoiled ≡ false) × (round_wrong s ≡ None)
MayCome s n (Failed to fault) = Ends s n to × (s.spoiled ≡ false) × (round_wrong s ≡ Some (fault_said fault))
MayCome s n (Dropped to) = Ends s n to × (s.spoiled ≡ true)

-- each entry may come where it comes
abbrev pub LegalFrom : State → List Entry → Type 0
LegalFrom s [] = ⊤
LegalFrom s (e ∷ es) = MayCome s e.by e.what × LegalFrom (after s e) es

-- the journal of a production whose first script is c is legal
abbrev pub Legal : Script → List Entry → Type 0
Legal c j = LegalFrom (start c) j
