-- What a stage of the code answers, beside the stage that it stands for, and what the call did.
use Rattle.std.specs.Prelude.{◌≡◌, ◌<◌, ◌≤◌, ◌⊎◌, ℕ, List, [], ◌∷◌, Result, Ok, Err, Contains, IfOk, IfErr}
use Rattle.outside.specs.Counts.{Rose}
use Rattle.outside.specs.Shelves.{Files, ShelfView, Told}
use Rattle.outside.specs.Sinks.{SinkView, Took}
use Rattle.commands.specs.declared.stop.Ending.{Ending}
use Rattle.commands.specs.declared.stop.Stop.{Stop}
use Rattle.commands.specs.declared.stop.Stop.TheVariants.{Ended, Memory}
use Rattle.round_runs.specs.Answers.{Answer}
use Rattle.commands.specs.Stages.{Stage}
use Rattle.commands.specs.Lines.{unread}
use Rattle.commands.specs.Words.{FileLimit}

-- the answer that an end gives
abbrev pub told_by : Ending → Answer
told_by e = record { status = e.status; text = e.line.items }

-- an end that stands for the answer; want of memory stands for any
abbrev pub Gives : Stop → Answer → Type 0
Gives (Ended e) meant = told_by e ≡ meant
Gives Memory meant = Unit {0}

-- an end that stands for the end of this stage
abbrev pub Refuses : {A : Type 0} → Stop → Stage A → Type 0
Refuses (Ended e) stage = stage ≡ Err (told_by e)
Refuses Memory stage = Unit {0}

-- an end of what was read: it is refused, or isn't built
abbrev pub IsRefusal : Stop → Type 0
IsRefusal (Ended e) = (2 < e.status) × (e.status < 5)
IsRefusal Memory = Unit {0}

-- a fault of the shelf at one of these files
pub record Fault (files : List FileLimit) (old new : ShelfView) : Type 0 where
  pub rose : Rose old.faults new.faults
  pub file : FileLimit
  pub listed : Contains files file
  pub named : file.name ≡ new.last

-- one of these files is longer than its limit
pub record IsTooLong (files : List FileLimit) (new : ShelfView) : Type 0 where
  pub file : FileLimit
  pub listed : Contains files file
  pub long : file.limit < new.kept

-- status 2 has a cause: a fault at one of the files, or one that is longer than its limit
abbrev pub HasCause : List FileLimit → ShelfView → ShelfView → ℕ → Type 0
HasCause files old new status = status ≡ 2 → Fault files old new ⊎ IsTooLong files new

-- a status before the run: neither a run's nor a sink's
abbrev pub IsEarlyStatus : ℕ → Type 0
IsEarlyStatus status = (0 < status) × (status < 5)

-- the end of a stage: the stage's own answer or the line of a fault, with a status before the run
pub record EndsWith {B : Type 0} (names : List FileLimit) (old new : ShelfView) (end : Answer) (stage : Files → Stage B) : Type 0 where
  pub meant : Told old.files (λ files. (stage files ≡ Err end) ⊎ (Fault names old new × (end ≡ unread new.last)))
  pub cause : HasCause names old new end.status
  pub early : IsEarlyStatus end.status

abbrev pub Ends : {B : Type 0} → List FileLimit → ShelfView → ShelfView → Stop → (Files → Stage B) → Type 0
Ends names old new (Ended e) stage = EndsWith names old new (told_by e) stage
Ends names old new Memory stage = Unit {0}

-- a stage of the code: Ok with the stage's value, or an end with its answer or a fault's, or want of memory
pub record Stands {A B : Type 0} (view : A → B) (names : List FileLimit) (old new : ShelfView) (result : Result A Stop) (stage : Files → Stage B) : Type 0 where
  pub files : new.files ≡ old.files
  pub later : old.faults ≤ new.faults
  pub value : IfOk result (λ a. Told old.files (λ files. stage files ≡ Ok (view a)))
  pub end : IfErr result (λ stop. Ends names old new stop stage)

-- what the call did: wrote all that is meant and ended with its status; or at status 6, where the sink's count rose, or 7, wrote a prefix
abbrev pub How : SinkView → SinkView → Answer → ℕ → Type 0
How old new meant status =
    ((status ≡ meant.status) × Took old.taken new.taken meant.text (Unit {0}))
    ⊎ ((status ≡ 6) × Rose old.faults new.faults × Took old.taken new.taken meant.text ⊥)
    ⊎ ((status ≡ 7) × Took old.taken new.taken meant.text ⊥)

pub record Did (old new : SinkView) (meant : Answer) (status : ℕ) : Type 0 where
  pub how : How old new meant status

-- an end has a status before the run
abbrev pub IsEarly : Stop → Type 0
IsEarly (Ended e) = IsEarlyStatus e.status
IsEarly Memory = Unit {0}

-- an end of the words, before any file is read: no command accepts them, or theirs isn't built
abbrev pub IsOfWords : Stop → Type 0
IsOfWords (Ended e) = (e.status ≡ 1) ⊎ (e.status ≡ 4)
IsOfWords Memory = Unit {0}

-- what the call did of an end before the run
abbrev pub EndedSo : SinkView → SinkView → Stop → ℕ → Type 0
EndedSo old new (Ended e) status = Did old new (told_by e) status
EndedSo old new Memory status = (new ≡ old) × (status ≡ 7)
