-- What the tally of rows stands for.
use Rattle.std.specs.Prelude.{◌≡◌, ◌+◌, ◌≤◌, ℕ, List, Option, Some, None, Bool, true, false, if◌then◌else◌, Result, Ok, Err, ⊤}
use Rattle.std.specs.Result.{IsOkAnd}
use Rattle.std.specs.FinMap.{get, len}
use Rattle.std.specs.BTreeSet.{BTreeSet, contains}
use Rattle.std.specs.Ordering.{eq_by_cmp}
use Rattle.vtl_values.specs.declared.value.Value.{Value}
use Rattle.vtl_values.specs.Order.{key_cmp}
use Rattle.data_model.specs.Maps.{is_listed}
use Rattle.data_model.specs.Deltas.{LeadsAt}
use Rattle.data_model.specs.declared.TheConstants.{POINT_LIMIT}
use Rattle.point_sets.specs.DataSets.{DataSet}
use Rattle.revision_judge.specs.declared.cause.Cause.{Cause}
use Rattle.revision_judge.specs.declared.cause.Cause.TheVariants.{KeyTwice}
use Rattle.revision_judge.specs.declared.ruling.Refusal.{Refusal}
use Rattle.revision_judge.specs.declared.stop.RowStop.{RowStop}
use Rattle.revision_judge.specs.declared.stop.RowStop.TheVariants.{Refused, Memory}
use Rattle.revision_judge.specs.declared.tally.Tally.{Tally}
use Rattle.revision_judge.specs.Rows.{Progress}

-- the tally has what stands after the rows so far, where the data set was this one before them
pub record IsTally (before : DataSet) (tally : Tally) (p : Progress) : Type 0 where
  -- it has their keys
  pub keys : (k : List Value) → contains key_cmp tally.keys k ≡ is_listed key_cmp p.keys k
  -- it counts the points after them, which are within the limit
  pub points : tally.points ≡ len p.set
  pub few : len p.set ≤ POINT_LIMIT
  -- it has noted what they changed, key by key
  pub leads : (k : List Value) → LeadsAt (get tally.notes k) (get before k) (get p.set k)
  -- and at other keys nothing changed
  pub others : (k : List Value) → is_listed key_cmp p.keys k ≡ false → get p.set k ≡ get before k

-- it is the tally of some rows
abbrev pub IsOfRows : DataSet → Tally → Type 0
IsOfRows before tally = (p : Progress) × IsTally before tally p

-- an answer to a row: the tally of the rows with it, or its cause, or want of memory
abbrev pub AnswersRow : {A : Type 0} → DataSet → Tally → Result Progress Cause → Result A RowStop → Type 0
AnswersRow before tally meaning (Ok done) = IsOkAnd meaning (IsTally before tally)
AnswersRow before tally meaning (Err (Refused cause)) = meaning ≡ Err cause
AnswersRow before tally meaning (Err Memory) = ⊤

-- an answer to all rows: their tally, or the refusal
abbrev pub AnswersRows : DataSet → Tally → Result Progress Refusal → Option Refusal → Type 0
AnswersRows before tally meaning None = IsOkAnd meaning (IsTally before tally)
AnswersRows before tally meaning (Some refusal) = meaning ≡ Err refusal

-- the key wasn't there, and is added
pub record AddsKey (old new : BTreeSet (List Value)) (key : List Value) : Type 0 where
  pub absent : contains key_cmp old key ≡ false
  pub added : (k : List Value) → contains key_cmp new k ≡ (if eq_by_cmp key_cmp key k then true else contains key_cmp old k)

-- the key was there, or memory is wanting
abbrev pub StopsAtKey : BTreeSet (List Value) → List Value → RowStop → Type 0
StopsAtKey keys key (Refused cause) = (cause ≡ KeyTwice) × (contains key_cmp keys key ≡ true)
StopsAtKey keys key Memory = ⊤

-- how many points there are, after one is put where there is a point or not
abbrev pub with_point : Bool → ℕ → ℕ
with_point there points = if there then points else points + 1
