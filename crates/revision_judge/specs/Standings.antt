-- What the tallies of all data sets stand for.
use Rattle.std.specs.Prelude.{◌≡◌, ◌≢◌, ◌<◌, ℕ, List, length, Option, Some, None, IsSome, Result, Err}
use Rattle.std.specs.Result.{IsOkAnd}
use Rattle.std.specs.Ordering.{nat_cmp}
use Rattle.std.specs.BTreeMap.{get}
use Rattle.point_sets.specs.DataSets.{DataSet}
use Rattle.revision_judge.specs.declared.ruling.Refusal.{Refusal}
use Rattle.revision_judge.specs.declared.tallies.Tallies.{Tallies}
use Rattle.revision_judge.specs.declared.tally.Tally.{Tally}
use Rattle.revision_judge.specs.Rows.{Progress, at_first}
use Rattle.revision_judge.specs.Judging.{Standing, input, progress_at}
use Rattle.revision_judge.specs.Tallies.{IsTally}

-- a data set that was this before the revision has come so far; where there is no tally, no row is of it
abbrev pub StandsSo : DataSet → Option Tally → Progress → Type 0
StandsSo before None p = p ≡ at_first before
StandsSo before (Some tally) p = IsTally before tally p

-- the tallies have what stands after the parts so far
pub record AreTallies (inputs : List DataSet) (tallies : Tallies) (s : Standing) : Type 0 where
  pub many : length s.sets ≡ length inputs
  pub within : (n : ℕ) → IsSome (get nat_cmp tallies.tallies n) → n < length inputs
  pub each : (n : ℕ) → n < length inputs → StandsSo (input inputs n) (get nat_cmp tallies.tallies n) (progress_at s n)

-- the tallies of the data sets with other numbers stay
abbrev pub AreOthers : ℕ → Tallies → Tallies → Type 0
AreOthers number old new = (n : ℕ) → n ≢ number → get nat_cmp new.tallies n ≡ get nat_cmp old.tallies n

-- an answer to the rows of a part: the data set's tally, or the refusal
abbrev pub AnswersSet : DataSet → Option Tally → Result Progress Refusal → Option Refusal → Type 0
AnswersSet before tally meaning None = IsOkAnd meaning (StandsSo before tally)
AnswersSet before tally meaning (Some refusal) = meaning ≡ Err refusal

-- an answer to parts: their tallies, or the refusal
abbrev pub AnswersParts : List DataSet → Tallies → Result Standing Refusal → Option Refusal → Type 0
AnswersParts inputs tallies meaning None = IsOkAnd meaning (AreTallies inputs tallies)
AnswersParts inputs tallies meaning (Some refusal) = meaning ≡ Err refusal
