-- What a revision that fits changes of each data set (docs/formats.md, "Judging").
use Rattle.std.specs.Prelude.{◌≡◌, ◌≢◌, ◌<◌, ℕ, List, fold, length}
use Rattle.std.specs.List.{All, AllPairs}
use Rattle.data_model.specs.Deltas.{Leads, apply}
use Rattle.point_sets.specs.DataSets.{DataSet}
use Rattle.revision_judge.specs.declared.ruling.Ruling.{Ruling}
use Rattle.revision_judge.specs.declared.ruling.Ruling.TheVariants as ruling
use Rattle.revision_judge.specs.declared.ruling.Share.{Share}
use Rattle.revision_judge.specs.Judging.{Judgement, Fit, Refused, input, inputs_with}

-- the share is of a data set that changes, and its delta leads from what that was to what it is
pub record IsShare (inputs nexts : List DataSet) (share : Share) : Type 0 where
  pub below : share.set < length inputs
  pub changes : input inputs share.set ≢ input nexts share.set
  pub leads : Leads share.delta (input inputs share.set) (input nexts share.set)

-- the shares of the data sets that change, by ascending numbers and each once
pub record AreShares (inputs nexts : List DataSet) (shares : List Share) : Type 0 where
  pub ascending : AllPairs (λ a b. a.set < b.set) shares
  pub each : All (IsShare inputs nexts) shares
  pub others : (n : ℕ) → All (λ share. share.set ≢ n) shares → input nexts n ≡ input inputs n

-- the data sets with the shares put in place
abbrev pub with_shares : List DataSet → List Share → List DataSet
with_shares inputs shares = fold (λ sets share. inputs_with sets share.set (apply share.delta (input inputs share.set))) inputs shares

-- what is answered is the judgement
abbrev pub StandsForJudgement : List DataSet → Ruling → Judgement → Type 0
StandsForJudgement inputs (ruling.Fit shares) (Fit nexts) = AreShares inputs nexts shares
StandsForJudgement inputs (ruling.Refused told) (Refused refusal) = told ≡ refusal
StandsForJudgement inputs told judgement = ⊥
