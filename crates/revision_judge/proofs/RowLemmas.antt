-- The rows of a part, gone through from the first on.
use Rattle.std.proofs.Common.{◌≡◌, ℕ, ◌+◌, ◌<◌, ◌≤◌, List, length, take, get_or, true, false, Option, Some, None, Result, Ok, Err, refl, sym, subst, ap, ◌∙◌}
use Rattle.std.specs.Result.{IsOkAnd, is_err}
use Rattle.std.proofs.lemmas.List.Sums.{fold_more}
use Rattle.std.proofs.lemmas.List.Folds.{fold_stuck}
use Rattle.std.proofs.lemmas.List.{take_all}
use Rattle.vtl_values.specs.declared.structure.Component.{Component}
use Rattle.point_sets.specs.DataSets.{DataSet}
use Rattle.point_sets.specs.declared.revision.RawRow.{RawRow}
use Rattle.revision_judge.specs.declared.cause.Cause.{Cause}
use Rattle.revision_judge.specs.declared.ruling.Refusal.{Refusal}
use Rattle.revision_judge.specs.declared.stop.RowStop.{RowStop}
use Rattle.revision_judge.specs.declared.stop.RowStop.TheVariants.{Refused}
use Rattle.revision_judge.specs.declared.tally.Tally.{Tally}
use Rattle.revision_judge.specs.Steps.{◌>>=◌}
use Rattle.revision_judge.specs.Rows.{Ask, Progress, in_new_part, asked, granted, or_refused, refused_at, row_judged, rows_judged}
use Rattle.revision_judge.specs.Tallies.{IsTally, AnswersRow, AnswersRows}
use Rattle.revision_judge.proofs.Grants.{rows-granted}

-- what stands after the first n rows of a part, which have no cause, and that the tally has it
pub record IsSoFar (components : List Component) (set : DataSet) (part : ℕ) (before : Progress) (rows : List RawRow) (n : ℕ) (tally : Tally) : Type 0 where
  pub after : Progress
  pub judged : rows_judged components part before (take n rows) ≡ Ok after
  pub stands : IsTally set tally after
  pub count : after.rows ≡ n

-- the value of what went well
pub went_well : {A E : Type 0} (P : A → Type 0) (r : Result A E) → IsOkAnd r P → (x : A) × (r ≡ Ok x) × P x
went_well P (Ok x) h = (x, refl, h)
went_well P (Err e) h = absurd h

-- a row that is judged is one row more
row-counted : (p q : Progress) (r : Result Ask Cause) → (r >>= granted p) ≡ Ok q → q.rows ≡ p.rows + 1
row-counted p q (Ok ask) e = rows-granted p q ask e
row-counted p q (Err cause) e = absurd (never e)
  where
    never : (let r : Result Progress Cause = Err cause in r) ≡ Ok q → ⊥
    never e = let bad : true ≡ false = ap is_err e in cc

-- a cause that is told of a row
pub refused-row : (before : DataSet) (u : Tally) (meaning : Result Progress Cause) (stop : RowStop) (cause : Cause) → AnswersRow {A = Unit {0}} before u meaning (Err stop) → stop ≡ Refused cause → meaning ≡ Err cause
refused-row before u meaning stop cause h is = subst (λ (s : RowStop). AnswersRow {A = Unit {0}} before u meaning (Err s)) is h

-- a tally is still that as a further part begins
tally-begins : (set : DataSet) (t : Tally) (p : Progress) → IsTally set t p → IsTally set t (in_new_part p)
tally-begins set t p h = record { keys = h.keys; points = h.points; few = h.few; leads = h.leads; others = h.others }

module _ (components : List Component) (set : DataSet) (part : ℕ) (p : Progress) (rows : List RawRow) where
  abbrev before : Progress
  before = in_new_part p

  abbrev each : Result Progress Refusal → RawRow → Result Progress Refusal
  each so_far row = so_far >>= (λ q. or_refused (refused_at components part q row) (row_judged components q row))

  abbrev SoFar : ℕ → Tally → Type 0
  SoFar = IsSoFar components set part before rows

  pub so_far-first : (tally : Tally) → IsTally set tally p → SoFar 0 tally
  so_far-first tally h = record { after = before; judged = refl; stands = tally-begins set tally p h; count = refl }

  module _ (n : ℕ) (row : RawRow) (t : Tally) (h : SoFar n t) (within : n < length rows) (at : row ≡ get_or rows n row) where
    so_far-step : (r : Result Progress Cause) → row_judged components h.after row ≡ r → each (rows_judged components part before (take n rows)) (get_or rows n row) ≡ or_refused (refused_at components part h.after row) r
    so_far-step r is = (λ i. each (h.judged i) (sym at i)) ∙ ap (or_refused (refused_at components part h.after row)) is

    -- a row more
    pub so_far-more : (u : Tally) → IsOkAnd (row_judged components h.after row) (IsTally set u) → SoFar (n + 1) u
    so_far-more u ok =
        let q = went_well (IsTally set u) (row_judged components h.after row) ok in
        record {
          after = q.0;
          judged = fold_more each (Ok before) rows n row within ∙ so_far-step (Ok q.0) q.1;
          stands = q.2;
          count = row-counted h.after q.0 (asked components row) q.1 ∙ ap (λ m. m + 1) h.count;
        }

    -- the first row that has a cause
    pub so_far-refused : (cause : Cause) (refusal : Refusal) → row_judged components h.after row ≡ Err cause → refusal ≡ refused_at components part h.after row cause → rows_judged components part before rows ≡ Err refusal
    so_far-refused cause refusal is told =
        sym (fold_stuck each (Err refusal) (λ _. refl) (Ok before) rows n row within (so_far-step (Err cause) is ∙ ap (λ (r : Refusal). let s : Result Progress Refusal = Err r in s) (sym told)))

  -- all rows
  pub so_far-all : (n : ℕ) (t : Tally) → SoFar n t → length rows ≤ n → IsOkAnd (rows_judged components part before rows) (IsTally set t)
  so_far-all n t h past =
      let all : rows_judged components part before rows ≡ Ok h.after = ap (rows_judged components part before) (sym (take_all n rows past)) ∙ h.judged in
      subst (λ (r : Result Progress Refusal). IsOkAnd r (IsTally set t)) (sym all) h.stands

-- what the answer to all rows says
pub rows-stand : (set : DataSet) (t : Tally) (meaning : Result Progress Refusal) (told : Option Refusal) → AnswersRows set t meaning told → told ≡ None → IsOkAnd meaning (IsTally set t)
rows-stand set t meaning told h is = subst (AnswersRows set t meaning) is h

pub rows-refuse : (set : DataSet) (t : Tally) (meaning : Result Progress Refusal) (told : Option Refusal) (refusal : Refusal) → AnswersRows set t meaning told → told ≡ Some refusal → meaning ≡ Err refusal
rows-refuse set t meaning told refusal h is = subst (AnswersRows set t meaning) is h
