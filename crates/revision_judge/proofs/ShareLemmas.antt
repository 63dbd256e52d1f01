-- The shares of a revision, and the data sets with them put in place.
use Rattle.std.proofs.Common.{◌≡◌, ◌≢◌, ℕ, zero, suc, ◌<◌, ◌≤◌, List, [], ◌∷◌, length, Option, Some, None, refl, sym, ap, ◌∙◌, subst, arith, inl, inr, unwrap_or}
use Rattle.std.specs.Prelude.{slice_get}
use Rattle.std.specs.List.{All, fold}
use Rattle.std.specs.FinMap.{empty}
use Rattle.std.proofs.lemmas.Bool.{cases_eq}
use Rattle.std.proofs.lemmas.List.{length-set}
use Rattle.std.proofs.lemmas.List.Elements.{All-nil, All-cons, All-head, All-tail}
use Rattle.data_model.specs.Deltas.{apply}
use Rattle.vtl_values.specs.Structures.{NamedStructures}
use Rattle.point_sets.specs.DataSets.{DataSet}
use Rattle.point_sets.specs.declared.revision.Revision.{Revision}
use Rattle.revision_judge.specs.declared.ruling.Refusal.{Refusal}
use Rattle.revision_judge.specs.declared.ruling.Ruling.TheVariants as ruling
use Rattle.revision_judge.specs.declared.ruling.Share.{Share}
use Rattle.revision_judge.specs.Judging.{Judgement, Fit, Refused, input, inputs_with, inputs_then, settled, judged}
use Rattle.revision_judge.specs.Shares.{IsShare, AreShares, StandsForJudgement, with_shares}
use Rattle.revision_judge.proofs.Judgements.{others-stay, accepted-long}

-- ---- lists of data sets

-- the data set that was put in place
pub input-with : (inputs : List DataSet) (n : ℕ) (set : DataSet) → n < length inputs → input (inputs_with inputs n set) n ≡ set
input-with [] n set l = absurd (omega arith)
input-with (x ∷ xs) zero set l = refl
input-with (x ∷ xs) (suc n) set l = input-with xs n set (omega (arith, l))

pub input-other : (inputs : List DataSet) (n : ℕ) (set : DataSet) (i : ℕ) → i ≢ n → input (inputs_with inputs n set) i ≡ input inputs i
input-other inputs n set i apart = ap (λ (found : Option DataSet). unwrap_or found empty) (others-stay inputs n set i apart)

-- lists that have the same data sets are equal
pub same-inputs : (xs ys : List DataSet) → length xs ≡ length ys → ((n : ℕ) → n < length xs → input xs n ≡ input ys n) → xs ≡ ys
same-inputs [] [] long same = refl
same-inputs [] (y ∷ ys) long same = absurd (omega (arith, long))
same-inputs (x ∷ xs) [] long same = absurd (omega (arith, long))
same-inputs (x ∷ xs) (y ∷ ys) long same = (λ i. same 0 (omega arith) i ∷ same-inputs xs ys (omega (arith, long)) (λ n l. same (suc n) (omega (arith, l))) i)

-- ---- shares put in place

module _ (inputs nexts : List DataSet) where
  abbrev place : List DataSet → Share → List DataSet
  place sets share = inputs_with sets share.set (apply share.delta (input inputs share.set))

  placed-long : (shares : List Share) (xs : List DataSet) → length (fold place xs shares) ≡ length xs
  placed-long [] xs = refl
  placed-long (share ∷ shares) xs = placed-long shares (place xs share) ∙ length-set xs share.set (apply share.delta (input inputs share.set))

  -- a data set that is right, or has a share that is still to come
  abbrev RightOrToCome : List Share → List DataSet → ℕ → Type 0
  RightOrToCome shares xs n = All (λ share. share.set ≢ n) shares → input xs n ≡ input nexts n

  here-or-there : (share : Share) (shares : List Share) (xs : List DataSet) (n : ℕ) → IsShare inputs nexts share → length xs ≡ length inputs → RightOrToCome (share ∷ shares) xs n → RightOrToCome shares (place xs share) n
  here-or-there share shares xs n is long h none = elim (cases_eq n share.set) [
    | inl same ↦ subst (λ k. input (place xs share) k ≡ input nexts k) (sym same) (input-with xs share.set (apply share.delta (input inputs share.set)) (let l = is.below in omega (arith, l, long)) ∙ is.leads.ends)
    | inr other ↦ input-other xs share.set (apply share.delta (input inputs share.set)) n other ∙ h (All-cons (λ (s : Share). s.set ≢ n) share shares (λ e. other (sym e)) none)
  ]

  placed-right : (shares : List Share) (xs : List DataSet) (n : ℕ) → All (IsShare inputs nexts) shares → length xs ≡ length inputs → RightOrToCome shares xs n → input (fold place xs shares) n ≡ input nexts n
  placed-right [] xs n each long h = h (All-nil (λ (s : Share). s.set ≢ n))
  placed-right (share ∷ shares) xs n each long h =
      placed-right shares (place xs share) n (All-tail (IsShare inputs nexts) share shares each) (length-set xs share.set (apply share.delta (input inputs share.set)) ∙ long)
      (here-or-there share shares xs n (All-head (IsShare inputs nexts) share shares each) long h)

  -- the data sets with the shares put in place are those after the revision
  pub shares-placed : (shares : List Share) → length nexts ≡ length inputs → AreShares inputs nexts shares → with_shares inputs shares ≡ nexts
  shares-placed shares long h = same-inputs (with_shares inputs shares) nexts (placed-long shares inputs ∙ sym long) (λ n l. placed-right shares inputs n h.each refl (λ none. sym (h.others n none)))

-- ---- what an answer tells of the data sets

fit-told : (inputs : List DataSet) (shares : List Share) (judgement : Judgement) → StandsForJudgement inputs (ruling.Fit shares) judgement → (nexts : List DataSet) × (judgement ≡ Fit nexts) × AreShares inputs nexts shares
fit-told inputs shares (Fit nexts) h = (nexts, refl, h)
fit-told inputs shares (Refused refusal) h = absurd h

pub told-fit : (structures : NamedStructures) (inputs : List DataSet) (revision : Revision) (shares : List Share) → StandsForJudgement inputs (ruling.Fit shares) (judged structures inputs revision) → inputs_then structures inputs revision ≡ with_shares inputs shares
told-fit structures inputs revision shares h =
    let parts = fit-told inputs shares (judged structures inputs revision) h in
    ap (settled inputs) parts.1 ∙ sym (shares-placed inputs parts.0 shares (accepted-long structures inputs revision parts.0 parts.1) parts.2)

refusal-told : (inputs : List DataSet) (refusal : Refusal) (judgement : Judgement) → StandsForJudgement inputs (ruling.Refused refusal) judgement → settled inputs judgement ≡ inputs
refusal-told inputs refusal (Fit nexts) h = absurd h
refusal-told inputs refusal (Refused told) h = refl

pub told-refused : (structures : NamedStructures) (inputs : List DataSet) (revision : Revision) (refusal : Refusal) → StandsForJudgement inputs (ruling.Refused refusal) (judged structures inputs revision) → inputs_then structures inputs revision ≡ inputs
told-refused structures inputs revision refusal h = refusal-told inputs refusal (judged structures inputs revision) h

-- the shares are of the inputs
pub told-below : (structures : NamedStructures) (inputs : List DataSet) (revision : Revision) (shares : List Share) → StandsForJudgement inputs (ruling.Fit shares) (judged structures inputs revision) → All (λ share. share.set < length inputs) shares
told-below structures inputs revision shares h = λ k d l. ((fit-told inputs shares (judged structures inputs revision) h).2.each k d l).below
