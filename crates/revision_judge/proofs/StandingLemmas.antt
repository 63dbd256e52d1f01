-- The tallies of all data sets, part by part.
use Rattle.std.proofs.Common.{◌≡◌, ◌≢◌, ℕ, zero, suc, ◌+◌, ◌<◌, ◌≤◌, List, [], ◌∷◌, length, get_or, set, take, Option, Some, None, Bool, true, false, Result, Ok, Err, cond, refl, sym, subst, ap, ◌∙◌, arith, inl, inr, unwrap_or}
use Rattle.std.specs.Prelude.{slice_get, IsSome, is_some, IfOk}
use Rattle.std.specs.Result.{IsOkAnd, is_err, result_unwrap_or}
use Rattle.std.specs.List.{fold}
use Rattle.std.specs.Ordering.{nat_cmp, is_eq}
use Rattle.std.specs.BTreeMap.{get, is_at}
use Rattle.std.specs.Map.{lookup}
use Rattle.std.specs.FinMap.{empty, nat_cmp-IsAntisymmetric}
use Rattle.std.proofs.lemmas.Bool.{cases_eq, cases_Bool}
use Rattle.std.proofs.lemmas.Cmp.{nat_cmp_total}
use Rattle.std.proofs.lemmas.List.{take_all, length-set, length-map}
use Rattle.std.proofs.lemmas.List.Sums.{fold_more}
use Rattle.std.proofs.lemmas.List.Folds.{fold_stuck}
use Rattle.data_model.proofs.MapLemmas.{tied}
use Rattle.vtl_values.specs.declared.structure.Component.{Component}
use Rattle.vtl_values.specs.Structures.{NamedStructures, number_of}
use Rattle.point_sets.specs.DataSets.{DataSet}
use Rattle.point_sets.specs.declared.revision.Part.{Part}
use Rattle.point_sets.specs.declared.revision.RawRow.{RawRow}
use Rattle.revision_judge.specs.declared.ruling.Refusal.{Refusal}
use Rattle.revision_judge.specs.declared.tallies.Tallies.{Tallies}
use Rattle.revision_judge.specs.declared.tally.Tally.{Tally}
use Rattle.revision_judge.specs.Steps.{◌>>=◌}
use Rattle.revision_judge.specs.Rows.{Progress, at_first, in_new_part, rows_judged}
use Rattle.revision_judge.specs.Judging.{Standing, before_parts, progress_at, and_part, part_judged_at, part_judged, parts_judged, components_of, input}
use Rattle.revision_judge.specs.Tallies.{IsTally, AnswersRows}
use Rattle.revision_judge.specs.Standings.{StandsSo, AreTallies, AreOthers, AnswersSet, AnswersParts}
use Rattle.revision_judge.proofs.RowLemmas.{went_well}
use Rattle.revision_judge.proofs.Judgements.{first-progress}

-- ---- maps by number

pub other-number : (n q : ℕ) → q ≢ n → is_at (nat_cmp n) q ≡ false
other-number n q apart = elim (cases_Bool (is_at (nat_cmp n) q)) [
  | inl yes' ↦ absurd (apart (sym (tied nat_cmp_total nat_cmp-IsAntisymmetric n q yes')))
  | inr no' ↦ no'
]

-- ---- the first part

pub none-yet : (inputs : List DataSet) (t : Tallies) → t.tallies.entries ≡ [] → AreTallies inputs t (before_parts inputs)
none-yet inputs t none = record {
  many = length-map inputs at_first;
  within = λ n some. let bad : false ≡ true = sym (ap is_some (absent n)) ∙ some in cc;
  each = λ n l. subst (λ (found : Option Tally). StandsSo (input inputs n) found (progress_at (before_parts inputs) n)) (sym (absent n)) (first-progress inputs n l);
}
  where
    absent : (n : ℕ) → get nat_cmp t.tallies n ≡ None
    absent n = ap (λ (es : List (ℕ × Tally)). lookup (is_at (nat_cmp n)) es) none

-- ---- a part more

module _ (s : Standing) (n : ℕ) (p : Progress) where
  pub progress-here : n < length s.sets → progress_at (and_part s n p) n ≡ p
  progress-here l = here s.sets n l
    where
      here : (xs : List Progress) (k : ℕ) → k < length xs → unwrap_or (slice_get (set xs k p) k) (at_first empty) ≡ p
      here [] k l = absurd (omega arith)
      here (x ∷ xs) zero l = refl
      here (x ∷ xs) (suc k) l = here xs k (omega (arith, l))

  pub progress-other : (q : ℕ) → q ≢ n → progress_at (and_part s n p) q ≡ progress_at s q
  progress-other q apart = other s.sets n q apart
    where
      other : (xs : List Progress) (k i : ℕ) → i ≢ k → unwrap_or (slice_get (set xs k p) i) (at_first empty) ≡ unwrap_or (slice_get xs i) (at_first empty)
      other [] k i apart = refl
      other (x ∷ xs) zero zero apart = absurd (apart refl)
      other (x ∷ xs) zero (suc i) apart = refl
      other (x ∷ xs) (suc k) zero apart = refl
      other (x ∷ xs) (suc k) (suc i) apart = other xs k i (λ e. apart (ap suc e))

module _ (inputs : List DataSet) (t u : Tallies) (s : Standing) (n : ℕ) (h : AreTallies inputs t s) (l : n < length inputs) (others : AreOthers n t u) where
  -- the data set with the number has come so far, and the others stay
  and-tally : (p : Progress) → StandsSo (input inputs n) (get nat_cmp u.tallies n) p → AreTallies inputs u (and_part s n p)
  and-tally p stands = record {
    many = length-set s.sets n p ∙ h.many;
    within = λ q some. elim (cases_eq q n) [
      | inl same ↦ subst (λ k. k < length inputs) (sym same) l
      | inr other ↦ h.within q (ap is_some (sym (others q other)) ∙ some)
    ];
    each = λ q lq. elim (cases_eq q n) [
      | inl same ↦ subst (λ k. StandsSo (input inputs k) (get nat_cmp u.tallies k) (progress_at (and_part s n p) k)) (sym same)
          (subst (λ (r : Progress). StandsSo (input inputs n) (get nat_cmp u.tallies n) r) (sym (progress-here s n p (subst (λ m. n < m) (sym h.many) l))) stands)
      | inr other ↦ subst (λ (found : Option Tally). StandsSo (input inputs q) found (progress_at (and_part s n p) q)) (sym (others q other))
          (subst (λ (r : Progress). StandsSo (input inputs q) (get nat_cmp t.tallies q) r) (sym (progress-other s n p q other)) (h.each q lq))
    ];
  }

  part-told : (told : Option Refusal) (r : Result Progress Refusal) → AnswersSet (input inputs n) (get nat_cmp u.tallies n) r told → AnswersParts inputs u (r >>= (λ p. Ok (and_part s n p))) told
  part-told None (Ok p) a = and-tally p a
  part-told None (Err refusal) a = absurd a
  part-told (Some told) (Ok p) a = let bad : false ≡ true = ap is_err a in cc
  part-told (Some told) (Err refusal) a = ap (λ r. r >>= (λ p. let q : Result Standing Refusal = Ok (and_part s n p) in q)) a

  -- the rows of a part more, of the data set with the number
  pub part-taken : (structures : NamedStructures) (set : DataSet) (part : Part) (m : ℕ) (components : List Component) (told : Option Refusal) → number_of structures part.set ≡ Some n → components ≡ components_of structures n → input inputs n ≡ set → s.parts + 1 ≡ m
      → AnswersSet set (get nat_cmp u.tallies n) (rows_judged components m (in_new_part (progress_at s n)) part.rows) told → AnswersParts inputs u (part_judged structures s part) told
  part-taken structures set part m components told named cs is counted a =
      let here : AnswersSet (input inputs n) (get nat_cmp u.tallies n) (rows_judged (components_of structures n) (s.parts + 1) (in_new_part (progress_at s n)) part.rows) told
      = subst (λ (x : DataSet). AnswersSet x (get nat_cmp u.tallies n) (rows_judged (components_of structures n) (s.parts + 1) (in_new_part (progress_at s n)) part.rows) told) (sym is)
      (subst (λ k. AnswersSet set (get nat_cmp u.tallies n) (rows_judged (components_of structures n) k (in_new_part (progress_at s n)) part.rows) told) (sym counted)
      (subst (λ (xs : List Component). AnswersSet set (get nat_cmp u.tallies n) (rows_judged xs m (in_new_part (progress_at s n)) part.rows) told) cs a)) in
      subst (λ found. AnswersParts inputs u (part_judged_at structures s part.rows found) told) (sym named)
      (part-told told (rows_judged (components_of structures n) (s.parts + 1) (in_new_part (progress_at s n)) part.rows) here)

-- the tally of the data set is put back
pub told-set : (before : DataSet) (t : Tally) (found : Option Tally) (r : Result Progress Refusal) (told : Option Refusal) → found ≡ Some t → AnswersRows before t r told → AnswersSet before found r told
told-set before t found r None is a = subst (λ (f : Option Tally). IsOkAnd r (StandsSo before f)) (sym is) a
told-set before t found r (Some refusal) is a = a

-- what two clauses say of an answer
pub both-say : {A E : Type 0} (P Q R : A → Type 0) (r : Result A E) → IfOk r P → IfOk r Q → ((x : A) → P x → Q x → R x) → IfOk r R
both-say P Q R (Ok x) p q f = f x p q
both-say P Q R (Err e) p q f = tt

-- what an answer to a part says
pub parts-refuse : (inputs : List DataSet) (t : Tallies) (meaning : Result Standing Refusal) (told : Option Refusal) (refusal : Refusal) → AnswersParts inputs t meaning told → told ≡ Some refusal → meaning ≡ Err refusal
parts-refuse inputs t meaning told refusal a is = subst (AnswersParts inputs t meaning) is a

pub parts-stand : (inputs : List DataSet) (t : Tallies) (meaning : Result Standing Refusal) (told : Option Refusal) → AnswersParts inputs t meaning told → told ≡ None → IsOkAnd meaning (AreTallies inputs t)
parts-stand inputs t meaning told a is = subst (AnswersParts inputs t meaning) is a

-- ---- all parts

-- what stands after the first n parts, which are not refused, and that the tallies have it
pub record AreSoFar (structures : NamedStructures) (inputs : List DataSet) (parts : List Part) (n : ℕ) (t : Tallies) : Type 0 where
  pub after : Standing
  pub judged : parts_judged structures inputs (take n parts) ≡ Ok after
  pub stand : AreTallies inputs t after
  pub count : after.parts ≡ n

rows-part : (structures : NamedStructures) (s t : Standing) (rows : List RawRow) (found : Option ℕ) → part_judged_at structures s rows found ≡ Ok t → t.parts ≡ s.parts + 1
rows-part structures s t rows None e = let bad : true ≡ false = ap is_err e in cc
rows-part structures s t rows (Some n) e = grown (rows_judged (components_of structures n) (s.parts + 1) (in_new_part (progress_at s n)) rows) e
  where
    grown : (r : Result Progress Refusal) → (r >>= (λ p. Ok (and_part s n p))) ≡ Ok t → t.parts ≡ s.parts + 1
    grown (Ok p) e = ap (λ (q : Result Standing Refusal). (result_unwrap_or q t).parts) (sym e)
    grown (Err refusal) e = let bad : true ≡ false = ap is_err e in cc

module _ (structures : NamedStructures) (inputs : List DataSet) (parts : List Part) where
  abbrev each : Result Standing Refusal → Part → Result Standing Refusal
  each so_far part = so_far >>= (λ s. part_judged structures s part)

  pub so_far-none : (t : Tallies) → AreTallies inputs t (before_parts inputs) → AreSoFar structures inputs parts 0 t
  so_far-none t h = record { after = before_parts inputs; judged = refl; stand = h; count = refl }

  module _ (n : ℕ) (part : Part) (t : Tallies) (h : AreSoFar structures inputs parts n t) (within : n < length parts) (at : part ≡ get_or parts n part) where
    so_far-step : (r : Result Standing Refusal) → part_judged structures h.after part ≡ r → each (parts_judged structures inputs (take n parts)) (get_or parts n part) ≡ r
    so_far-step r is = (λ i. each (h.judged i) (sym at i)) ∙ is

    pub so_far-and : (u : Tallies) → IsOkAnd (part_judged structures h.after part) (AreTallies inputs u) → AreSoFar structures inputs parts (n + 1) u
    so_far-and u ok =
        let q = went_well (AreTallies inputs u) (part_judged structures h.after part) ok in
        record {
          after = q.0;
          judged = fold_more each (Ok (before_parts inputs)) parts n part within ∙ so_far-step (Ok q.0) q.1;
          stand = q.2;
          count = rows-part structures h.after q.0 part.rows (number_of structures part.set) q.1 ∙ ap (λ m. m + 1) h.count;
        }

    pub so_far-stops : (refusal : Refusal) → part_judged structures h.after part ≡ Err refusal → parts_judged structures inputs parts ≡ Err refusal
    so_far-stops refusal is = sym (fold_stuck each (Err refusal) (λ _. refl) (Ok (before_parts inputs)) parts n part within (so_far-step (Err refusal) is))

  pub so_far-whole : (n : ℕ) (t : Tallies) → AreSoFar structures inputs parts n t → length parts ≤ n → IsOkAnd (parts_judged structures inputs parts) (AreTallies inputs t)
  so_far-whole n t h past =
      let all : parts_judged structures inputs parts ≡ Ok h.after = ap (parts_judged structures inputs) (sym (take_all n parts past)) ∙ h.judged in
      subst (λ (r : Result Standing Refusal). IsOkAnd r (AreTallies inputs t)) (sym all) h.stand
