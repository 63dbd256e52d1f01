-- Judgements, and the data sets that they leave.
use Rattle.std.proofs.Common.{◌≡◌, ◌≢◌, ℕ, zero, suc, ◌+◌, ◌<◌, ◌≤◌, List, [], ◌∷◌, length, get_or, map, Option, Some, None, Bool, true, false, Result, Ok, Err, refl, sym, subst, ap, ◌∙◌, arith, unwrap_or, nat_eq}
use Rattle.std.specs.Prelude.{slice_get, option_map}
use Rattle.std.specs.Option.{IfSome}
use Rattle.std.specs.Result.{is_err, result_unwrap_or}
use Rattle.std.specs.List.{All, fold}
use Rattle.std.specs.Map.{keys_of}
use Rattle.std.specs.Cmp.Lexicographic.{pointwise}
use Rattle.std.specs.FinMap.{empty, len, get-empty, len-empty}
use Rattle.std.proofs.lemmas.List.{length-map, length-set, map-set}
use Rattle.std.proofs.lemmas.List.Elements.{All-head, All-tail}
use Rattle.std.proofs.lemmas.List.Quantifiers.{position-Some}
use Rattle.std.proofs.lemmas.Slice.Zip.{AllZip-long}
use Rattle.std.proofs.lemmas.Option.{slice_get_read, slice_get-map}
use Rattle.vtl_values.specs.declared.structure.Component.{Component}
use Rattle.vtl_values.specs.declared.value.Value.{Value}
use Rattle.vtl_values.specs.Order.{key_cmp}
use Rattle.vtl_values.specs.Structures.{NamedStructures, number_of}
use Rattle.data_model.specs.declared.TheConstants.{POINT_LIMIT}
use Rattle.point_sets.specs.DataSets.{DataSet}
use Rattle.point_sets.specs.declared.revision.Part.{Part}
use Rattle.point_sets.specs.declared.revision.RawRow.{RawRow}
use Rattle.point_sets.specs.declared.revision.Revision.{Revision}
use Rattle.structured_sets.specs.Fitting.{IsSetOf, IsBoundedSetOf, IsPointOf}
use Rattle.revision_judge.specs.declared.ruling.Refusal.{Refusal}
use Rattle.revision_judge.specs.Steps.{◌>>=◌}
use Rattle.revision_judge.specs.Rows.{Progress, at_first, in_new_part, rows_judged}
use Rattle.revision_judge.specs.Judging.{Judgement, Fit, Refused, Standing, AreInputs, before_parts, progress_at, and_part, part_judged_at, part_judged, parts_judged, sets_at, judgement_of, components_of, input, inputs_with, inputs_then, inputs_after, no_points, settled, judged}
use Rattle.revision_judge.specs.Alone.{NamedByNone, alone, judged_alone}
use Rattle.revision_judge.proofs.Kept.{Keeps, rows-keep}

-- ---- the data set with a number

pub input-is : (inputs : List DataSet) (n : ℕ) (set : DataSet) → n < length inputs → set ≡ get_or inputs n set → input inputs n ≡ set
input-is inputs n set within is = ap (λ (found : Option DataSet). unwrap_or found empty) (slice_get_read inputs (length inputs) n set refl within is)

pub number-within : (structures : NamedStructures) (inputs : List DataSet) (name : List ℕ) (n : ℕ) → AreInputs structures inputs → number_of structures name ≡ Some n → n < length inputs
number-within structures inputs name n h is =
    let found : n < length (keys_of structures) = (position-Some (pointwise nat_eq name) (keys_of structures) n [] is).0 in
    let named = length-map structures (λ (e : List ℕ × List Component). e.0) in
    let long = AllZip-long (λ (named : List ℕ × List Component). IsBoundedSetOf named.1) structures inputs h in
    omega (arith, found, named, long)

pub input-at : (structures : NamedStructures) (inputs : List DataSet) (n : ℕ) → AreInputs structures inputs → n < length inputs → IsSetOf (components_of structures n) (input inputs n) × (len (input inputs n) ≤ POINT_LIMIT)
input-at [] [] n h within = absurd (omega arith)
input-at [] (x ∷ xs) n h within = absurd h
input-at (s ∷ ss) [] n h within = absurd h
input-at (s ∷ ss) (x ∷ xs) zero h within = (h.0.fits, h.0.few)
input-at (s ∷ ss) (x ∷ xs) (suc n) h within = input-at ss xs n h.1 (omega (arith, within))

-- another data set of the structure in its place
with-input : (structures : NamedStructures) (inputs : List DataSet) (n : ℕ) (next : DataSet) → AreInputs structures inputs → n < length inputs → IsSetOf (components_of structures n) next → len next ≤ POINT_LIMIT → AreInputs structures (inputs_with inputs n next)
with-input [] [] n next h within fits few = absurd (omega arith)
with-input [] (x ∷ xs) n next h within fits few = absurd h
with-input (s ∷ ss) [] n next h within fits few = absurd h
with-input (s ∷ ss) (x ∷ xs) zero next h within fits few = (record { fits = fits; few = few }, h.1)
with-input (s ∷ ss) (x ∷ xs) (suc n) next h within fits few = (h.0, with-input ss xs n next h.1 (omega (arith, within)) fits few)

pub others-stay : (inputs : List DataSet) (n : ℕ) (next : DataSet) (i : ℕ) → i ≢ n → slice_get (inputs_with inputs n next) i ≡ slice_get inputs i
others-stay [] n next i apart = refl
others-stay (x ∷ xs) zero next zero apart = absurd (apart refl)
others-stay (x ∷ xs) zero next (suc i) apart = refl
others-stay (x ∷ xs) (suc n) next zero apart = refl
others-stay (x ∷ xs) (suc n) next (suc i) apart = others-stay xs n next i (λ e. apart (ap suc e))

-- ---- where the data sets stand

-- a step and the next one went well
step-parts : {A B E : Type 0} (r : Result A E) (next : A → B) (y : B) → (r >>= (λ x. let q : Result B E = Ok (next x) in q)) ≡ Ok y → (x : A) × (r ≡ Ok x) × (next x ≡ y)
step-parts (Ok x) next y e = (x, refl, ap (λ r. result_unwrap_or r y) e)
step-parts {A} {B} {E} (Err why) next y e = absurd (never e)
  where
    never : (let r : Result B E = Err why in r) ≡ Ok y → ⊥
    never e = let bad : true ≡ false = ap is_err e in cc

set-or : (found : Option Progress) → (unwrap_or found (at_first empty)).set ≡ unwrap_or (option_map (λ p. p.set) found) empty
set-or None = refl
set-or (Some p) = refl

-- the data set with a number
pub progress-set : (s : Standing) (n : ℕ) → (progress_at s n).set ≡ input (sets_at s) n
progress-set s n = set-or (slice_get s.sets n) ∙ ap (λ (found : Option DataSet). unwrap_or found empty) (sym (slice_get-map (λ (p : Progress). p.set) s.sets n))

first-sets : (inputs : List DataSet) → map (λ (p : Progress). p.set) (map at_first inputs) ≡ inputs
first-sets [] = refl
first-sets (x ∷ xs) = ap (λ (ys : List DataSet). x ∷ ys) (first-sets xs)

pub part-sets : (s : Standing) (n : ℕ) (p : Progress) → sets_at (and_part s n p) ≡ inputs_with (sets_at s) n p.set
part-sets s n p = map-set (λ (q : Progress). q.set) s.sets n p

-- one part went well
pub record WentOn (structures : NamedStructures) (s : Standing) (part : Part) (t : Standing) : Type 0 where
  pub number : ℕ
  pub named : number_of structures part.set ≡ Some number
  pub progress : Progress
  pub rows : rows_judged (components_of structures number) (s.parts + 1) (in_new_part (progress_at s number)) part.rows ≡ Ok progress
  pub leaves : and_part s number progress ≡ t

went-on-at : (structures : NamedStructures) (s : Standing) (part : Part) (t : Standing) (found : Option ℕ) → number_of structures part.set ≡ found → part_judged_at structures s part.rows found ≡ Ok t → WentOn structures s part t
went-on-at structures s part t None is e = let bad : true ≡ false = ap is_err e in cc
went-on-at structures s part t (Some n) is e =
    let parts = step-parts (rows_judged (components_of structures n) (s.parts + 1) (in_new_part (progress_at s n)) part.rows) (and_part s n) t e in
    record { number = n; named = is; progress = parts.0; rows = parts.1; leaves = parts.2 }

pub went-on : (structures : NamedStructures) (s : Standing) (part : Part) (t : Standing) → part_judged structures s part ≡ Ok t → WentOn structures s part t
went-on structures s part t e = went-on-at structures s part t (number_of structures part.set) refl e

-- ---- all parts

module _ (structures : NamedStructures) where
  abbrev pub each_part : Result Standing Refusal → Part → Result Standing Refusal
  each_part so_far part = so_far >>= (λ s. part_judged structures s part)

  stuck : (parts : List Part) (refusal : Refusal) (t : Standing) → fold each_part (Err refusal) parts ≡ Ok t → ⊥
  stuck [] refusal t e = let bad : true ≡ false = ap is_err e in cc
  stuck (part ∷ parts) refusal t e = stuck parts refusal t e

  -- what each part keeps, all keep
  module _ (Q : Part → Type 0) (P : Standing → Type 0) (one : (s t : Standing) (part : Part) → Q part → WentOn structures s part t → P s → P t) where
    step-keeps : (parts : List Part) (s : Standing) (part : Part) (t : Standing) → Q part → P s → ((u : Standing) → P u → fold each_part (Ok u) parts ≡ Ok t → P t) → (r : Result Standing Refusal) → part_judged structures s part ≡ r → fold each_part r parts ≡ Ok t → P t
    step-keeps parts s part t q p later (Ok u) is e = later u (one s u part q (went-on structures s part u is) p) e
    step-keeps parts s part t q p later (Err refusal) is e = absurd (stuck parts refusal t e)

    pub parts-keep : (parts : List Part) (s t : Standing) → All Q parts → P s → fold each_part (Ok s) parts ≡ Ok t → P t
    parts-keep [] s t q p e = subst P (ap (λ (r : Result Standing Refusal). result_unwrap_or r s) e) p
    parts-keep (part ∷ parts) s t q p e = step-keeps parts s part t (All-head Q part parts q) p (λ u k f. parts-keep parts u t (All-tail Q part parts q) k f) (part_judged structures s part) refl e

all-parts : (parts : List Part) → All (λ part. Unit {0}) parts
all-parts parts k d l = tt

-- ---- what a judgement leaves

is_fit : Judgement → Bool
is_fit (Fit nexts) = true
is_fit (Refused refusal) = false

sets_in : Judgement → List DataSet
sets_in (Fit nexts) = nexts
sets_in (Refused refusal) = []

-- data sets that a judgement leaves are where the parts have brought them
fit-parts : (r : Result Standing Refusal) (nexts : List DataSet) → judgement_of r ≡ Fit nexts → (s : Standing) × (r ≡ Ok s) × (sets_at s ≡ nexts)
unfolding is_fit sets_in
fit-parts (Ok s) nexts e = (s, refl, ap sets_in e)
fit-parts (Err refusal) nexts e = let bad : false ≡ true = ap is_fit e in cc

-- a part more leaves data sets of the structures
part-keeps : (structures : NamedStructures) (s t : Standing) (part : Part) → WentOn structures s part t → AreInputs structures (sets_at s) → AreInputs structures (sets_at t)
part-keeps structures s t part w h =
    let n = w.number in
    let within = number-within structures (sets_at s) part.set n h w.named in
    let before = input-at structures (sets_at s) n h within in
    let after = rows-keep (components_of structures n) (s.parts + 1) part.rows (in_new_part (progress_at s n)) w.progress (subst (λ (m : DataSet). Keeps (components_of structures n) m) (sym (progress-set s n)) before) w.rows in
    subst (AreInputs structures) (sym (part-sets s n w.progress) ∙ ap sets_at w.leaves) (with-input structures (sets_at s) n w.progress.set h within after.0 after.1)

pub accepted-keeps : (structures : NamedStructures) (inputs : List DataSet) (revision : Revision) (nexts : List DataSet) → AreInputs structures inputs → judged structures inputs revision ≡ Fit nexts → AreInputs structures nexts
accepted-keeps structures inputs revision nexts h e =
    let fit = fit-parts (parts_judged structures inputs revision.parts) nexts e in
    subst (AreInputs structures) fit.2
    (parts-keep structures (λ part. Unit {0}) (λ s. AreInputs structures (sets_at s)) (λ s t part q w k. part-keeps structures s t part w k) revision.parts (before_parts inputs) fit.0 (all-parts revision.parts) (subst (AreInputs structures) (sym (first-sets inputs)) h) fit.1)

-- as many data sets as before
part-long : (structures : NamedStructures) (s t : Standing) (part : Part) (m : ℕ) → WentOn structures s part t → length s.sets ≡ m → length t.sets ≡ m
part-long structures s t part m w h = ap (λ (u : Standing). length u.sets) (sym w.leaves) ∙ length-set s.sets w.number w.progress ∙ h

pub accepted-long : (structures : NamedStructures) (inputs : List DataSet) (revision : Revision) (nexts : List DataSet) → judged structures inputs revision ≡ Fit nexts → length nexts ≡ length inputs
accepted-long structures inputs revision nexts e =
    let fit = fit-parts (parts_judged structures inputs revision.parts) nexts e in
    ap length (sym fit.2) ∙ length-map fit.0.sets (λ (p : Progress). p.set)
    ∙ parts-keep structures (λ part. Unit {0}) (λ s. length s.sets ≡ length inputs) (λ s t part q w k. part-long structures s t part (length inputs) w k) revision.parts (before_parts inputs) fit.0 (all-parts revision.parts) (length-map inputs at_first) fit.1

-- what no part names stays
part-others : (structures : NamedStructures) (s t : Standing) (part : Part) (n : ℕ) (found : Option DataSet) → number_of structures part.set ≢ Some n → WentOn structures s part t → slice_get (sets_at s) n ≡ found → slice_get (sets_at t) n ≡ found
part-others structures s t part n found apart w h =
    let same : n ≢ w.number = λ e. apart (w.named ∙ ap (λ (k : ℕ). let o : Option ℕ = Some k in o) (sym e)) in
    ap (λ (u : Standing). slice_get (sets_at u) n) (sym w.leaves) ∙ ap (λ (xs : List DataSet). slice_get xs n) (part-sets s w.number w.progress) ∙ others-stay (sets_at s) w.number w.progress.set n same ∙ h

pub accepted-others : (structures : NamedStructures) (inputs : List DataSet) (revision : Revision) (nexts : List DataSet) (n : ℕ) → judged structures inputs revision ≡ Fit nexts → NamedByNone structures n revision.parts → slice_get nexts n ≡ slice_get inputs n
accepted-others structures inputs revision nexts n e none =
    let fit = fit-parts (parts_judged structures inputs revision.parts) nexts e in
    ap (λ (xs : List DataSet). slice_get xs n) (sym fit.2)
    ∙ parts-keep structures (λ part. number_of structures part.set ≢ Some n) (λ s. slice_get (sets_at s) n ≡ slice_get inputs n) (λ s t part q w k. part-others structures s t part n (slice_get inputs n) q w k) revision.parts (before_parts inputs) fit.0 none (ap (λ (xs : List DataSet). slice_get xs n) (first-sets inputs)) fit.1

-- ---- short revisions

pub no-parts : (structures : NamedStructures) (inputs : List DataSet) → judged structures inputs (record { parts = [] }) ≡ Fit inputs
no-parts structures inputs = ap (λ (xs : List DataSet). Fit xs) (first-sets inputs)

first-or : (inputs : List DataSet) (n : ℕ) → n < length inputs → unwrap_or (slice_get (map at_first inputs) n) (at_first empty) ≡ at_first (input inputs n)
first-or [] n l = absurd (omega arith)
first-or (x ∷ xs) zero l = refl
first-or (x ∷ xs) (suc n) l = first-or xs n (omega (arith, l))

-- a data set is at first as it was before the revision
pub first-progress : (inputs : List DataSet) (n : ℕ) → n < length inputs → progress_at (before_parts inputs) n ≡ at_first (input inputs n)
first-progress inputs n l = first-or inputs n l

alone-so : (inputs : List DataSet) (n : ℕ) (r : Result Progress Refusal) → judgement_of (r >>= (λ p. Ok (and_part (before_parts inputs) n p))) ≡ alone inputs n r
alone-so inputs n (Ok p) = ap (λ (xs : List DataSet). Fit xs) (part-sets (before_parts inputs) n p ∙ ap (λ (xs : List DataSet). inputs_with xs n p.set) (first-sets inputs))
alone-so inputs n (Err refusal) = refl

pub one-part : (structures : NamedStructures) (inputs : List DataSet) (part : Part) (n : ℕ) → number_of structures part.set ≡ Some n → n < length inputs → judged structures inputs (record { parts = part ∷ [] }) ≡ judged_alone structures inputs part.rows n
one-part structures inputs part n is within =
    ap (λ found. judgement_of (part_judged_at structures (before_parts inputs) part.rows found)) is
    ∙ alone-so inputs n (rows_judged (components_of structures n) 1 (in_new_part (progress_at (before_parts inputs) n)) part.rows)
    ∙ ap (λ (p : Progress). alone inputs n (rows_judged (components_of structures n) 1 (in_new_part p) part.rows)) (first-progress inputs n within)

-- ---- the data sets after revisions

settled-keeps : (structures : NamedStructures) (inputs : List DataSet) (judgement : Judgement) → AreInputs structures inputs → ((nexts : List DataSet) → judgement ≡ Fit nexts → AreInputs structures nexts) → AreInputs structures (settled inputs judgement)
settled-keeps structures inputs (Fit nexts) h fits = fits nexts refl
settled-keeps structures inputs (Refused refusal) h fits = h

pub then-fit : (structures : NamedStructures) (inputs : List DataSet) (revision : Revision) → AreInputs structures inputs → AreInputs structures (inputs_then structures inputs revision)
then-fit structures inputs revision h = settled-keeps structures inputs (judged structures inputs revision) h (λ nexts e. accepted-keeps structures inputs revision nexts h e)

settled-long : (inputs : List DataSet) (judgement : Judgement) → ((nexts : List DataSet) → judgement ≡ Fit nexts → length nexts ≡ length inputs) → length (settled inputs judgement) ≡ length inputs
settled-long inputs (Fit nexts) long = long nexts refl
settled-long inputs (Refused refusal) long = refl

pub then-long : (structures : NamedStructures) (inputs : List DataSet) (revision : Revision) → length (inputs_then structures inputs revision) ≡ length inputs
then-long structures inputs revision = settled-long inputs (judged structures inputs revision) (λ nexts e. accepted-long structures inputs revision nexts e)

revisions-keep : (structures : NamedStructures) (revisions : List Revision) (inputs : List DataSet) → AreInputs structures inputs → AreInputs structures (fold (inputs_then structures) inputs revisions)
revisions-keep structures [] inputs h = h
revisions-keep structures (r ∷ rs) inputs h = revisions-keep structures rs (inputs_then structures inputs r) (then-fit structures inputs r h)

no_points-fit : (structures : NamedStructures) → AreInputs structures (no_points structures)
no_points-fit [] = tt
no_points-fit (s ∷ ss) = (record { fits = λ key. subst (λ (found : Option (List Value)). IfSome found (IsPointOf s.1 key)) (sym (get-empty key_cmp key)) tt; few = subst (λ n. n ≤ POINT_LIMIT) (sym (len-empty key_cmp (List Value))) (omega arith) }, no_points-fit ss)

pub inputs_after-fit : (structures : NamedStructures) (revisions : List Revision) → AreInputs structures (inputs_after structures revisions)
inputs_after-fit structures revisions = revisions-keep structures revisions (no_points structures) (no_points-fit structures)

-- a structure, and no points
pub one-empty : (structures : NamedStructures) → length structures ≡ 1 → AreInputs structures (empty ∷ [])
one-empty [] e = absurd (omega (arith, e))
one-empty (s ∷ []) e = no_points-fit (s ∷ [])
one-empty (s ∷ t ∷ ss) e = absurd (omega (arith, e))
