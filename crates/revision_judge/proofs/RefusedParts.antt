-- Which part a refusal tells.
use Rattle.std.proofs.Common.{◌≡◌, ℕ, ◌+◌, ◌<◌, ◌≤◌, List, [], ◌∷◌, length, Option, Some, None, Bool, true, false, Result, Ok, Err, refl, sym, ap, ◌∙◌, arith}
use Rattle.std.specs.Result.{is_err}
use Rattle.std.specs.List.{fold}
use Rattle.vtl_values.specs.declared.structure.Component.{Component}
use Rattle.vtl_values.specs.Structures.{NamedStructures, number_of}
use Rattle.point_sets.specs.DataSets.{DataSet}
use Rattle.point_sets.specs.declared.revision.Part.{Part}
use Rattle.point_sets.specs.declared.revision.RawRow.{RawRow}
use Rattle.point_sets.specs.declared.revision.Revision.{Revision}
use Rattle.revision_judge.specs.declared.cause.Cause.{Cause}
use Rattle.revision_judge.specs.declared.ruling.Refusal.{Refusal}
use Rattle.revision_judge.specs.Steps.{◌>>=◌}
use Rattle.revision_judge.specs.Rows.{Progress, in_new_part, or_refused, refused_at, row_judged, rows_judged}
use Rattle.revision_judge.specs.Judging.{Judgement, Fit, Refused, Standing, before_parts, progress_at, and_part, part_judged_at, part_judged, parts_judged, judgement_of, components_of, judged}
use Rattle.revision_judge.proofs.Judgements.{WentOn, went-on, each_part}

-- what refuses
why-or : {A : Type 0} → Refusal → Result A Refusal → Refusal
why-or other (Ok x) = other
why-or other (Err refusal) = refusal

never : {A : Type 0} (x : A) (refusal : Refusal) → (let r : Result A Refusal = Ok x in r) ≡ Err refusal → ⊥
never x refusal e = let bad : false ≡ true = ap is_err e in cc

same-why : {A : Type 0} (a b : Refusal) → (let r : Result A Refusal = Err a in r) ≡ Err b → a ≡ b
unfolding why-or
same-why a b e = ap (why-or a) e

module _ (components : List Component) (part : ℕ) where
  abbrev each : Result Progress Refusal → RawRow → Result Progress Refusal
  each so_far row = so_far >>= (λ p. or_refused (refused_at components part p row) (row_judged components p row))

  stays-refused : (rows : List RawRow) (refusal : Refusal) → fold each (Err refusal) rows ≡ Err refusal
  stays-refused [] refusal = refl
  stays-refused (row ∷ rows) refusal = stays-refused rows refusal

  row-tells : (rows : List RawRow) (p : Progress) (row : RawRow) (refusal : Refusal) → ((q : Progress) → fold each (Ok q) rows ≡ Err refusal → refusal.part ≡ part) → (r : Result Progress Cause) → fold each (or_refused (refused_at components part p row) r) rows ≡ Err refusal → refusal.part ≡ part
  row-tells rows p row refusal later (Ok q) e = later q e
  row-tells rows p row refusal later (Err cause) e = ap (λ (w : Refusal). w.part) (same-why refusal (refused_at components part p row cause) (sym e ∙ stays-refused rows (refused_at components part p row cause)))

  -- the rows of a part are refused in the part
  rows-tell : (rows : List RawRow) (p : Progress) (refusal : Refusal) → rows_judged components part p rows ≡ Err refusal → refusal.part ≡ part
  rows-tell [] p refusal e = absurd (never p refusal e)
  rows-tell (row ∷ rows) p refusal e = row-tells rows p row refusal (λ q f. rows-tell rows q refusal f) (row_judged components p row) e

module _ (structures : NamedStructures) where
  part-tells-at : (s : Standing) (rows : List RawRow) (found : Option ℕ) (refusal : Refusal) → part_judged_at structures s rows found ≡ Err refusal → refusal.part ≡ s.parts + 1
  part-tells-at s rows None refusal e = sym (ap (λ (w : Refusal). w.part) (same-why _ refusal e))
  part-tells-at s rows (Some n) refusal e = rows-tell (components_of structures n) (s.parts + 1) rows (in_new_part (progress_at s n)) refusal (passed (rows_judged (components_of structures n) (s.parts + 1) (in_new_part (progress_at s n)) rows) e)
    where
      passed : (r : Result Progress Refusal) → (r >>= (λ p. Ok (and_part s n p))) ≡ Err refusal → r ≡ Err refusal
      passed (Ok p) e = absurd (never (and_part s n p) refusal e)
      passed (Err why) e = ap (λ (w : Refusal). let r : Result Progress Refusal = Err w in r) (same-why why refusal e)

  stays-so : (parts : List Part) (refusal : Refusal) → fold (each_part structures) (Err refusal) parts ≡ Err refusal
  stays-so [] refusal = refl
  stays-so (part ∷ parts) refusal = stays-so parts refusal

  -- the refusal is in one of the parts that come after those so far
  abbrev IsAmong : Standing → List Part → Refusal → Type 0
  IsAmong s parts refusal = (s.parts < refusal.part) × (refusal.part ≤ s.parts + length parts)

  one-tells : (parts : List Part) (s : Standing) (part : Part) (refusal : Refusal) → ((t : Standing) → fold (each_part structures) (Ok t) parts ≡ Err refusal → IsAmong t parts refusal) → (r : Result Standing Refusal) → part_judged structures s part ≡ r → fold (each_part structures) r parts ≡ Err refusal → IsAmong s (part ∷ parts) refusal
  one-tells parts s part refusal later (Ok t) is e =
      let among = later t e in
      let count : s.parts + 1 ≡ t.parts = ap (λ (u : Standing). u.parts) (went-on structures s part t is).leaves in
      (omega (arith, among.0, count), omega (arith, among.1, count))
  one-tells parts s part refusal later (Err why) is e =
      let same : why ≡ refusal = same-why why refusal (sym (stays-so parts why) ∙ e) in
      let here : refusal.part ≡ s.parts + 1 = sym (ap (λ (w : Refusal). w.part) same) ∙ part-tells-at s part.rows (number_of structures part.set) why is in
      (omega (arith, here), omega (arith, here))

  parts-tell : (parts : List Part) (s : Standing) (refusal : Refusal) → fold (each_part structures) (Ok s) parts ≡ Err refusal → IsAmong s parts refusal
  parts-tell [] s refusal e = absurd (never s refusal e)
  parts-tell (part ∷ parts) s refusal e = one-tells parts s part refusal (λ t f. parts-tell parts t refusal f) (part_judged structures s part) refl e

refused-so : (r : Result Standing Refusal) (refusal : Refusal) → judgement_of r ≡ Refused refusal → r ≡ Err refusal
refused-so (Ok s) refusal e = cc e
refused-so (Err why) refusal e = ap (λ (w : Refusal). let r : Result Standing Refusal = Err w in r) (cc e)

-- a refused revision is refused in one of its parts
pub one-of-the-parts : (structures : NamedStructures) (inputs : List DataSet) (revision : Revision) (refusal : Refusal) → judged structures inputs revision ≡ Refused refusal → (1 ≤ refusal.part) × (refusal.part ≤ length revision.parts)
one-of-the-parts structures inputs revision refusal e =
    let told = parts-tell structures revision.parts (before_parts inputs) refusal (refused-so (parts_judged structures inputs revision.parts) refusal e) in
    (omega (arith, told.0), omega (arith, told.1))
