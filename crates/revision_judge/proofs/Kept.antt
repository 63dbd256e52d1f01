-- What rows leave is a data set of the structure, within the limit of points.
use Rattle.std.proofs.Common.{◌≡◌, ◌≢◌, ℕ, ◌-◌, ◌≤◌, List, [], ◌∷◌, Option, Bool, true, false, not, ◌&&◌, cond, Result, Ok, Err, refl, sym, subst, ap, ◌∙◌, arith, nat_le, inl, inr, nat_eq, T}
use Rattle.std.specs.Prelude.{is_some}
use Rattle.std.specs.Option.{IfSome}
use Rattle.std.specs.Result.{is_err, result_map_both, result_unwrap_or}
use Rattle.std.specs.List.{AllZip, filter, fold}
use Rattle.std.specs.Ordering.{eq_by_cmp}
use Rattle.std.specs.Cmp.Lexicographic.{pointwise}
use Rattle.std.specs.FinMap.{get, insert, remove, len, get-insert, get-remove, len-remove}
use Rattle.std.proofs.Math.Facts.{eqb_yes}
use Rattle.std.proofs.lemmas.Bool.{cases_Bool}
use Rattle.std.proofs.lemmas.Bool.Decides.{nat_tests}
use Rattle.std.proofs.lemmas.Map.Views.{Contains-from_any}
use Rattle.vtl_values.specs.declared.read.BadText.{BadText}
use Rattle.vtl_values.specs.declared.structure.Codes.{Codes}
use Rattle.vtl_values.specs.declared.structure.Codes.TheVariants.{Any, Listed}
use Rattle.vtl_values.specs.declared.structure.Component.{Component}
use Rattle.vtl_values.specs.declared.value.Value.{Value}
use Rattle.vtl_values.specs.declared.value.Value.TheVariants.{Null, Truth, Integer, Number, Text}
use Rattle.vtl_values.specs.Order.{key_cmp}
use Rattle.vtl_values.specs.Texts.{same_text, value_of}
use Rattle.vtl_values.proofs.Spelled.{fits}
use Rattle.vtl_values.proofs.Values.{key_cmp-IsTotalOrder, key_cmp-IsAntisymmetric}
use Rattle.data_model.specs.Maps.{is_listed}
use Rattle.data_model.specs.declared.TheConstants.{POINT_LIMIT}
use Rattle.data_model.proofs.MapLemmas.{tied}
use Rattle.point_sets.specs.DataSets.{DataSet}
use Rattle.point_sets.specs.declared.revision.Action.{Action}
use Rattle.point_sets.specs.declared.revision.Action.TheVariants as action
use Rattle.point_sets.specs.declared.revision.RawField.{RawField}
use Rattle.point_sets.specs.declared.revision.RawField.TheVariants.{Empty}
use Rattle.point_sets.specs.declared.revision.RawRow.{RawRow}
use Rattle.structured_sets.specs.Fitting.{is_identifier, is_in_codes, FitsComponent, FitsIdentifier, IsPointOf, IsSetOf}
use Rattle.revision_judge.specs.declared.cause.Cause.{Cause}
use Rattle.revision_judge.specs.declared.cause.Cause.TheVariants.{NullIdentifier, NotInCodes, KeyTwice, NoSuchPoint, SetFull, BadText as BadCause}
use Rattle.revision_judge.specs.declared.ruling.Refusal.{Refusal}
use Rattle.revision_judge.specs.Fields.{Cell, text_in, is_null, fitting, value_in, values_in, key_cells, rest_cells}
use Rattle.revision_judge.specs.Steps.{◌>>=◌}
use Rattle.revision_judge.specs.Rows.{Ask, Put, Remove, Progress, asked, granted, grown, or_refused, refused_at, row_judged, rows_judged}
use Rattle.revision_judge.proofs.Cells.{chosen}

-- a step and the next one went well
both-well : {A B E : Type 0} (r : Result A E) (next : A → Result B E) (y : B) → (r >>= next) ≡ Ok y → (x : A) × (r ≡ Ok x) × (next x ≡ Ok y)
both-well (Ok x) next y e = (x, refl, e)
both-well {A} {B} {E} (Err why) next y e = absurd (never e)
  where
    never : (let r : Result B E = Err why in r) ≡ Ok y → ⊥
    never e = let bad : true ≡ false = ap is_err e in cc

-- ---- a value that a component may have

by_tests : (null coded : Bool) (w v : Value) → cond null (let r : Result Value Cause = Err NullIdentifier in r) (cond coded (Ok w) (Err NotInCodes)) ≡ Ok v → (w ≡ v) × (null ≡ false) × (coded ≡ true)
by_tests true coded w v e = let bad : true ≡ false = ap is_err e in cc
by_tests false true w v e = (ap (λ (r : Result Value Cause). result_unwrap_or r w) e, refl, refl)
by_tests false false w v e = let bad : true ≡ false = ap is_err e in cc

both_true : (a b : Bool) → (a && b) ≡ true → (a ≡ true) × (b ≡ true)
both_true true b e = (refl, e)
both_true false b e = cc

not_null : (c : Component) (v : Value) → is_identifier c ≡ true → (is_identifier c && is_null v) ≡ false → v ≢ Null
not_null c v identifier some null = let bad : true ≡ false = sym (λ i. identifier i && is_null (null i)) ∙ some in cc

module _ (cell : Cell) (v : Value) (e : value_in cell ≡ Ok v) where
  value-parts : (w : Value) × (value_of cell.0.kind (text_in cell.1) ≡ Ok w) × (fitting cell.0 w ≡ Ok v)
  value-parts = read (value_of cell.0.kind (text_in cell.1)) refl
    where
      read : (r : Result Value BadText) → value_of cell.0.kind (text_in cell.1) ≡ r → (w : Value) × (value_of cell.0.kind (text_in cell.1) ≡ Ok w) × (fitting cell.0 w ≡ Ok v)
      read (Ok w) is = (w, is, ap (λ (q : Result Value BadText). result_map_both (λ u. u) BadCause q >>= fitting cell.0) (sym is) ∙ e)
      read (Err fault) is = let bad : true ≡ false = ap is_err (ap (λ (q : Result Value BadText). result_map_both (λ u. u) BadCause q >>= fitting cell.0) (sym is) ∙ e) in cc

  tests : (value-parts.0 ≡ v) × ((is_identifier cell.0 && is_null value-parts.0) ≡ false) × (is_in_codes cell.0.codes value-parts.0 ≡ true)
  tests = by_tests (is_identifier cell.0 && is_null value-parts.0) (is_in_codes cell.0.codes value-parts.0) value-parts.0 v value-parts.2

  value-fits : FitsComponent cell.0 v
  value-fits = subst (FitsComponent cell.0) tests.0 record { kind = fits cell.0.kind (text_in cell.1) value-parts.0 value-parts.1; codes = tests.2 }

  identifier-fits : is_identifier cell.0 ≡ true → FitsIdentifier cell.0 v
  identifier-fits identifier = record { fits = value-fits; some = not_null cell.0 v identifier (subst (λ (u : Value). (is_identifier cell.0 && is_null u) ≡ false) tests.0 tests.1) }

-- ---- the values of cells

module _ (p : Component → Bool) (Fit : Component → Value → Type 0) (each : (cell : Cell) (v : Value) → p cell.0 ≡ true → value_in cell ≡ Ok v → Fit cell.0 v) where
  one-fits : (cell : Cell) (rest : List Cell) (cs : List Component) (vs : List Value) → p cell.0 ≡ true → ((ws : List Value) → values_in rest ≡ Ok ws → AllZip Fit cs ws) → values_in (cell ∷ rest) ≡ Ok vs → AllZip Fit (cell.0 ∷ cs) vs
  one-fits cell rest cs vs passes later e =
      let first = both-well (value_in cell) (λ v. values_in rest >>= (λ ws. Ok (v ∷ ws))) vs e in
      let more = both-well (values_in rest) (λ ws. Ok (first.0 ∷ ws)) vs first.2 in
      let whole : first.0 ∷ more.0 ≡ vs = ap (λ (r : Result (List Value) Cause). result_unwrap_or r vs) more.2 in
      subst (AllZip Fit (cell.0 ∷ cs)) whole (each cell first.0 passes first.1, later more.0 more.1)

  cell-fits : (cell : Cell) (rest : List Cell) (cs : List Component) (vs : List Value) → ((ws : List Value) → values_in rest ≡ Ok ws → AllZip Fit cs ws) → (b : Bool) → p cell.0 ≡ b → values_in (cond b (cell ∷ rest) rest) ≡ Ok vs → AllZip Fit (cond b (cell.0 ∷ cs) cs) vs
  cell-fits cell rest cs vs later true is e = one-fits cell rest cs vs is later e
  cell-fits cell rest cs vs later false is e = later vs e

  values-fit : (components : List Component) (fields : List RawField) (vs : List Value) → values_in (chosen p components fields) ≡ Ok vs → AllZip Fit (filter p components) vs
  values-fit [] fields vs e = subst (AllZip Fit []) (ap (λ (r : Result (List Value) Cause). result_unwrap_or r vs) e) tt
  values-fit (c ∷ cs) [] vs e = cell-fits (c, Empty) (chosen p cs []) (filter p cs) vs (values-fit cs []) (p c) refl e
  values-fit (c ∷ cs) (f ∷ fs) vs e = cell-fits (c, f) (chosen p cs fs) (filter p cs) vs (values-fit cs fs) (p c) refl e

-- ---- a row

-- what stands after a row: a data set of the structure, within the limit
abbrev pub Keeps : List Component → DataSet → Type 0
Keeps components set = IsSetOf components set × (len set ≤ POINT_LIMIT)

module _ (components : List Component) where
  -- a put is of a point of the structure
  abbrev AskFits : Ask → Type 0
  AskFits (Put key rest) = IsPointOf components key rest
  AskFits (Remove key) = Unit {0}

  asked-fits : (act : Action) (fields : List RawField) (ask : Ask) → asked components (record { action = act; fields = fields }) ≡ Ok ask → AskFits ask
  asked-fits action.Put fields ask e =
      let key = both-well (values_in (key_cells components fields)) _ ask e in
      let rest = both-well (values_in (rest_cells components fields)) (λ (rest : List Value). let r : Result Ask Cause = Ok (Put key.0 rest) in r) ask key.2 in
      subst AskFits (ap (λ (r : Result Ask Cause). result_unwrap_or r (Put key.0 rest.0)) rest.2) record {
        key_fits = values-fit is_identifier FitsIdentifier (λ cell v identifier is. identifier-fits cell v is identifier) components fields key.0 key.1;
        rest_fits = values-fit (λ c. not (is_identifier c)) FitsComponent (λ cell v other is. value-fits cell v is) components fields rest.0 rest.1;
      }
  asked-fits action.Remove fields ask e =
      let key = both-well (values_in (key_cells components fields)) (λ (key : List Value). let r : Result Ask Cause = Ok (Remove key) in r) ask e in
      subst AskFits (ap (λ (r : Result Ask Cause). result_unwrap_or r (Remove key.0)) key.2) tt

  put-keeps : (set : DataSet) (key rest : List Value) → IsSetOf components set → IsPointOf components key rest → IsSetOf components (insert set key rest)
  put-keeps set key rest h point q = subst (λ (found : Option (List Value)). IfSome found (IsPointOf components q)) (sym (get-insert key_cmp-IsTotalOrder set key rest q)) (elim (cases_Bool (eq_by_cmp key_cmp q key)) [
    | inl yes' ↦ rw yes' (subst (λ k. IsPointOf components k rest) (sym (tied key_cmp-IsTotalOrder key_cmp-IsAntisymmetric q key yes')) point)
    | inr no' ↦ rw no' (h q)
  ])

  remove-keeps : (set : DataSet) (key : List Value) → IsSetOf components set → IsSetOf components (remove set key)
  remove-keeps set key h q = subst (λ (found : Option (List Value)). IfSome found (IsPointOf components q)) (sym (get-remove key_cmp-IsTotalOrder set key q)) (elim (cases_Bool (eq_by_cmp key_cmp q key)) [
    | inl yes' ↦ rw yes' tt
    | inr no' ↦ rw no' (h q)
  ])

  fewer : (set : DataSet) (key : List Value) → len set ≤ POINT_LIMIT → len (remove set key) ≤ POINT_LIMIT
  fewer set key h = rw (len-remove key_cmp-IsTotalOrder set key) (elim (is_some (get set key)) as (λ b. cond b (len set - 1) (len set) ≤ POINT_LIMIT) [ true ↦ omega (arith, h) | false ↦ h ])

  -- a test of a row that went well, and what stands after it
  tested : (listed passed : Bool) (why : Cause) (next q : Progress) → (passed ≡ true → Keeps components next.set) → cond listed (let r : Result Progress Cause = Err KeyTwice in r) (cond passed (Ok next) (Err why)) ≡ Ok q → Keeps components q.set
  tested true passed why next q keeps e = let bad : true ≡ false = ap is_err e in cc
  tested false true why next q keeps e = subst (λ (p : Progress). Keeps components p.set) (ap (λ (r : Result Progress Cause). result_unwrap_or r next) e) (keeps refl)
  tested false false why next q keeps e = let bad : true ≡ false = ap is_err e in cc

  granted-keeps : (p q : Progress) (ask : Ask) → Keeps components p.set → AskFits ask → granted p ask ≡ Ok q → Keeps components q.set
  granted-keeps p q (Put key rest) h point e =
      let next = insert p.set key rest in
      tested (is_listed key_cmp p.keys key) (nat_le (len next) POINT_LIMIT) SetFull (grown p key next) q (λ (few : nat_le (len next) POINT_LIMIT ≡ true). (put-keeps p.set key rest h.0 point, grind (arith, nat_tests, few))) e
  granted-keeps p q (Remove key) h point e =
      tested (is_listed key_cmp p.keys key) (is_some (get p.set key)) NoSuchPoint (grown p key (remove p.set key)) q (λ some. (remove-keeps p.set key h.0, fewer p.set key h.1)) e

  row-keeps : (p q : Progress) (row : RawRow) → Keeps components p.set → row_judged components p row ≡ Ok q → Keeps components q.set
  row-keeps p q row h e =
      let parts = both-well (asked components row) (granted p) q e in
      granted-keeps p q parts.0 h (asked-fits row.action row.fields parts.0 parts.1) parts.2

  -- ---- all rows

  abbrev each : ℕ → Result Progress Refusal → RawRow → Result Progress Refusal
  each part so_far row = so_far >>= (λ p. or_refused (refused_at components part p row) (row_judged components p row))

  -- what has stopped stays so
  stuck : (part : ℕ) (rows : List RawRow) (refusal : Refusal) (q : Progress) → fold (each part) (Err refusal) rows ≡ Ok q → ⊥
  stuck part [] refusal q e = let bad : true ≡ false = ap is_err e in cc
  stuck part (row ∷ rows) refusal q e = stuck part rows refusal q e

  step-keeps : (part : ℕ) (rows : List RawRow) (p : Progress) (row : RawRow) (q : Progress) → Keeps components p.set → ((t : Progress) → Keeps components t.set → fold (each part) (Ok t) rows ≡ Ok q → Keeps components q.set) → (r : Result Progress Cause) → row_judged components p row ≡ r → fold (each part) (or_refused (refused_at components part p row) r) rows ≡ Ok q → Keeps components q.set
  step-keeps part rows p row q h later (Ok t) is e = later t (row-keeps p t row h is) e
  step-keeps part rows p row q h later (Err cause) is e = absurd (stuck part rows (refused_at components part p row cause) q e)

  -- what the rows of a part leave
  pub rows-keep : (part : ℕ) (rows : List RawRow) (p q : Progress) → Keeps components p.set → rows_judged components part p rows ≡ Ok q → Keeps components q.set
  rows-keep part [] p q h e = subst (λ (t : Progress). Keeps components t.set) (ap (λ (r : Result Progress Refusal). result_unwrap_or r p) e) h
  rows-keep part (row ∷ rows) p q h e = step-keeps part rows p row q h (λ t k s. rows-keep part rows t q k s) (row_judged components p row) refl e
