-- The cells of a row, gone through from the first on.
use Rattle.std.proofs.Common.{◌≡◌, ◌↔◌, ℕ, zero, suc, ◌+◌, ◌<◌, ◌≤◌, add-one, IsErrAnd, IfErr, List, [], ◌∷◌, ◌++◌, length, drop, map, get_or, Bool, true, false, Result, Ok, Err, cond, refl, sym, ap, ◌∙◌, subst, arith, append_assoc}
use Rattle.std.specs.Prelude.{slice_get}
use Rattle.std.specs.List.{filter}
use Rattle.std.specs.Result.{result_map_both}
use Rattle.std.proofs.lemmas.List.{drop_all}
use Rattle.vtl_values.specs.declared.read.BadText.{BadText}
use Rattle.vtl_values.specs.declared.read.ReadStop.{ReadStop}
use Rattle.vtl_values.specs.declared.read.ReadStop.TheVariants.{Bad, Memory as TextMemory}
use Rattle.vtl_values.specs.Texts.{value_of}
use Rattle.vtl_values.specs.declared.structure.Component.{Component}
use Rattle.vtl_values.specs.declared.value.Value.{Value}
use Rattle.point_sets.specs.declared.revision.RawField.{RawField}
use Rattle.revision_judge.specs.declared.cause.Cause.{Cause}
use Rattle.revision_judge.specs.declared.cause.Cause.TheVariants.{BadText as BadCause}
use Rattle.revision_judge.specs.declared.stop.RowStop.{RowStop}
use Rattle.revision_judge.specs.declared.stop.RowStop.TheVariants.{Refused, Memory}
use Rattle.revision_judge.specs.Fields.{Cell, cells, field_or_empty, text_in, fitting, value_in, values_in}
use Rattle.revision_judge.specs.Steps.{◌>>=◌}
use Rattle.revision_judge.specs.Stops.{Refuses, stop_of_text}

-- the values so far, and after them what is still to be read
abbrev pub behind : List Value → Result (List Value) Cause → Result (List Value) Cause
behind values rest = rest >>= (λ more. Ok (values ++ more))

module _ (p : Component → Bool) where
  -- the cells of the components that pass
  abbrev pub chosen : List Component → List RawField → List Cell
  chosen components fields = filter (λ cell. p cell.0) (cells components fields)

drop-nothing : {A : Type 0} (n : ℕ) → drop n (let none : List A = [] in none) ≡ []
drop-nothing zero = refl
drop-nothing (suc n) = refl

-- the cell with this number, and those after it
pub cells-next : (components : List Component) (fields : List RawField) (n : ℕ) (d : Component) → n < length components → cells (drop n components) (drop n fields) ≡ (get_or components n d, field_or_empty (slice_get fields n)) ∷ cells (drop (suc n) components) (drop (suc n) fields)
cells-next [] fields n d h = absurd (omega arith)
cells-next (c ∷ cs) [] zero d h = refl
cells-next (c ∷ cs) (f ∷ fs) zero d h = refl
cells-next (c ∷ cs) [] (suc n) d h = ap (λ (fs : List RawField). cells (drop n cs) fs) (sym (drop-nothing n)) ∙ cells-next cs [] n d (omega (arith, h))
cells-next (c ∷ cs) (f ∷ fs) (suc n) d h = cells-next cs fs n d (omega (arith, h))

module _ (p : Component → Bool) (components : List Component) (fields : List RawField) (n : ℕ) (c : Component) (within : n < length components) (at : c ≡ get_or components n c) where
  abbrev here : Cell
  here = (c, field_or_empty (slice_get fields n))

  cells-at : cells (drop n components) (drop n fields) ≡ here ∷ cells (drop (suc n) components) (drop (suc n) fields)
  cells-at = cells-next components fields n c within ∙ ap (λ (d : Component). (d, field_or_empty (slice_get fields n)) ∷ cells (drop (suc n) components) (drop (suc n) fields)) (sym at)

  chosen-at : chosen p (drop n components) (drop n fields) ≡ cond (p c) (here ∷ chosen p (drop (suc n) components) (drop (suc n) fields)) (chosen p (drop (suc n) components) (drop (suc n) fields))
  chosen-at = ap (filter (λ (d : Cell). p d.0)) cells-at

  -- a component that passes is the next one
  pub chosen-next : p c ≡ true → chosen p (drop n components) (drop n fields) ≡ here ∷ chosen p (drop (n + 1) components) (drop (n + 1) fields)
  chosen-next passes = rw (add-one n) (chosen-at ∙ ap (λ b. cond b (here ∷ chosen p (drop (suc n) components) (drop (suc n) fields)) (chosen p (drop (suc n) components) (drop (suc n) fields))) passes)

  -- and one that doesn't is passed over
  pub chosen-over : p c ≡ false → chosen p (drop n components) (drop n fields) ≡ chosen p (drop (n + 1) components) (drop (n + 1) fields)
  chosen-over fails = rw (add-one n) (chosen-at ∙ ap (λ b. cond b (here ∷ chosen p (drop (suc n) components) (drop (suc n) fields)) (chosen p (drop (suc n) components) (drop (suc n) fields))) fails)

-- at the end no cell is left
pub chosen-end : (p : Component → Bool) (components : List Component) (fields : List RawField) (n : ℕ) → length components ≤ n → chosen p (drop n components) fields ≡ []
chosen-end p components fields n h = rw (drop_all n components h) refl

-- ---- values

behind-value : (values : List Value) (v : Value) (rest : Result (List Value) Cause) → behind values (rest >>= (λ vs. Ok (v ∷ vs))) ≡ behind (values ++ v ∷ []) rest
behind-value values v (Ok more) = ap (λ (vs : List Value). let r : Result (List Value) Cause = Ok vs in r) (sym (append_assoc values (v ∷ []) more))
behind-value values v (Err cause) = refl

-- a value more is read
pub read-next : (r : Result (List Value) Cause) (values : List Value) (cell : Cell) (rest : List Cell) (v : Value) → r ≡ behind values (values_in (cell ∷ rest)) → value_in cell ≡ Ok v → r ≡ behind (values ++ v ∷ []) (values_in rest)
read-next r values cell rest v h is = h ∙ ap (λ (q : Result Value Cause). behind values (q >>= (λ w. values_in rest >>= (λ vs. Ok (w ∷ vs))))) is ∙ behind-value values v (values_in rest)

-- a cell that stops the reading
pub read-stops : (r : Result (List Value) Cause) (values : List Value) (cell : Cell) (rest : List Cell) (stop : RowStop) → r ≡ behind values (values_in (cell ∷ rest)) → Refuses (value_in cell) stop → Refuses r stop
read-stops r values cell rest (Refused cause) h is = h ∙ ap (λ (q : Result Value Cause). behind values (q >>= (λ w. values_in rest >>= (λ vs. Ok (w ∷ vs))))) is
read-stops r values cell rest Memory h is = tt

append-nothing : {A : Type 0} (xs : List A) → xs ++ [] ≡ xs
append-nothing [] = refl
append-nothing {A} (x ∷ xs) = ap (λ (t : List A). x ∷ t) (append-nothing xs)

-- all are read
pub read-all : (r : Result (List Value) Cause) (values : List Value) (rest : List Cell) → r ≡ behind values (values_in rest) → rest ≡ [] → r ≡ Ok values
read-all r values rest h none = h ∙ ap (λ (cs : List Cell). behind values (values_in cs)) none ∙ ap (λ (vs : List Value). let q : Result (List Value) Cause = Ok vs in q) (append-nothing values)

-- a text that isn't read
pub unread : (cell : Cell) (r : Result Value ReadStop) (stop : ReadStop) → ((fault : BadText) → (r ≡ Err (Bad fault)) ↔ (value_of cell.0.kind (text_in cell.1) ≡ Err fault)) → r ≡ Err stop → Refuses (value_in cell) (stop_of_text stop)
unread cell r (Bad fault) bad is = ap (λ (q : Result Value BadText). result_map_both (λ v. v) BadCause q >>= fitting cell.0) ((bad fault).0 is)
unread cell r TextMemory bad is = tt

-- a stop that is passed on
pub passed_on : {A B : Type 0} (meaning : Result A Cause) (answer : Result B RowStop) (stop : RowStop) → Refuses meaning stop → IsErrAnd answer (λ given. given ≡ stop) → IfErr answer (Refuses meaning)
passed_on meaning (Ok value) stop refuses given = tt
passed_on meaning (Err given) stop refuses is = subst (Refuses meaning) (sym is) refuses

-- a step that went well leaves its value to the next
pub goes_on : {A B E : Type 0} (r : Result A E) (next : A → Result B E) (value : A) → r ≡ Ok value → (r >>= next) ≡ next value
goes_on r next value is = ap (λ q. q >>= next) is

pub fails : {A B E : Type 0} (r : Result A E) (next : A → Result B E) (why : E) → r ≡ Err why → (r >>= next) ≡ Err why
fails r next why is = ap (λ q. q >>= next) is

-- the read text
pub read-text : (cell : Cell) (v : Value) → value_of cell.0.kind (text_in cell.1) ≡ Ok v → value_in cell ≡ fitting cell.0 v
read-text cell v is = ap (λ (q : Result Value BadText). result_map_both (λ w. w) BadCause q >>= fitting cell.0) is

-- a field more is written down
pub fields-next : (all key : List RawField) (cell : Cell) (rest : List Cell) → all ≡ key ++ map (λ (d : Cell). d.1) (cell ∷ rest) → all ≡ (key ++ cell.1 ∷ []) ++ map (λ (d : Cell). d.1) rest
fields-next all key cell rest h = h ∙ sym (append_assoc key (cell.1 ∷ []) (map (λ (d : Cell). d.1) rest))

pub fields-all : (all key : List RawField) (rest : List Cell) → all ≡ key ++ map (λ (d : Cell). d.1) rest → rest ≡ [] → key ≡ all
fields-all all key rest h none = sym (h ∙ ap (λ (cs : List Cell). key ++ map (λ (d : Cell). d.1) cs) none ∙ append-nothing key)
