-- The form of an operator among those of all.
use Rattle.std.proofs.Common.{◌≡◌, ℕ, zero, suc, ◌+◌, ◌<◌, Bool, true, false, cond, List, [], ◌∷◌, ◌++◌, Some, None, length, drop, take, get_or, map, refl, sym, ap, ◌∙◌, subst, add-one, arith}
use Rattle.std.proofs.Math.Path.{ap₂}
use Rattle.std.proofs.Math.Seq.{drop-nil, take-suc}
use Rattle.std.proofs.lemmas.List.{length-map, map-append}
use Rattle.std.proofs.lemmas.Option.{slice_get-map, slice_get_read}
use Rattle.std.specs.Prelude.{slice_get}
use Rattle.std.specs.Option.{option_map}
use Rattle.vtl_syntax.specs.declared.operator.DefinedOperator.{DefinedOperator}
use Rattle.operator_faults.specs.declared.outline.Outline.{Outline, out-Outline, fold_out-Outline}
use Rattle.operator_faults.specs.declared.outline.CallSite.{CallSite}
use Rattle.operator_faults.specs.declared.outline.What.{What}
use Rattle.operator_faults.specs.declared.outline.What.TheVariants as what
use Rattle.operator_faults.specs.Names.{same_word}
use Rattle.operator_faults.specs.Outlines.{outlined}
use Rattle.operator_faults.specs.Sketches.{of_operator}
use Rattle.written_sizes.specs.declared.measure.Measure.{Measure}
use Rattle.written_sizes.specs.declared.form.Form.{Form}
use Rattle.written_sizes.specs.declared.form.Share.{Share}
use Rattle.written_sizes.specs.Arithmetic.{Arithmetic}
use Rattle.written_sizes.specs.Weights.{node, node_weight, form_of, weight, weight_by, weigh_step, unit_of, name_weight, call_weight}
use Rattle.vtl_syntax.specs.declared.operator.Param.{Param}

pub no_form : (os : List DefinedOperator) (w : List ℕ) → form_of os [] w ≡ None
no_form [] w = refl
no_form (o ∷ os) w = refl

-- the operator is that one
pub form-here : (o : DefinedOperator) (os : List DefinedOperator) (w : List ℕ) → same_word o.name w ≡ true → (fs : List Form) (i : ℕ) → form_of (o ∷ os) (drop i fs) w ≡ slice_get fs i
form-here o os w same [] i = ap (λ (fs : List Form). form_of (o ∷ os) fs w) (drop-nil i)
form-here o os w same (f ∷ fs) zero = ap (λ (b : Bool). cond b (Some f) (form_of os fs w)) same
form-here o os w same (f ∷ fs) (suc i) = form-here o os w same fs i

later : (o : DefinedOperator) (os : List DefinedOperator) (w : List ℕ) → same_word o.name w ≡ false → (fs : List Form) (i : ℕ) → form_of (o ∷ os) (drop i fs) w ≡ form_of os (drop (suc i) fs) w
later o os w other [] i = ap (λ (fs : List Form). form_of (o ∷ os) fs w) (drop-nil i) ∙ sym (ap (λ (fs : List Form). form_of os fs w) (drop-nil (suc i)) ∙ no_form os w)
later o os w other (f ∷ fs) zero = ap (λ (b : Bool). cond b (Some f) (form_of os fs w)) other
later o os w other (f ∷ fs) (suc i) = later o os w other fs i

-- it is another one
pub form-later : (o : DefinedOperator) (os : List DefinedOperator) (w : List ℕ) → same_word o.name w ≡ false → (fs : List Form) (i : ℕ) → form_of (o ∷ os) (drop i fs) w ≡ form_of os (drop (i + 1) fs) w
form-later o os w other fs i = later o os w other fs i ∙ ap (λ (n : ℕ). form_of os (drop n fs) w) (sym (add-one i))

-- ---- one more form

absent : {A : Type 0} (xs : List A) (i : ℕ) → i < length xs → slice_get xs i ≡ None → ⊥
absent [] i within none = absurd (omega arith)
absent (x ∷ xs) zero within none = absurd (cc none)
absent (x ∷ xs) (suc i) within none = absent xs i (omega arith) none

pub next-form : (g : DefinedOperator → Outline → Form) (os : List DefinedOperator) (bodies : List Outline) (i : ℕ) (o : DefinedOperator) (b : Outline) (n n' : List Form) → i < length os → o ≡ get_or os i o
    → bodies ≡ map of_operator os → slice_get bodies i ≡ Some b → n ≡ map (λ (x : DefinedOperator). g x (outlined x.body)) (take i os) → n' ≡ n ++ g o b ∷ [] → n' ≡ map (λ (x : DefinedOperator). g x (outlined x.body)) (take (i + 1) os)
next-form g os bodies i o b n n' within here are at before put =
    let f : DefinedOperator → Form = λ (x : DefinedOperator). g x (outlined x.body) in
    let found : Some b ≡ Some (outlined o.body) = sym at ∙ ap (λ (bs : List Outline). slice_get bs i) are ∙ slice_get-map of_operator os i ∙ ap (option_map of_operator) (slice_get_read os (length os) i o refl within here) in
    let body : b ≡ outlined o.body = cc found in
    put
    ∙ ap₂ (λ (k : List Form) (x : Outline). k ++ g o x ∷ []) before body
    ∙ sym (ap (map f) (ap (λ (k : ℕ). take k os) (add-one i) ∙ take-suc os i o within ∙ ap (λ (x : DefinedOperator). take i os ++ x ∷ []) (sym here)) ∙ map-append f (take i os) (o ∷ []))

pub body-there : (os : List DefinedOperator) (bodies : List Outline) (i : ℕ) → i < length os → bodies ≡ map of_operator os → slice_get bodies i ≡ None → ⊥
body-there os bodies i within are none =
    let fits : i < length bodies = subst (λ (k : ℕ). i < k) (sym (ap length are ∙ length-map os of_operator)) within in
    absent bodies i fits none

-- what an outline weighs, from the weights of its parts
pub weight-is : (r : Arithmetic) (m : Measure) (os : List DefinedOperator) (fs : List Form) (ps : List Param) (s : Share) (o : Outline)
    → weight r m os fs ps s o ≡ weight_by r m (unit_of s) (name_weight ps s) (call_weight r m (unit_of s) os fs) (out-Outline o).what (map (weight r m os fs ps s) (out-Outline o).parts)
weight-is r m os fs ps s o = fold_out-Outline ℕ (weigh_step r m (unit_of s) (name_weight ps s) (call_weight r m (unit_of s) os fs)) o

-- one that is no name and no call
pub weight-node : (r : Arithmetic) (m : Measure) (os : List DefinedOperator) (fs : List Form) (ps : List Param) (s : Share) (o : Outline) (w : What) → (out-Outline o).what ≡ w
    → ((ns : List ℕ) → weight_by r m (unit_of s) (name_weight ps s) (call_weight r m (unit_of s) os fs) w ns ≡ node r m (unit_of s) w ns)
    → node_weight r m os fs ps s o ≡ weight r m os fs ps s o
weight-node r m os fs ps s o w is same =
    let ns = map (weight r m os fs ps s) (out-Outline o).parts in
    ap (λ (v : What). node r m (unit_of s) v ns) is
    ∙ sym (weight-is r m os fs ps s o ∙ ap (λ (v : What). weight_by r m (unit_of s) (name_weight ps s) (call_weight r m (unit_of s) os fs) v ns) is ∙ same ns)

pub weight-call : (r : Arithmetic) (m : Measure) (os : List DefinedOperator) (fs : List Form) (ps : List Param) (s : Share) (o : Outline) (c : CallSite) (n : ℕ) (xs : List Outline) → (out-Outline o).what ≡ what.Call c → xs ≡ (out-Outline o).parts
    → n ≡ call_weight r m (unit_of s) os fs c.name (map (weight r m os fs ps s) xs) → n ≡ weight r m os fs ps s o
weight-call r m os fs ps s o c n xs is parts told =
    let w : Outline → ℕ = weight r m os fs ps s in
    let calls : List ℕ → List ℕ → ℕ = call_weight r m (unit_of s) os fs in
    told ∙ ap (λ (ys : List Outline). calls c.name (map w ys)) parts
    ∙ sym (weight-is r m os fs ps s o ∙ ap (λ (v : What). weight_by r m (unit_of s) (name_weight ps s) calls v (map w (out-Outline o).parts)) is)
