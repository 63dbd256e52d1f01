-- The size of what a call becomes, from the forms of the operators.
use Rattle.std.proofs.Common.{◌≡◌, inl, inr, ℕ, zero, suc, Bool, List, [], ◌∷◌, Option, Some, None, map, length, refl, sym, ap, ◌∙◌, cond}
use Rattle.std.specs.Prelude.{unwrap_or}
use Rattle.std.specs.Option.{option_map}
use Rattle.vtl_values.specs.declared.place.Place.{Place}
use Rattle.vtl_syntax.specs.declared.operator.DefinedOperator.{DefinedOperator}
use Rattle.operator_faults.specs.declared.outline.Outline.{Outline}
use Rattle.operator_faults.specs.Names.{same_word}
use Rattle.operator_faults.specs.Calls.{operator_of}
use Rattle.operator_faults.specs.Outlines.{outlined}
use Rattle.shortest_cycles.proofs.CycleLemmas.{tells}
use Rattle.written_sizes.specs.declared.measure.Measure.{Measure}
use Rattle.written_sizes.specs.declared.form.Form.{Form}
use Rattle.written_sizes.specs.declared.form.Share.TheVariants as share
use Rattle.written_sizes.specs.Arithmetic.{exact}
use Rattle.written_sizes.specs.Replaced.{same_name, same_call, remade, sorted_from, bound, with_sorts, body_with, opened, replaced}
use Rattle.written_sizes.specs.Weights.{returned, applied, form_of, params_of, returns_of, call_weight, number_in, weight, form, forms}
use Rattle.written_sizes.proofs.Forms.{no_form}
use Rattle.written_sizes.proofs.Sizing.{size, each_one, value, size-name, size-call, size-returned, applied-sorted, size-bound, size-remade}
use Rattle.written_sizes.proofs.Shares.{shares_add}

pub form-found : (g : DefinedOperator → Form) (os : List DefinedOperator) (w : List ℕ) → form_of os (map g os) w ≡ option_map g (operator_of os w)
form-found g [] w = refl
form-found g (o ∷ os) w = elim (tells (same_word o.name w)) [
  | inl same ↦ ap (λ (b : Bool). cond b (Some (g o)) (form_of os (map g os) w)) same ∙ sym (ap (λ (b : Bool). option_map g (cond b (Some o) (operator_of os w))) same)
  | inr other ↦ ap (λ (b : Bool). cond b (Some (g o)) (form_of os (map g os) w)) other ∙ form-found g os w ∙ sym (ap (λ (b : Bool). option_map g (cond b (Some o) (operator_of os w))) other)
]

module _ (m : Measure) (os : List DefinedOperator) where
  abbrev call_by : Option DefinedOperator → Option Form → List ℕ → ℕ
  call_by o f vs = returned (exact m) m 1 (returns_of o) (applied (exact m) m 1 (params_of o) f vs)

  abbrev sizes : List Outline → List ℕ
  sizes parts = map (size m) parts

  stays_at : (o : Option DefinedOperator) (w : List ℕ) (parts : List Outline) (p : Place) → size m (unwrap_or (option_map (with_sorts same_call w parts p) o) (same_call w parts p)) ≡ call_by o None (sizes parts)
  stays_at None w parts p = size-call m w parts p
  stays_at (Some o) w parts p =
      let sorted = sorted_from o.params 0 parts in
      size-returned m o.returns (same_call w sorted p)
      ∙ ap (returned (exact m) m 1 o.returns) (size-call m w sorted p ∙ sym (applied-sorted m o.params None parts))

  abbrev form_at : ℕ → DefinedOperator → Form
  form_at n o = form (exact m) m os (forms (exact m) m os n) o.params (outlined o.body)

  opens_at : (n : ℕ) → ((v : List ℕ) (parts : List Outline) (p : Place) → size m (opened os n v parts p) ≡ call_weight (exact m) m 1 os (forms (exact m) m os n) v (sizes parts)) → (o : Option DefinedOperator) (w : List ℕ) (parts : List Outline) (p : Place)
      → size m (unwrap_or (option_map (λ (x : DefinedOperator). with_sorts (body_with (opened os n) x) w parts p x) o) (same_call w parts p)) ≡ call_by o (option_map (form_at n) o) (sizes parts)
  opens_at n inner None w parts p = size-call m w parts p
  opens_at n inner (Some o) w parts p =
      let sorted = sorted_from o.params 0 parts in
      let fs = forms (exact m) m os n in
      size-returned m o.returns (remade (bound o.params sorted) (opened os n) (outlined o.body))
      ∙ ap (returned (exact m) m 1 o.returns)
      (size-remade m (bound o.params sorted) (opened os n) (λ v. value m (sizes sorted) (number_in o.params v)) (call_weight (exact m) m 1 os fs)
      (size-bound m o.params sorted) inner (outlined o.body)
      ∙ shares_add m os fs o.params (outlined o.body) (sizes sorted)
      ∙ sym (applied-sorted m o.params (Some (form_at n o)) parts))

  pub opened_size : (n : ℕ) (w : List ℕ) (parts : List Outline) (p : Place) → size m (opened os n w parts p) ≡ call_weight (exact m) m 1 os (forms (exact m) m os n) w (sizes parts)
  opened_size zero w parts p = stays_at (operator_of os w) w parts p ∙ ap (λ (f : Option Form). call_by (operator_of os w) f (sizes parts)) (sym (no_form os w))
  opened_size (suc n) w parts p = opens_at n (λ v bs q. opened_size n v bs q) (operator_of os w) w parts p ∙ ap (λ (f : Option Form). call_by (operator_of os w) f (sizes parts)) (sym (form-found (form_at n) os w))

  pub replaced_size : (o : Outline) → size m (replaced os o) ≡ weight (exact m) m os (forms (exact m) m os (length os)) [] share.Own o
  replaced_size o = size-remade m same_name (opened os (length os)) each_one (call_weight (exact m) m 1 os (forms (exact m) m os (length os))) (size-name m) (opened_size (length os)) o
