-- What is known of a script without faults.
use Rattle.std.proofs.Common.{◌≡◌, ◌⊎◌, inl, inr, ℕ, zero, suc, ◌+◌, ◌<◌, Bool, List, [], ◌∷◌, Option, Some, None, map, length, refl, sym, ap, ◌∙◌, subst, arith}
use Rattle.std.specs.Prelude.{◌↔◌, find, slice_get}
use Rattle.std.specs.Option.{option_map}
use Rattle.std.proofs.lemmas.Option.{slice_get_cases}
use Rattle.vtl_syntax.specs.declared.operator.DefinedOperator.{DefinedOperator}
use Rattle.vtl_syntax.specs.declared.script.Script.{Script}
use Rattle.operator_faults.specs.declared.calls.CallFault.TheVariants.{Unknown, Count, Sort}
use Rattle.operator_faults.specs.declared.fault.PlacedFault.{PlacedFault}
use Rattle.operator_faults.specs.declared.fault.OperatorFault.TheVariants as fault
use Rattle.operator_faults.specs.declared.outline.CallSite.{CallSite}
use Rattle.shortest_cycles.specs.Firsts.{or_else, first_some}
use Rattle.operator_faults.specs.Calls.{operator_of, sites, all_sites, is_wrong, earlier, first_call, told as told_call, wrong_in_script}
use Rattle.operator_faults.specs.Bodies.{free_in_bodies}
use Rattle.shortest_cycles.specs.Paths.{HasNoCycle}
use Rattle.shortest_cycles.specs.Cycles.{count_from, comes_to, between, cycle_of, first_cycle}
use Rattle.shortest_cycles.proofs.FirstCycles.{finds_none, none_first}
use Rattle.operator_faults.specs.Faults.{of_names, of_calls, first_fault}
use Rattle.operator_faults.specs.Recursions.{recursion, names_of, told_at}
use Rattle.operator_faults.specs.Sketches.{of_operator, sketch_of}
use Rattle.replaced_calls.specs.Laws.{graph, AllKnown}
use Rattle.replaced_calls.proofs.Enough.{found_number, graph-length}
use Rattle.replaced_calls.proofs.ScriptMaps.{none-both, Passes, passes-first, passes-rest}

map-none : {A B : Type 0} (f : A → B) (o : Option A) → option_map f o ≡ None → o ≡ None
map-none f None none = refl
map-none f (Some x) none = absurd (cc none)

-- ---- no operator reaches its own call

-- what is found stands at one of the numbers
or_found : {B : Type 0} (r q : Option B) (x : B) → or_else r q ≡ Some x → (r ≡ Some x) ⊎ (q ≡ Some x)
or_found None q x h = inr h
or_found (Some y) q x h = inl h

found_of : {B : Type 0} (f : ℕ → Option B) (a m : ℕ) (x : B) → first_some f (count_from a m) ≡ Some x → (n : ℕ) × (n < a + m) × (f n ≡ Some x)
found_of f a zero x found = absurd (cc found)
found_of f a (suc m) x found = elim (or_found (f a) (first_some f (count_from (suc a) m)) x found) [
  | inl here ↦ (a, omega arith, here)
  | inr later ↦ let r = found_of f (suc a) m x later in let within : r.0 < suc a + m = r.1 in (r.0, omega arith, r.2)
]

begins : (i : ℕ) (h : ℕ → List ℕ) (o : Option ℕ) (c : List ℕ) → option_map (λ (n : ℕ). i ∷ h n) o ≡ Some c → (ks : List ℕ) × (c ≡ i ∷ ks)
begins i h None c is = absurd (cc is)
begins i h (Some n) c is = (h n, cc)

recursion-at : (os : List DefinedOperator) (i : ℕ) (ks : List ℕ) → first_cycle (graph os) ≡ Some (i ∷ ks) → recursion os (map of_operator os) ≡ told_at os i (names_of os (i ∷ ks))
recursion-at os i ks is = rw is refl

-- a cycle that is found is told
is_told : (os : List DefinedOperator) (c : List ℕ) → first_cycle (graph os) ≡ Some c → recursion os (map of_operator os) ≡ None → ⊥
is_told os c found none =
    let g = graph os in
    let r = found_of (cycle_of g) 0 (length g) c found in
    let i = r.0 in
    let b = begins i (λ (n : ℕ). between g n i i) (find (λ (n : ℕ). comes_to g n i i) (count_from 0 (length g))) c r.2 in
    let long : length g ≡ length os = graph-length os in
    let within : i < 0 + length g = r.1 in
    elim (slice_get_cases os i).1 [
      | inl (o, _, is, _) ↦
          let names = names_of os (i ∷ b.0) in
          let some : told_at os i names ≡ Some (record { fault = fault.Recursion names; place = o.place }) = ap (option_map (λ (x : DefinedOperator). record { fault = fault.Recursion names; place = x.place })) is in
          let at : recursion os (map of_operator os) ≡ told_at os i names = recursion-at os i b.0 (found ∙ ap Some b.1) in
          cc (sym some ∙ sym at ∙ none)
      | inr (past, _) ↦ absurd (omega arith)
    ]

no_cycle : (os : List DefinedOperator) → recursion os (map of_operator os) ≡ None → (r : Option (List ℕ)) → first_cycle (graph os) ≡ r → r ≡ None
no_cycle os none None is = refl
no_cycle os none (Some c) is = absurd (is_told os c is none)

pub recursion_exact : (os : List DefinedOperator) → (recursion os (map of_operator os) ≡ None) ↔ HasNoCycle (graph os)
recursion_exact os = (
  λ none. finds_none (graph os) (no_cycle os none (first_cycle (graph os)) refl),
  λ none. rw (none_first (graph os) none) refl,
)

-- ---- each call is of an operator

earlier-none : (a b : Option CallSite) → earlier a b ≡ None → (a ≡ None) × (b ≡ None)
earlier-none None b none = (refl, none)
earlier-none (Some a) None none = absurd (cc none)
earlier-none (Some a) (Some b) none = absurd (cc none)

passes-at : (p : CallSite → Bool) (os : List DefinedOperator) (i : ℕ) (o : DefinedOperator) → slice_get os i ≡ Some o → Passes p (map of_operator os) → find p (sites (of_operator o)) ≡ None
passes-at p [] i o at h = absurd (cc at)
passes-at p (x ∷ os) zero o at h =
    let same : x ≡ o = cc at in
    subst (λ (y : DefinedOperator). find p (sites (of_operator y)) ≡ None) same (passes-first p (of_operator x) (map of_operator os) h)
passes-at p (x ∷ os) (suc i) o at h = passes-at p os i o at (passes-rest p (of_operator x) (map of_operator os) h)

-- ---- a script without faults

pub record IsFaultless (s : Script) : Type 0 where
  pub acyclic : first_cycle (graph s.operators) ≡ None
  pub bodies : (w : List ℕ) (o : DefinedOperator) → operator_of s.operators w ≡ Some o → AllKnown s.operators o.body
  pub statements : Passes (is_wrong Unknown s.operators) (sketch_of s).statements
  pub rulesets : Passes (is_wrong Unknown s.operators) (sketch_of s).rulesets

pub faultless : (s : Script) → first_fault s ≡ None → IsFaultless s
faultless s none =
    let os = s.operators in
    let k = sketch_of s in
    let wrong : CallSite → Bool = is_wrong Unknown os in
    let free = free_in_bodies k.bodies 0 os in
    let sorts = wrong_in_script Sort os k in
    let n0 = none-both (of_names os) (or_else (of_calls os k) (or_else free (or_else (recursion os k.bodies) sorts))) none in
    let n1 = none-both (of_calls os k) (or_else free (or_else (recursion os k.bodies) sorts)) n0.1 in
    let n2 = none-both free (or_else (recursion os k.bodies) sorts) n1.1 in
    let n3 = none-both (recursion os k.bodies) sorts n2.1 in
    let n4 = none-both (wrong_in_script Unknown os k) (wrong_in_script Count os k) n1.0 in
    let as_told : CallSite → PlacedFault = λ (c : CallSite). record { fault = told_call Unknown c.name; place = c.place } in
    let first : first_call Unknown os k ≡ None = map-none as_told (first_call Unknown os k) n4.0 in
    let e0 = earlier-none (earlier (find wrong (all_sites k.statements)) (find wrong (all_sites k.rulesets))) (find wrong (all_sites k.bodies)) first in
    let e1 = earlier-none (find wrong (all_sites k.statements)) (find wrong (all_sites k.rulesets)) e0.0 in
    record {
      acyclic = no_cycle os n3.0 (first_cycle (graph os)) refl;
      bodies = λ w o found. let f = found_number os w o found in passes-at wrong os f.number o f.at e0.1;
      statements = e1.0;
      rulesets = e1.1;
    }
