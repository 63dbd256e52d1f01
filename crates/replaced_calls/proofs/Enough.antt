-- Where no operator reaches its own call, no more calls stand inside each other than there are operators.
use Rattle.std.proofs.Common.{◌≡◌, inl, inr, ℕ, zero, suc, ◌<◌, Bool, true, false, ◌||◌, ◌==◌, if◌then◌else◌, cond, List, [], ◌∷◌, ◌++◌, Option, Some, None, map, length, refl, sym, ap, ◌∙◌, subst, arith}
use Rattle.std.specs.Prelude.{slice_get, unwrap_or}
use Rattle.std.specs.List.{position_or_len}
use Rattle.std.specs.Option.{option_map}
use Rattle.std.proofs.lemmas.Bool.{lt-ltb}
use Rattle.std.proofs.lemmas.List.{length-map}
use Rattle.std.proofs.lemmas.List.Folds.{find_at}
use Rattle.std.proofs.lemmas.Option.{slice_get-map, slice_get_within}
use Rattle.vtl_values.specs.declared.place.Place.{Place}
use Rattle.vtl_syntax.specs.declared.expr.Expr.{Expr}
use Rattle.vtl_syntax.specs.declared.operator.DefinedOperator.{DefinedOperator}
use Rattle.operator_faults.specs.declared.outline.CallSite.{CallSite}
use Rattle.operator_faults.specs.declared.outline.Outline.{Outline}
use Rattle.operator_faults.specs.Names.{same_word}
use Rattle.operator_faults.specs.Calls.{operator_of, sites}
use Rattle.shortest_cycles.specs.Paths.{contains, targets_of}
use Rattle.operator_faults.specs.Outlines.{outlined}
use Rattle.operator_faults.specs.Recursions.{number_of, put_site, put_sites}
use Rattle.shortest_cycles.specs.Paths.{put_once}
use Rattle.operator_faults.specs.Sketches.{of_operator}
use Rattle.shortest_cycles.proofs.CycleLemmas.{tells, apart, contains-here, contains-later}
use Rattle.replaced_calls.specs.Replacing.{bound, opened, sorted}
use Rattle.replaced_calls.specs.Scripts.{sorted_operator, sorted_operators}
use Rattle.replaced_calls.specs.Laws.{graph, OperatorsEnd}
use Rattle.shortest_cycles.proofs.Lines.{IsLine, lines_end}
use Rattle.shortest_cycles.proofs.FirstCycles.{finds_none}
use Rattle.replaced_calls.proofs.Only.{AllSites, HasOnly, has_only, alike_only}
use Rattle.replaced_calls.proofs.Sorted.{sorted_has_only}
use Rattle.replaced_calls.proofs.Written.{opened_by, opened-none}

-- ---- numbers that are put to a list

contains-front : (xs ys : List ℕ) (k : ℕ) → contains xs k ≡ true → contains (xs ++ ys) k ≡ true
contains-front [] ys k h = apart false h refl
contains-front (x ∷ xs) ys k h = elim (tells (x == k)) [
  | inl same ↦ ap (λ (b : Bool). b || contains (xs ++ ys) k) same
  | inr other ↦ ap (λ (b : Bool). b || contains (xs ++ ys) k) other ∙ contains-front xs ys k (sym (ap (λ (b : Bool). b || contains xs k) other) ∙ h)
]

contains-end : (xs : List ℕ) (k : ℕ) → contains (xs ++ k ∷ []) k ≡ true
contains-end [] k = contains-here k []
contains-end (x ∷ xs) k = contains-later x (xs ++ k ∷ []) k (contains-end xs k)

keeps_once : (b : Bool) (ns : List ℕ) (n k : ℕ) → contains ns k ≡ true → contains (if b then ns else ns ++ n ∷ []) k ≡ true
keeps_once true ns n k h = h
keeps_once false ns n k h = contains-front ns (n ∷ []) k h

has_once : (b : Bool) (ns : List ℕ) (n : ℕ) → contains ns n ≡ b → contains (if b then ns else ns ++ n ∷ []) n ≡ true
has_once true ns n h = h
has_once false ns n h = contains-end ns n

abbrev put_found : List ℕ → Option ℕ → List ℕ
put_found ns None = ns
put_found ns (Some n) = put_once ns n

keeps_found : (o : Option ℕ) (ns : List ℕ) (k : ℕ) → contains ns k ≡ true → contains (put_found ns o) k ≡ true
keeps_found None ns k h = h
keeps_found (Some n) ns k h = keeps_once (contains ns n) ns n k h

keeps_sites : (os : List DefinedOperator) (cs : List CallSite) (ns : List ℕ) (k : ℕ) → contains ns k ≡ true → contains (put_sites os ns cs) k ≡ true
keeps_sites os [] ns k h = h
keeps_sites os (c ∷ cs) ns k h = keeps_sites os cs (put_site os ns c) k (keeps_found (number_of os c.name) ns k h)

-- ---- each call in a body is of an operator that the body is said to call, or of none

abbrev pub is_called : List ℕ → Option ℕ → Bool
is_called ns None = true
is_called ns (Some k) = contains ns k

abbrev pub called : List DefinedOperator → List ℕ → List ℕ → Bool
called os ns w = is_called ns (number_of os w)

site_called : (o : Option ℕ) (ns ms : List ℕ) → ((k : ℕ) → contains (put_found ns o) k ≡ true → contains ms k ≡ true) → is_called ms o ≡ true
site_called None ns ms more = refl
site_called (Some k) ns ms more = more k (has_once (contains ns k) ns k refl)

pub sites_called : (os : List DefinedOperator) (cs : List CallSite) (ns : List ℕ) → AllSites (called os (put_sites os ns cs)) cs
sites_called os [] ns = tt
sites_called os (c ∷ cs) ns = (site_called (number_of os c.name) ns (put_sites os ns (c ∷ cs)) (λ k h. keeps_sites os cs (put_site os ns c) k h), sites_called os cs (put_site os ns c))

pub called-is : (os : List DefinedOperator) (i : ℕ) (o : DefinedOperator) → slice_get os i ≡ Some o → targets_of (graph os) i ≡ put_sites os [] (sites (outlined o.body))
called-is os i o at =
    let numbers : Outline → List ℕ = λ b. put_sites os [] (sites b) in
    ap (λ (r : Option (List ℕ)). unwrap_or r []) (slice_get-map numbers (map of_operator os) i ∙ ap (option_map numbers) (slice_get-map of_operator os i ∙ ap (option_map of_operator) at))

body_called : (os : List DefinedOperator) (i : ℕ) (o : DefinedOperator) → slice_get os i ≡ Some o → HasOnly (called os (targets_of (graph os) i)) (sorted os o.body)
body_called os i o at =
    let ns = put_sites os [] (sites (outlined o.body)) in
    subst (λ (ks : List ℕ). HasOnly (called os ks) (sorted os o.body)) (sym (called-is os i o at))
    (sorted_has_only (called os ns) os o.body (has_only (called os ns) o.body (sites_called os (sites (outlined o.body)) [])))

-- ---- the number of an operator that is found

pub record Found (os : List DefinedOperator) (w : List ℕ) (o : DefinedOperator) : Type 0 where
  pub number : ℕ
  pub at : slice_get os number ≡ Some o
  pub is : number_of os w ≡ Some number

pub found_number : (os : List DefinedOperator) (w : List ℕ) (o : DefinedOperator) → operator_of os w ≡ Some o → Found os w o
found_number os w o found =
    let p : DefinedOperator → Bool = λ (x : DefinedOperator). same_word x.name w in
    let n = position_or_len p os in
    let at : slice_get os n ≡ Some o = sym (find_at p os) ∙ found in
    record { number = n; at = at; is = ap (λ (b : Bool). cond b (Some n) None) (lt-ltb n (length os) (slice_get_within os n o at)) }

pub sorted-found : (os qs : List DefinedOperator) (w : List ℕ) → operator_of (map (sorted_operator os) qs) w ≡ option_map (sorted_operator os) (operator_of qs w)
sorted-found os [] w = refl
sorted-found os (q ∷ qs) w = elim (tells (same_word q.name w)) [
  | inl same ↦ ap (λ (b : Bool). cond b (Some (sorted_operator os q)) (operator_of (map (sorted_operator os) qs) w)) same ∙ sym (ap (λ (b : Bool). option_map (sorted_operator os) (cond b (Some q) (operator_of qs w))) same)
  | inr other ↦ ap (λ (b : Bool). cond b (Some (sorted_operator os q)) (operator_of (map (sorted_operator os) qs) w)) other ∙ sorted-found os qs w ∙ sym (ap (λ (b : Bool). option_map (sorted_operator os) (cond b (Some q) (operator_of qs w))) other)
]

-- ---- where no line of calls is so long

-- no line of so many calls comes from an operator of that name
abbrev pub NoLine : List DefinedOperator → ℕ → List ℕ → Type 0
NoLine os n w = (i : ℕ) (ks : List ℕ) → number_of os w ≡ Some i → length ks ≡ n → IsLine (graph os) i ks → ⊥

pub graph-length : (os : List DefinedOperator) → length (graph os) ≡ length os
graph-length os = length-map (map of_operator os) (λ o. put_sites os [] (sites o)) ∙ length-map os of_operator

level_none : (os : List DefinedOperator) (n : ℕ) (w : List ℕ) (as' : List Expr) (p : Place) → operator_of os w ≡ None → opened os (suc n) w as' p ≡ opened os n w as' p
level_none os n w as' p none = opened-none os (suc n) w as' p none ∙ sym (opened-none os n w as' p none)

pub by_found : (os : List DefinedOperator) (w : List ℕ) (T : Type 0) → (o : Option DefinedOperator) → operator_of os w ≡ o → (operator_of os w ≡ None → T) → ((x : DefinedOperator) → operator_of os w ≡ Some x → T) → T
by_found os w T None is none some = none is
by_found os w T (Some x) is none some = some x is

pub called_number : (os : List DefinedOperator) (ns : List ℕ) (w : List ℕ) (k : ℕ) → number_of os w ≡ Some k → called os ns w ≡ true → contains ns k ≡ true
called_number os ns w k is h = sym (ap (is_called ns) is) ∙ h

levels : (os : List DefinedOperator) (n : ℕ) (w : List ℕ) (as' : List Expr) (p : Place) → NoLine os n w → opened (sorted_operators os) (suc n) w as' p ≡ opened (sorted_operators os) n w as' p
levels os zero w as' p ends =
    let qs = sorted_operators os in
    by_found os w (opened qs (suc zero) w as' p ≡ opened qs zero w as' p) (operator_of os w) refl
    (λ none. level_none qs zero w as' p (sorted-found os os w ∙ ap (option_map (sorted_operator os)) none))
    (λ o found.
    let f = found_number os w o found in
    let within : f.number < length os = slice_get_within os f.number o f.at in
    absurd (ends f.number [] f.is refl (subst (λ (m : ℕ). f.number < m) (sym (graph-length os)) within)))
levels os (suc n) w as' p ends =
    let qs = sorted_operators os in
    by_found os w (opened qs (suc (suc n)) w as' p ≡ opened qs (suc n) w as' p) (operator_of os w) refl
    (λ none. level_none qs (suc n) w as' p (sorted-found os os w ∙ ap (option_map (sorted_operator os)) none))
    (λ o found.
    let f = found_number os w o found in
    let is : operator_of qs w ≡ Some (sorted_operator os o) = sorted-found os os w ∙ ap (option_map (sorted_operator os)) found in
    let ns = targets_of (graph os) f.number in
    ap (opened_by qs (suc n) w as' p) is
    ∙ alike_only (called os ns) (bound o.params as') (opened qs (suc n)) (opened qs n)
    (λ v bs q h. levels os n v bs q (λ k ks num long line.
    let longer : length (k ∷ ks) ≡ suc n = omega (arith, long) in
    ends f.number (k ∷ ks) f.is longer (called_number os ns v k num h, line)))
    (sorted os o.body) (body_called os f.number o f.at)
    ∙ sym (ap (opened_by qs n w as' p) is))

pub operators_end : OperatorsEnd
operators_end os none w as' p = levels os (length os) w as' p (λ i ks num long line. lines_end (graph os) (finds_none (graph os) none) i ks line (long ∙ sym (graph-length os)))
