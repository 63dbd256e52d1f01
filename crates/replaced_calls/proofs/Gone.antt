-- No call is left where all are of operators and no operator reaches its own call.
use Rattle.std.proofs.Common.{◌≡◌, ℕ, zero, suc, ◌<◌, Bool, true, false, ◌&&◌, if◌then◌else◌, cond, List, [], ◌∷◌, Option, Some, None, map, length, refl, sym, ap, ◌∙◌, subst, arith}
use Rattle.std.specs.Prelude.{find, slice_get}
use Rattle.std.specs.Option.{option_map}
use Rattle.std.proofs.lemmas.Option.{slice_get_within}
use Rattle.vtl_values.specs.declared.place.Place.{Place}
use Rattle.vtl_syntax.specs.declared.expr.Expr.{Expr}
use Rattle.vtl_syntax.specs.declared.operator.DefinedOperator.{DefinedOperator}
use Rattle.operator_faults.specs.declared.calls.CallFault.TheVariants.{Unknown}
use Rattle.operator_faults.specs.declared.outline.CallSite.{CallSite}
use Rattle.operator_faults.specs.Calls.{operator_of, sites, is_wrong, is_wrong_for}
use Rattle.shortest_cycles.specs.Paths.{targets_of}
use Rattle.operator_faults.specs.Outlines.{outlined}
use Rattle.operator_faults.specs.Recursions.{put_sites}
use Rattle.shortest_cycles.proofs.CycleLemmas.{apart}
use Rattle.tree_copies.specs.Made.{Names, Calls, made, same_name}
use Rattle.tree_copies.proofs.Fused.{fused}
use Rattle.replaced_calls.specs.Replacing.{bound, opened, sorted}
use Rattle.replaced_calls.specs.Scripts.{sorted_operator, sorted_operators}
use Rattle.replaced_calls.specs.Laws.{graph, AllKnown, NoneLeft}
use Rattle.shortest_cycles.proofs.Lines.{lines_end}
use Rattle.shortest_cycles.proofs.FirstCycles.{finds_none}
use Rattle.replaced_calls.proofs.Only.{AllSites, HasOnly, has_only, left_out, leaves_out, only_made, only-made}
use Rattle.replaced_calls.proofs.Sorted.{sorted_has_only}
use Rattle.replaced_calls.proofs.Written.{opened_by, makes-name, bound-map}
use Rattle.replaced_calls.proofs.Enough.{NoLine, called, called-is, called_number, sites_called, found_number, sorted-found, graph-length}

-- ---- all calls are of operators

abbrev is_found : Option DefinedOperator → Bool
is_found None = false
is_found (Some o) = true

abbrev known : List DefinedOperator → List ℕ → Bool
known os w = is_found (operator_of os w)

first_known : (s : CallSite) (o : Option DefinedOperator) (rest : Option CallSite) → cond (is_wrong_for Unknown s o) (Some s) rest ≡ None → (is_found o ≡ true) × (rest ≡ None)
first_known s None rest h = absurd (cc h)
first_known s (Some o) rest h = (refl, h)

sites_known : (os : List DefinedOperator) (ss : List CallSite) → find (is_wrong Unknown os) ss ≡ None → AllSites (known os) ss
sites_known os [] h = tt
sites_known os (s ∷ ss) h = let r = first_known s (operator_of os s.name) (find (is_wrong Unknown os) ss) h in (r.0, sites_known os ss r.1)

found_or : (os : List DefinedOperator) (w : List ℕ) (o : Option DefinedOperator) → operator_of os w ≡ o → is_found o ≡ true → (x : DefinedOperator) × (operator_of os w ≡ Some x)
found_or os w None is h = apart false h refl
found_or os w (Some x) is h = (x, is)

and-intro : (a b : Bool) → a ≡ true → b ≡ true → (a && b) ≡ true
and-intro true b x y = y
and-intro false b x y = apart false x refl

and-parts : (a b : Bool) → (a && b) ≡ true → (a ≡ true) × (b ≡ true)
and-parts true b h = (refl, h)
and-parts false b h = apart false h refl

sites_both : (c d : List ℕ → Bool) (ss : List CallSite) → AllSites c ss → AllSites d ss → AllSites (λ w. c w && d w) ss
sites_both c d [] x y = tt
sites_both c d (s ∷ ss) x y = (and-intro (c s.name) (d s.name) x.0 y.0, sites_both c d ss x.1 y.1)

-- ---- what is left of a tree that has only such calls

picked : (c : List ℕ → Bool) (call : Calls) (name name' : Names) (open' : Calls)
    → ((w : List ℕ) (as' : List Expr) (p : Place) → c w ≡ true → made same_name call (open' w as' p) ≡ open' w (map (made same_name call) as') p)
    → (w : List ℕ) (as' : List Expr) (p : Place) (b : Bool) → c w ≡ b
    → made same_name call (if b then open' w as' p else made name open' (left_out p)) ≡ (if b then open' w (map (made same_name call) as') p else made name' open' (left_out p))
picked c call name name' open' gone w as' p true h = gone w as' p h
picked c call name name' open' gone w as' p false h = ap (made same_name call) (leaves_out name open' p) ∙ leaves_out same_name call p ∙ sym (leaves_out name' open' p)

-- where what such calls become has none left, what is written has none
only_gone : (c : List ℕ → Bool) (call : Calls) (name name' : Names) (open' : Calls)
    → ((w : List ℕ) (p : Place) → made same_name call (name w p) ≡ name' w p)
    → ((w : List ℕ) (as' : List Expr) (p : Place) → c w ≡ true → made same_name call (open' w as' p) ≡ open' w (map (made same_name call) as') p)
    → (e : Expr) → HasOnly c e → made same_name call (made name open' e) ≡ made name' open' e
only_gone c call name name' open' names gone e h =
    ap (made same_name call) (only-made c name open' e h)
    ∙ fused same_name name name' call (only_made c name open') (only_made c name' open') names (λ w as' p. picked c call name name' open' gone w as' p (c w) refl) e
    ∙ sym (only-made c name' open' e h)

-- ---- no call is left of one from which no line of so many calls comes

abbrev BodiesKnown : List DefinedOperator → Type 0
BodiesKnown os = (w : List ℕ) (o : DefinedOperator) → operator_of os w ≡ Some o → AllKnown os o.body

body_only : (os : List DefinedOperator) (i : ℕ) (o : DefinedOperator) → slice_get os i ≡ Some o → AllKnown os o.body → HasOnly (λ w. called os (targets_of (graph os) i) w && known os w) (sorted os o.body)
body_only os i o at all =
    let ns = put_sites os [] (sites (outlined o.body)) in
    subst (λ (ks : List ℕ). HasOnly (λ w. called os ks w && known os w) (sorted os o.body)) (sym (called-is os i o at))
    (sorted_has_only (λ w. called os ns w && known os w) os o.body (has_only (λ w. called os ns w && known os w) o.body
    (sites_both (called os ns) (known os) (sites (outlined o.body)) (sites_called os (sites (outlined o.body)) []) (sites_known os (sites (outlined o.body)) all))))

calls_gone : (os : List DefinedOperator) → BodiesKnown os → (call : Calls) (n : ℕ) (w : List ℕ) (as' : List Expr) (p : Place) → NoLine os n w → known os w ≡ true
    → made same_name call (opened (sorted_operators os) n w as' p) ≡ opened (sorted_operators os) n w (map (made same_name call) as') p
calls_gone os bodies call zero w as' p ends is_known =
    let x = found_or os w (operator_of os w) refl is_known in
    let f = found_number os w x.0 x.1 in
    let within : f.number < length os = slice_get_within os f.number x.0 f.at in
    absurd (ends f.number [] f.is refl (subst (λ (m : ℕ). f.number < m) (sym (graph-length os)) within))
calls_gone os bodies call (suc n) w as' p ends is_known =
    let qs = sorted_operators os in
    let x = found_or os w (operator_of os w) refl is_known in
    let o = x.0 in
    let f = found_number os w o x.1 in
    let is : operator_of qs w ≡ Some (sorted_operator os o) = sorted-found os os w ∙ ap (option_map (sorted_operator os)) x.1 in
    let ns = targets_of (graph os) f.number in
    ap (λ (r : Option DefinedOperator). made same_name call (opened_by qs n w as' p r)) is
    ∙ only_gone (λ v. called os ns v && known os v) call (bound o.params as') (bound o.params (map (made same_name call) as')) (opened qs n)
    (λ v q. bound-map (made same_name call) o.params as' v q (makes-name same_name call v q))
    (λ v bs q h.
    let r = and-parts (called os ns v) (known os v) h in
    calls_gone os bodies call n v bs q (λ k ks num long line.
    let longer : length (k ∷ ks) ≡ suc n = omega (arith, long) in
    ends f.number (k ∷ ks) f.is longer (called_number os ns v k num r.0, line)) r.1)
    (sorted os o.body) (body_only os f.number o f.at (bodies w o x.1))
    ∙ sym (ap (opened_by qs n w (map (made same_name call) as') p) is)

pub none_left : NoneLeft
none_left os none bodies e all call =
    only_gone (known os) call same_name same_name (opened (sorted_operators os) (length os)) (makes-name same_name call)
    (λ w as' p h. calls_gone os bodies call (length os) w as' p (λ i ks num long line. lines_end (graph os) (finds_none (graph os) none) i ks line (long ∙ sym (graph-length os))) h)
    (sorted os e) (sorted_has_only (known os) os e (has_only (known os) e (sites_known os (sites (outlined e)) all)))
