-- The first number that is on a cycle.
use Rattle.std.proofs.Common.{◌≡◌, ◌≢◌, ◌⊎◌, inl, inr, ℕ, zero, suc, ◌+◌, ◌≤◌, ◌<◌, ◌==◌, List, [], ◌∷◌, Option, Some, None, length, refl, sym, ap, ◌∙◌, subst, arith}
use Rattle.std.specs.Prelude.{Ok, Err, Result, IfOk, IfSome, IfNone}
use Rattle.std.specs.declared.alloc.AllocError.{AllocError}
use Rattle.std.proofs.lemmas.Bool.{eqb-true, eq-eqb}
use Rattle.shortest_cycles.specs.Firsts.{or_else, first_some}
use Rattle.shortest_cycles.specs.Paths.{Graph, IsWay, IsOnNone, IsFirstCycle, HasNoCycle}
use Rattle.shortest_cycles.specs.Cycles.{count_from, cycle_of, first_cycle}
use Rattle.shortest_cycles.proofs.CycleLemmas.{tells, apart, finds_shortest}
use Rattle.shortest_cycles.proofs.CyclesFound.{starts_within, finds_cycles}

-- where it is found, and not before
pub record IsFoundAt (f : ℕ → Option (List ℕ)) (a i : ℕ) (c : List ℕ) : Type 0 where
  pub here : f i ≡ Some c
  pub none_before : (j : ℕ) → a ≤ j → j < i → f j ≡ None

found_later : (f : ℕ → Option (List ℕ)) (a i : ℕ) (c : List ℕ) → f a ≡ None → IsFoundAt f (suc a) i c → IsFoundAt f a i c
found_later f a i c none r = record {
  here = r.here;
  none_before = λ j low high. elim (tells (a == j)) [
    | inl same ↦ ap f (sym (eqb-true a j same)) ∙ none
    | inr other ↦ r.none_before j (let differ : a ≢ j = λ e. apart (a == j) (eq-eqb a j e) other in omega arith) high
  ];
}

found_now : (f : ℕ → Option (List ℕ)) (a : ℕ) (c : List ℕ) → f a ≡ Some c → IsFoundAt f a a c
found_now f a c here = record { here = here; none_before = λ j low high. absurd (omega arith) }

found_step : (f : ℕ → Option (List ℕ)) (a : ℕ) (c : List ℕ) (rest o : Option (List ℕ)) → f a ≡ o → or_else o rest ≡ Some c → (rest ≡ Some c → (i : ℕ) × IsFoundAt f (suc a) i c) → (i : ℕ) × IsFoundAt f a i c
found_step f a c rest None is e later = let r = later e in (r.0, found_later f a r.0 c is r.1)
found_step f a c rest (Some b) is e later = (a, found_now f a c (is ∙ e))

found_at : (f : ℕ → Option (List ℕ)) (a m : ℕ) (c : List ℕ) → first_some f (count_from a m) ≡ Some c → (i : ℕ) × IsFoundAt f a i c
found_at f a zero c e = absurd (cc e)
found_at f a (suc m) c e = found_step f a c (first_some f (count_from (suc a) m)) (f a) refl e (λ later. found_at f (suc a) m c later)

none_step : (o rest : Option (List ℕ)) → or_else o rest ≡ None → (o ≡ None) × (rest ≡ None)
none_step None rest e = (refl, e)
none_step (Some b) rest e = absurd (cc e)

none_found : (f : ℕ → Option (List ℕ)) (a m : ℕ) → first_some f (count_from a m) ≡ None → (j : ℕ) → a ≤ j → j < a + m → f j ≡ None
none_found f a zero e j low high = absurd (omega arith)
none_found f a (suc m) e j low high =
    let r = none_step (f a) (first_some f (count_from (suc a) m)) e in
    elim (tells (a == j)) [
      | inl same ↦ ap f (sym (eqb-true a j same)) ∙ r.0
      | inr other ↦ none_found f (suc a) m r.1 j (let differ : a ≢ j = λ e. apart (a == j) (eq-eqb a j e) other in omega arith) (omega arith)
    ]

on_none : (g : Graph) (j : ℕ) → cycle_of g j ≡ None → IsOnNone g j
on_none g j none ks way = finds_cycles g j ks way none

pub finds_first : (g : Graph) (c : List ℕ) → first_cycle g ≡ Some c → IsFirstCycle g c
finds_first g c e =
    let f = found_at (cycle_of g) 0 (length g) c e in
    let s = finds_shortest g f.0 c f.1.here in
    record { start = f.0; by = s.0; is = s.1; shortest = s.2; none_before = λ j less. on_none g j (f.1.none_before j (omega arith) less) }

pub finds_none : (g : Graph) → first_cycle g ≡ None → HasNoCycle g
finds_none g e i ks way =
    let within : i < length g = starts_within g i ks i way in
    let few : i < 0 + length g = omega arith in
    on_none g i (none_found (cycle_of g) 0 (length g) e i (omega arith) few) ks way

first_on : (g : Graph) (o : Option (List ℕ)) → first_cycle g ≡ o → HasNoCycle g → o ≡ None
first_on g None is none = refl
first_on g (Some c) is none = let f = finds_first g c is in absurd (none f.start f.by f.shortest.cycle)

pub none_first : (g : Graph) → HasNoCycle g → first_cycle g ≡ None
none_first g none = first_on g (first_cycle g) refl none

if_first : (g : Graph) (o : Option (List ℕ)) → o ≡ first_cycle g → IfSome o (IsFirstCycle g)
if_first g None e = tt
if_first g (Some c) e = finds_first g c (sym e)

if_none : (g : Graph) (o : Option (List ℕ)) → o ≡ first_cycle g → IfNone o (HasNoCycle g)
if_none g None e = finds_none g (sym e)
if_none g (Some c) e = tt

-- what is answered is a first cycle, or there is none

pub answers_first : (g : Graph) (r : Result (Option (List ℕ)) AllocError) → IfOk r (λ c. c ≡ first_cycle g) → IfOk r (λ c. IfSome c (IsFirstCycle g))
answers_first g (Ok o) e = if_first g o e
answers_first g (Err f) e = tt

pub answers_none : (g : Graph) (r : Result (Option (List ℕ)) AllocError) → IfOk r (λ c. c ≡ first_cycle g) → IfOk r (λ c. IfNone c (HasNoCycle g))
answers_none g (Ok o) e = if_none g o e
answers_none g (Err f) e = tt
