-- What the parts of a script's graph say of the whole.
use Rattle.std.proofs.Common.{◌≡◌, ◌⊎◌, inl, inr, ℕ, ◌+◌, ◌<◌, ◌==◌, Bool, true, false, ◌||◌, List, [], ◌∷◌, ◌++◌, Option, Some, None, Result, Ok, Err, length, map, get_or, refl, sym, ap, ◌∙◌, subst, arith}
use Rattle.std.proofs.Math.Path.{ap₂}
use Rattle.std.specs.Prelude.{position, slice_get, unwrap_or}
use Rattle.std.specs.List.{list_any, flat_map}
use Rattle.std.specs.Option.{option_map, option_and_then, option_or, option_to_list}
use Rattle.std.proofs.lemmas.Bool.{eqb-true}
use Rattle.std.proofs.lemmas.List.{length-map}
use Rattle.std.proofs.lemmas.List.Folds.{list_any-append}
use Rattle.std.proofs.lemmas.List.Quantifiers.{position-Some}
use Rattle.std.proofs.lemmas.Option.{slice_get-map, slice_get-get_or}
use Rattle.vtl_values.specs.Structures.{NamedStructures}
use Rattle.vtl_syntax.specs.declared.script.Script.{Script}
use Rattle.vtl_syntax.specs.declared.script.Statement.{Statement}
use Rattle.shortest_cycles.specs.Paths.{Graph, contains, targets_of, LeadsTo, IsFirstCycle, HasNoCycle}
use Rattle.shortest_cycles.specs.Cycles.{first_cycle}
use Rattle.shortest_cycles.proofs.CycleLemmas.{tells, apart}
use Rattle.shortest_cycles.proofs.CyclesFound.{or_tells, starts_within}
use Rattle.shortest_cycles.proofs.FirstCycles.{finds_first, finds_none, none_first}
use Rattle.script_graph.specs.declared.fault.PlacedFault.{PlacedFault}
use Rattle.script_graph.specs.declared.fault.GraphFault.TheVariants.{Cycle}
use Rattle.script_graph.specs.declared.fault.GraphStop.{GraphStop}
use Rattle.script_graph.specs.declared.fault.GraphStop.TheVariants.{Fault, Memory}
use Rattle.script_graph.specs.declared.sort.NameSort.{NameSort}
use Rattle.script_graph.specs.declared.sort.NameSort.TheVariants.{DataSet, Datapoint, Hierarchy}
use Rattle.script_graph.specs.Words.{is_same}
use Rattle.script_graph.specs.Mentions.{Mention, of_statement}
use Rattle.script_graph.specs.Scopes.{Names, names_of, uses_of, uses, Answers, first_stop, both_of}
use Rattle.script_graph.specs.Orders.{LeadsWithin, IsOrder}
use Rattle.script_graph.specs.Faults.{earlier, uses_in, graph_of, told, told_at, name_at, cycle, assigned_twice, unknown, first_fault, IsStop}
use Rattle.script_graph.proofs.Orders.{order_acyclic}

-- ---- two answers of which both are wanted

pub both_answers : {A B : Type 0} (e f : Option PlacedFault) (P : A → Type 0) (Q : B → Type 0) (a : Result A GraphStop) (b : Result B GraphStop) → Answers e P a → Answers f Q b → Answers (earlier e f) (λ p. P p.0 × Q p.1) (both_of a b)
both_answers e f P Q (Ok a) (Ok b) x y = (ap₂ earlier x.0 y.0, (x.1, y.1))
both_answers e f P Q (Ok a) (Err (Fault g)) x y = ap₂ earlier x.0 y
both_answers e f P Q (Ok a) (Err Memory) x y = tt
both_answers e f P Q (Err (Fault g)) (Ok b) x y = ap₂ earlier x y.0
both_answers e f P Q (Err (Fault g)) (Err (Fault h)) x y = ap₂ earlier x y
both_answers e f P Q (Err (Fault g)) (Err Memory) x y = tt
both_answers e f P Q (Err Memory) (Ok b) x y = tt
both_answers e f P Q (Err Memory) (Err t) x y = tt

-- ---- what is used is a statement

in_found : (n : Names) (w : List ℕ) (k : ℕ) (o : Option ℕ) → position (is_same w) n.results ≡ o → contains (option_to_list o) k ≡ true → k < length n.results
in_found n w k None is h = apart false h refl
in_found n w k (Some j) is h = elim (or_tells (j == k) false h) [
  | inl same ↦ subst (λ (i : ℕ). i < length n.results) (eqb-true j k same) (position-Some (is_same w) n.results j [] is).0
  | inr none ↦ apart false none refl
]

of_within : (n : Names) (s : NameSort) (w : List ℕ) (k : ℕ) → contains (uses_of n s w) k ≡ true → k < length n.results
of_within n DataSet w k h = in_found n w k (position (is_same w) n.results) refl h
of_within n Datapoint w k h = apart false h refl
of_within n Hierarchy w k h = apart false h refl

uses_within : (n : Names) (ms : List Mention) (k : ℕ) → contains (uses n ms) k ≡ true → k < length n.results
uses_within n [] k h = apart false h refl
uses_within n (m ∷ ms) k h =
    let first = uses_of n m.sort m.name in
    elim (or_tells (contains first k) (contains (uses n ms) k) (sym (list_any-append (λ (j : ℕ). j == k) first (uses n ms)) ∙ h)) [
      | inl here ↦ of_within n m.sort m.name k here
      | inr later ↦ uses_within n ms k later
    ]

targets_within : (n : Names) (k : ℕ) (o : Option Statement) → contains (unwrap_or (option_map (uses_in n) o) []) k ≡ true → k < length n.results
targets_within n k None h = apart false h refl
targets_within n k (Some t) h = uses_within n (of_statement t) k h

pub graph_within : (s : Script) (inputs : NamedStructures) → LeadsWithin (graph_of s inputs)
graph_within s inputs i k leads =
    let n = names_of s inputs in
    let few : k < length n.results = targets_within n k (slice_get s.statements i) (ap (λ (o : Option (List ℕ)). contains (unwrap_or o []) k) (sym (slice_get-map (uses_in n) s.statements i)) ∙ leads) in
    let results : length n.results ≡ length s.statements = length-map s.statements (λ (t : Statement). t.name) in
    let all : length (graph_of s inputs) ≡ length s.statements = length-map s.statements (uses_in n) in
    omega arith

-- ---- a cycle is told where there is one

some_told : (o : Option Statement) (names : List (List ℕ)) (t : Statement) → o ≡ Some t → option_map {U = PlacedFault} (λ (u : Statement). record { fault = Cycle names; place = u.place }) o ≡ None → ⊥
some_told None names t is none = absurd (cc is)
some_told (Some u) names t is none = absurd (cc none)

in_list : (ts : List Statement) (i : ℕ) → i < length ts → (t : Statement) × (slice_get ts i ≡ Some t)
in_list [] i less = absurd (omega arith)
in_list (t ∷ ts) i less = (get_or (t ∷ ts) i t, slice_get-get_or (t ∷ ts) i t less)

cycle_told : (s : Script) (inputs : NamedStructures) (c : List ℕ) → IsFirstCycle (graph_of s inputs) c → told s.statements c ≡ None → ⊥
cycle_told s inputs c f none =
    let g = graph_of s inputs in
    let less : f.start < length g = starts_within g f.start f.by f.start f.shortest.cycle in
    let all : length g ≡ length s.statements = length-map s.statements (uses_in (names_of s inputs)) in
    let t = in_list s.statements f.start (omega arith) in
    some_told (slice_get s.statements f.start) (flat_map (name_at s.statements) (f.start ∷ f.by)) t.0 t.1 (sym (ap (told s.statements) f.is) ∙ none)

cycle_found : (s : Script) (inputs : NamedStructures) (o : Option (List ℕ)) → first_cycle (graph_of s inputs) ≡ o → (HasNoCycle (graph_of s inputs) → ⊥) → option_and_then (told s.statements) o ≡ None → ⊥
cycle_found s inputs None is has none = has (finds_none (graph_of s inputs) is)
cycle_found s inputs (Some c) is has none = cycle_told s inputs c (finds_first (graph_of s inputs) c is) none

pub cycle_is : (s : Script) (inputs : NamedStructures) → (HasNoCycle (graph_of s inputs) → ⊥) → cycle s inputs ≡ None → ⊥
cycle_is s inputs has none = cycle_found s inputs (first_cycle (graph_of s inputs)) refl has none

-- and none where there is an order
pub order_cycle : (s : Script) (inputs : NamedStructures) (order : List ℕ) → IsOrder (graph_of s inputs) order → cycle s inputs ≡ None
order_cycle s inputs order o = ap (option_and_then (told s.statements)) (none_first (graph_of s inputs) (order_acyclic (graph_of s inputs) order o))

-- ---- the first fault

pub faultless : (s : Script) (inputs : NamedStructures) → assigned_twice s inputs ≡ None → unknown s inputs ≡ None → cycle s inputs ≡ None → first_fault s inputs ≡ None
faultless s inputs a u c = ap₂ option_or a (ap₂ option_or u c)

pub stop_first : (s : Script) (inputs : NamedStructures) {T : Type 0} (P : T → Type 0) (stop : GraphStop) → Answers (assigned_twice s inputs) P (Err stop) → IsStop s inputs stop
stop_first s inputs P (Fault f) r = ap (λ (o : Option PlacedFault). option_or o (option_or (unknown s inputs) (cycle s inputs))) r
stop_first s inputs P Memory r = tt

pub stop_second : (s : Script) (inputs : NamedStructures) {T : Type 0} (P : T → Type 0) (stop : GraphStop) → assigned_twice s inputs ≡ None → Answers (unknown s inputs) P (Err stop) → IsStop s inputs stop
stop_second s inputs P (Fault f) a r = ap₂ option_or a (ap (λ (o : Option PlacedFault). option_or o (cycle s inputs)) r)
stop_second s inputs P Memory a r = tt

pub stop_third : (s : Script) (inputs : NamedStructures) (f : PlacedFault) → assigned_twice s inputs ≡ None → unknown s inputs ≡ None → cycle s inputs ≡ Some f → IsStop s inputs (Fault f)
stop_third s inputs f a u c = ap₂ option_or a (ap₂ option_or u c)
