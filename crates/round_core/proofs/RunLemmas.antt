-- Changes that are kept in parts.
use Rattle.std.proofs.Common.{◌≡◌, ℕ, ◌+◌, ◌<◌, ◌≤◌, List, [], ◌∷◌, ◌++◌, length, get_or, take, map, sym, ◌∙◌, ap, refl, arith, subst}
use Rattle.std.specs.FinMap.{empty}
use Rattle.std.specs.Arc.{arc_value}
use Rattle.std.specs.declared.sync.Arc.{Arc}
use Rattle.std.specs.declared.alloc.Global.{Global}
use Rattle.std.proofs.lemmas.List.{take_all, take_more, take-map, get_or-map, map-append, length-map}
use Rattle.data_model.specs.Deltas.{Leads}
use Rattle.point_sets.specs.DataSets.{DataSet}
use Rattle.point_sets.specs.Changes.{Changes}
use Rattle.round_core.specs.Inputs.{LeadsThrough, LeadAlike}
use Rattle.round_core.proofs.StepLemmas.{leads_empty}

-- the one does what the two do one after the other
abbrev pub Joins : Changes → Changes → Changes → Type 0
Joins d e f = (l m n : DataSet) → Leads d l m → Leads e m n → Leads f l n

pub through_one : (d : Changes) (x y : DataSet) → LeadsThrough (d ∷ []) x y → Leads d x y
through_one d x y h = subst (λ (z : DataSet). Leads d x z) h.2 h.1

pub one_through : (d : Changes) (x y : DataSet) → Leads d x y → LeadsThrough (d ∷ []) x y
one_through d x y h = (y, h, refl)

-- the first ones lead to where the others begin
pub through_parts : (ds es : List Changes) (x y : DataSet) → LeadsThrough (ds ++ es) x y → (z : DataSet) × LeadsThrough ds x z × LeadsThrough es z y
through_parts [] es x y h = (x, refl, h)
through_parts (d ∷ ds) es x y h = let r = through_parts ds es h.0 y h.2 in (r.0, (h.0, h.1, r.1), r.2)

pub parts_through : (ds es : List Changes) (x z y : DataSet) → LeadsThrough ds x z → LeadsThrough es z y → LeadsThrough (ds ++ es) x y
parts_through [] es x z y h k = subst (λ (w : DataSet). LeadsThrough es w y) (sym h) k
parts_through (d ∷ ds) es x z y h k = (h.0, h.1, parts_through ds es h.0 z y h.2 k)

-- the last two are joined
pub last_joined : (ds : List Changes) (d e f : Changes) → Joins d e f → LeadAlike ((ds ++ d ∷ []) ++ e ∷ []) (ds ++ f ∷ [])
last_joined ds d e f joins x y h =
    let r = through_parts (ds ++ d ∷ []) (e ∷ []) x y h in
    let q = through_parts ds (d ∷ []) x r.0 r.1 in
    parts_through ds (f ∷ []) x q.0 y q.1 (one_through f q.0 y (joins q.0 r.0 y (through_one d q.0 r.0 q.2) (through_one e r.0 y r.2)))

-- one run more is joined with those after it
pub run_joined : (ds runs : List Changes) (k n : ℕ) (run e f : Changes) → LeadAlike ds (take n runs ++ e ∷ []) → n ≡ k + 1 → k < length runs → run ≡ get_or runs k run → Joins run e f → LeadAlike ds (take k runs ++ f ∷ [])
run_joined ds runs k n run e f h en l er joins x y leads =
    let more : take n runs ≡ take k runs ++ run ∷ [] = ap (λ m. take m runs) en ∙ take_more runs k run l ∙ ap (λ (d : Changes). take k runs ++ d ∷ []) (sym er) in
    last_joined (take k runs) run e f joins x y (subst (λ (rs : List Changes). LeadsThrough (rs ++ e ∷ []) x y) more (h x y leads))

-- a part that is looked up is that part of the change
pub run_at : (runs : List (Arc Changes Global)) (k : ℕ) (run : Arc Changes Global) → k < length runs → run ≡ get_or runs k run → arc_value run ≡ get_or (map arc_value runs) k (arc_value run)
run_at runs k run l e = ap arc_value e ∙ sym (get_or-map arc_value runs k run (arc_value run) l)

pub run_joined_at : (ds : List Changes) (runs : List (Arc Changes Global)) (k n : ℕ) (run : Arc Changes Global) (d e f : Changes) → LeadAlike ds (take n (map arc_value runs) ++ e ∷ []) → n ≡ k + 1 → k < length runs → run ≡ get_or runs k run → d ≡ arc_value run → Joins d e f → LeadAlike ds (take k (map arc_value runs) ++ f ∷ [])
run_joined_at ds runs k n run d e f h en l er ed joins =
    run_joined ds (map arc_value runs) k n (arc_value run) e f h en (let long = length-map runs arc_value in omega (arith, l, long)) (run_at runs k run l er) (subst (λ (q : Changes). Joins q e f) ed joins)

-- the first parts, with one more
pub first_more : (first made : List (Arc Changes Global)) (i : ℕ) (run x : Arc Changes Global) → i < length first → run ≡ get_or first i run → map arc_value made ≡ take i (map arc_value first) → arc_value x ≡ arc_value run → map arc_value (made ++ x ∷ []) ≡ take (i + 1) (map arc_value first)
first_more first made i run x l er h ex =
    map-append arc_value made (x ∷ [])
    ∙ (λ j. h j ++ ex j ∷ [])
    ∙ ap (λ (d : Changes). take i (map arc_value first) ++ d ∷ []) (run_at first i run l er)
    ∙ sym (take_more (map arc_value first) i (arc_value run) (let long = length-map first arc_value in omega (arith, l, long)))

pub first_all : (first made all : List (Arc Changes Global)) (n kept : ℕ) → map arc_value made ≡ take n (map arc_value first) → length first ≤ n → first ≡ take kept all → map arc_value made ≡ take kept (map arc_value all)
first_all first made all n kept h past e =
    h ∙ take_all n (map arc_value first) (let long = length-map first arc_value in omega (arith, past, long)) ∙ ap (map arc_value) e ∙ sym (take-map arc_value kept all)

-- the change with one part more
pub and_run : (old front : List (Arc Changes Global)) (n : ℕ) (d last : Changes) (run : Arc Changes Global) → LeadAlike (map arc_value old ++ d ∷ []) (take n (map arc_value old) ++ last ∷ []) → map arc_value front ≡ take n (map arc_value old) → arc_value run ≡ last → LeadAlike (map arc_value old ++ d ∷ []) (map arc_value (front ++ run ∷ []))
and_run old front n d last run h ef er =
    let is : map arc_value (front ++ run ∷ []) ≡ take n (map arc_value old) ++ last ∷ [] = map-append arc_value front (run ∷ []) ∙ (λ i. ef i ++ er i ∷ []) in
    subst (LeadAlike (map arc_value old ++ d ∷ [])) (sym is) h

-- at first no run is joined
pub all_runs : (runs : List Changes) (n : ℕ) (d : Changes) → n ≡ length runs → LeadAlike (runs ++ d ∷ []) (take n runs ++ d ∷ [])
all_runs runs n d e x y h = subst (λ (rs : List Changes). LeadsThrough (rs ++ d ∷ []) x y) (sym (take_all n runs (omega (arith, e)))) h

pub all_runs_and_none : (runs : List Changes) (n : ℕ) (d : Changes) → n ≡ length runs → d ≡ empty → LeadAlike runs (take n runs ++ d ∷ [])
all_runs_and_none runs n d e none x y h = all_runs runs n d e x y (parts_through runs (d ∷ []) x y y h (one_through d y y (subst (λ (q : Changes). Leads q y y) (sym none) (leads_empty y))))

-- at last all are joined
pub no_run : (runs : List Changes) (n : ℕ) (d : Changes) → n ≡ 0 → LeadAlike runs (take n runs ++ d ∷ []) → (x y : DataSet) → LeadsThrough runs x y → Leads d x y
no_run runs n d e h x y leads = through_one d x y (subst (λ m. LeadsThrough (take m runs ++ d ∷ []) x y) e (h x y leads))

-- one more is taken
pub more_through : (olds news : List Changes) (d : Changes) → LeadAlike (olds ++ d ∷ []) news → (x y z : DataSet) → LeadsThrough olds x y → Leads d y z → LeadsThrough news x z
more_through olds news d alike x y z h leads = alike x z (parts_through olds (d ∷ []) x y z h (one_through d y z leads))
