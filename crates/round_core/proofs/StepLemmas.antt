-- Steps of loops.
use Rattle.std.proofs.Common.{◌≡◌, inl, inr, ℕ, zero, suc, ◌+◌, ◌<◌, ◌≤◌, Bool, true, cond, List, [], ◌∷◌, ◌++◌, length, get_or, take, drop, map, Option, Some, None, Result, Ok, Err, Vec, sym, ◌∙◌, ap, refl, arith, subst, length-append, append_assoc}
use Rattle.std.specs.Prelude.{count_by, IfOk, OnErr}
use Rattle.std.proofs.lemmas.List.{length-set, get_or-set_same, get_or-set_other, set-get_or}
use Rattle.std.specs.Arc.{arc_value}
use Rattle.std.specs.FinMap.{empty}
use Rattle.std.specs.List.{All, Contains, slice_get}
use Rattle.std.specs.declared.sync.Arc.{Arc}
use Rattle.std.specs.declared.alloc.Global.{Global}
use Rattle.std.proofs.Math.Seq.{drop-cons}
use Rattle.std.proofs.lemmas.List.Sums.{sum_by-cons}
use Rattle.std.proofs.lemmas.Option.{get_or_from_slice_get}
use Rattle.std.proofs.lemmas.List.Elements.{Contains-append_left}
use Rattle.vtl_values.proofs.Values.{key_cmp-IsTotalOrder, key_cmp-IsAntisymmetric}
use Rattle.data_model.specs.Deltas.{Leads}
use Rattle.data_model.proofs.DeltaLemmas.{Leads-empty}
use Rattle.point_sets.specs.DataSets.{DataSet}
use Rattle.point_sets.specs.Changes.{Changes}
use Rattle.data_set_trees.specs.declared.tree.Source.{Source}
use Rattle.data_set_trees.specs.declared.tree.Source.TheVariants.{Input}
use Rattle.release_text.specs.Releases.{Page}
use Rattle.round_journal.specs.Releases.{and_page}
use Rattle.round_core.proofs.Lists.{get_or_any}
use Rattle.round_core.specs.declared.inputs.InputChange.{InputChange}
use Rattle.round_core.specs.declared.slot.Slot.{Slot}
use Rattle.round_core.specs.declared.slot.Stage.TheVariants as stage
use Rattle.round_core.specs.Inputs.{LeadsThrough, LeadsOrStays, ChangeKept, Carries, Starts}
use Rattle.round_core.specs.Slots.{SameHome, HandedOn, Remain, pages_by, ReadyIn, FirstReadyIn}
use Rattle.round_core.specs.Steps.{IsFirstNews, AreFirstNews, IsPrepared}

-- ---- changes of inputs

pub leads_empty : (x : DataSet) → Leads empty x x
leads_empty x = Leads-empty key_cmp-IsTotalOrder key_cmp-IsAntisymmetric x

pub first_none : (changes : List InputChange) (n : ℕ) (d : Arc Changes Global) (change : InputChange) → arc_value d ≡ empty → change ≡ get_or changes n change → change.older ≡ None → IsFirstNews changes d (Input n)
first_none changes n d change ed ec none change' x y there leads =
    let same : change ≡ change' = ec ∙ get_or_from_slice_get changes n change' change there in
    let q : LeadsOrStays x y None = subst (λ (o : Option (Arc Changes Global)). LeadsOrStays x y o) (ap (λ (z : InputChange). z.older) (sym same) ∙ none) leads in
    subst (λ (z : DataSet). Leads (arc_value d) x z) q (subst (λ (z : Changes). Leads z x x) (sym ed) (leads_empty x))

pub first_at : (changes : List InputChange) (x : Arc Changes Global) (sources : List Source) (n : ℕ) (d e : Source) → n < length sources → IsFirstNews changes x (get_or sources n d) → IsFirstNews changes x (get_or sources n e)
first_at changes x sources n d e l h = subst (λ (s : Source). IsFirstNews changes x s) (get_or_any sources n d e l) h

pub starts_older : (x z : DataSet) (delta : Changes) (o : Option (Arc Changes Global)) → Rattle.std.specs.Option.IsSomeAnd o (λ d. arc_value d ≡ delta) → Leads delta x z → LeadsOrStays x z o
starts_older x z delta None h l = absurd h
starts_older x z delta (Some d) h l = subst (λ (q : Changes). Leads q x z) (sym h) l

-- the change of an input that begins from no points
pub begins_by : (set : DataSet) (older : Changes) (next : InputChange) → Starts older next → Leads older empty set → ChangeKept empty set set next
begins_by set older next s h = record { older = starts_older empty set older next.older s.older_is h; newer = subst (λ (ds : List (Arc Changes Global)). LeadsThrough (map arc_value ds) set set) (sym s.newer_is) refl }

-- a change that starts from one that leads all the way
pub carries_by : (change next : InputChange) (delta : Changes) → Starts delta next → ((x y z : DataSet) → ChangeKept x y z change → Leads delta x z) → Carries change next
carries_by change next delta s h x y z k = record { older = starts_older x z delta next.older s.older_is (h x y z k); newer = subst (λ (ds : List (Arc Changes Global)). LeadsThrough (map arc_value ds) z z) (sym s.newer_is) refl }

-- ---- slots

pub prepared_step : (changes : List InputChange) (slot x : Slot) (news : Vec (Arc Changes Global) Global) (sources : List Source) → x ≡ record slot { stage = stage.Waiting; news = news } → AreFirstNews changes news.items sources → sources ≡ slot.sources → SameHome slot x × IsPrepared changes x
prepared_step changes slot x news sources e h es =
    subst (λ (y : Slot). SameHome slot y × IsPrepared changes y) (sym e) (record { sources = refl; stamp = refl; node = refl }, record { waits = refl; news = subst (λ (ns : List Source). AreFirstNews changes news.items ns) es h })

pub handed_more : (i : ℕ) (rest gone deltas : List (Arc Changes Global)) (old new : Slot) → rest ++ gone ≡ deltas → HandedOn i rest old new → HandedOn i deltas old new
handed_more i rest gone deltas old new e h = record {
  home = h.home;
  stage = h.stage;
  news = elim h.news [
    | inl none ↦ inl none
    | inr put ↦ inr (put.0, put.1, put.2, subst (λ (ds : List (Arc Changes Global)). Contains ds put.1) e (Contains-append_left rest gone put.1 put.3), put.4)
  ];
}

abbrev pub weight : Bool → ℕ
weight b = cond b 1 0

-- how many of those that are left name the result
pub count_drop : {A : Type 0} (p : A → Bool) (xs : List A) (i : ℕ) (d : A) → i < length xs → count_by p (drop i xs) ≡ weight (p (get_or xs i d)) + count_by p (drop (i + 1) xs)
count_drop p xs i d l = ap (count_by p) (drop-cons xs i d l) ∙ sum_by-cons (λ z. cond (p z) 1 0) (get_or xs i d) (drop (suc i) xs) ∙ (let e : suc i ≡ i + 1 = omega arith in ap (λ m. weight (p (get_or xs i d)) + count_by p (drop m xs)) e)

pub enough_left : (p : Slot → Bool) (xs : List Slot) (i n : ℕ) (slot : Slot) → i < length xs → slot ≡ get_or xs i slot → count_by p (drop i xs) ≤ n → p slot ≡ true → 0 < n
enough_left p xs i n slot l e h t = let q = count_drop p xs i slot l in let r : weight (p (get_or xs i slot)) ≡ weight true = ap (λ (z : Slot). weight (p z)) (sym e) ∙ ap weight t in omega (arith, q, r, h)

pub still_enough : (p : Slot → Bool) (xs : List Slot) (i : ℕ) (slot : Slot) (old new : List (Arc Changes Global)) → i < length xs → slot ≡ get_or xs i slot → count_by p (drop i xs) ≤ length old → Remain (p slot) old new → count_by p (drop (i + 1) xs) ≤ length new
still_enough p xs i slot old new l e h r =
    let q = count_drop p xs i slot l in
    let same : weight (p (get_or xs i slot)) ≡ weight (p slot) = ap (λ (z : Slot). weight (p z)) (sym e) in
    let long : length new + length r.gone ≡ length old = sym (length-append new r.gone) ∙ ap length r.front in
    let g : length r.gone ≤ weight (p slot) = r.count in
    omega (arith, q, same, h, long, g)

pub gone_more : (new gone1 gone2 old deltas : List (Arc Changes Global)) → new ++ gone1 ≡ old → old ++ gone2 ≡ deltas → new ++ (gone1 ++ gone2) ≡ deltas
gone_more new gone1 gone2 old deltas e f = sym (append_assoc new gone1 gone2) ∙ ap (λ xs. xs ++ gone2) e ∙ f

-- ---- pages

and_page-append : (o : Option Page) (ps qs : List Page) → and_page o (ps ++ qs) ≡ and_page o ps ++ qs
and_page-append None ps qs = refl
and_page-append (Some p) ps qs = refl

pub pages_take : {X : Type 0} (f : X → Option Page) (xs : List X) (i : ℕ) (d : X) → i < length xs → pages_by f (take (suc i) xs) ≡ pages_by f (take i xs) ++ and_page (f (get_or xs i d)) []
pages_take f [] i d l = absurd (omega (arith, l))
pages_take f (x ∷ xs) zero d l = refl
pages_take f (x ∷ xs) (suc i) d l = ap (and_page (f x)) (pages_take f xs i d (omega (arith, l))) ∙ and_page-append (f x) (pages_by f (take i xs)) (and_page (f (get_or xs i d)) [])

pub pages_step : {X : Type 0} (f : X → Option Page) (xs : List X) (i : ℕ) (d : X) (before old new : List Page) → i < length xs → old ≡ before ++ pages_by f (take i xs) → new ≡ old ++ and_page (f (get_or xs i d)) [] → new ≡ before ++ pages_by f (take (i + 1) xs)
pages_step f xs i d before old new l eo en =
    en ∙ ap (λ ps. ps ++ and_page (f (get_or xs i d)) []) eo ∙ append_assoc before (pages_by f (take i xs)) (and_page (f (get_or xs i d)) []) ∙ ap (λ ps. before ++ ps) (sym (pages_take f xs i d l) ∙ (let e : suc i ≡ i + 1 = omega arith in ap (λ m. pages_by f (take m xs)) e))

-- ---- the first that is ready

pub first_ready_at : (slots : List Slot) (order : List ℕ) (k : ℕ) → k < length order → ReadyIn slots (get_or order k 0) → ((j d : ℕ) → j < k → ¬ (ReadyIn slots (get_or order j d))) → FirstReadyIn slots order (get_or order k 0)
first_ready_at slots order k l ready none = record {
  before = take k order;
  behind = drop (suc k) order;
  stands = sym (Rattle.std.proofs.lemmas.List.take-append-drop k order) ∙ ap (λ (xs : List ℕ). take k order ++ xs) (drop-cons order k 0 l);
  ready = ready;
  first = λ j d m.
      let b : j < k = let q = Rattle.std.proofs.lemmas.List.length-take-le k order (omega (arith, l)) in omega (arith, m, q) in
      subst (λ z. ¬ (ReadyIn slots z)) (sym (Rattle.std.proofs.lemmas.List.get_or-take k order j d b)) (none j d b);
}

-- ---- results

pub if_ok_weaker : {A E : Type 0} (P Q : A → Type 0) (r : Result A E) → IfOk r P → ((x : A) → P x → Q x) → IfOk r Q
if_ok_weaker P Q (Ok x) h f = f x h
if_ok_weaker P Q (Err e) h f = tt

pub on_err_of : {A E : Type 0} (P : Type 0) (r : Result A E) → P → OnErr r P
on_err_of P (Ok x) h = tt
on_err_of P (Err e) h = h

-- ---- counts

and_page-long : (o : Option Page) → length (and_page o []) ≤ 1
and_page-long None = omega arith
and_page-long (Some p) = omega arith

pub one_page_more : (old new : List Page) (o : Option Page) → new ≡ old ++ and_page o [] → length new ≤ length old + 1
one_page_more old new o e = let p = ap length e in let q = length-append old (and_page o []) in let r = and_page-long o in omega (arith, p, q, r)
