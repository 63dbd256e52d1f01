-- Deltas: the right one is unique, names what changes alone, and leads on through others.
use Rattle.std.proofs.Common.{◌≡◌, ◌≢◌, ◌+◌, ◌<◌, List, [], ◌∷◌, map, Option, Some, None, Bool, true, false, cond, sym, ◌∙◌, ap, refl, subst, T, inl, inr, arith, ℕ, option_and_then, option_map}
use Rattle.std.specs.Prelude.{is_some, not, count_by}
use Rattle.std.specs.Bool.{Decides}
use Rattle.std.specs.Option.{option_or, IfSome, option_eq}
use Rattle.std.specs.declared.cmp.Ordering.{Ordering}
use Rattle.std.specs.Ordering.{eq_by_cmp}
use Rattle.std.specs.Cmp.{IsTotalOrder}
use Rattle.std.specs.List.{filter}
use Rattle.std.specs.FinMap.Entries.{find-where_key}
use Rattle.data_model.specs.Entries.{new_entries, entries_after}
use Rattle.std.specs.FinMap.{from_entries, get-from_entries, FinMap, get, len, empty, entries, retain_keys, find, is_sorted, IsAntisymmetric, get-empty, get-entries, entries_sorted, same_map, len-insert, len-remove, empty_of_len}
use Rattle.std.proofs.lemmas.Bool.{cases_Bool, cases_lt}
use Rattle.std.proofs.lemmas.List.Sums.{sum_by-cons}
use Rattle.data_model.specs.Maps.{put, filtered, if_passes}
use Rattle.data_model.specs.Deltas.{Pair, DeltaOf, after, LeadsAt, IsEqualityTest, change_between, composed_change, is_gain, is_loss, apply, BeginsAt, Differs, Leads, delta_between, built, composed, gained, lost, count_after}
use Rattle.data_model.proofs.EntryLemmas.{find-later, is_sorted-rest, find-++, find-new_entries}
use Rattle.data_model.proofs.MapLemmas.{tied_to_itself, get-put, get-combined, get-key_by_key, get-filtered, get-part}

-- ---- changes at one key

LeadsAt-begins : {X : Type 0} (c : Option (Pair X)) (x y : Option X) → LeadsAt c x y → IfSome c (λ (p : Pair X). x ≡ p.0)
LeadsAt-begins None x y h = tt
LeadsAt-begins (Some c) x y h = h.0

LeadsAt-differs : {X : Type 0} (c : Option (Pair X)) (x y : Option X) → LeadsAt c x y → IfSome c (λ (p : Pair X). p.0 ≢ p.1)
LeadsAt-differs None x y h = tt
LeadsAt-differs (Some c) x y h = h.2

-- the change ends in the new value
pub LeadsAt-after : {X : Type 0} (c : Option (Pair X)) (x y : Option X) → LeadsAt c x y → after c x ≡ y
LeadsAt-after None x y h = sym h
LeadsAt-after (Some c) x y h = sym h.1

LeadsAt-of : {X : Type 0} (c : Option (Pair X)) (x y : Option X) → IfSome c (λ (p : Pair X). x ≡ p.0) → IfSome c (λ (p : Pair X). p.0 ≢ p.1) → after c x ≡ y → LeadsAt c x y
LeadsAt-of None x y b d e = sym e
LeadsAt-of (Some c) x y b d e = (b, sym e, d)

LeadsAt-unique : {X : Type 0} (c e : Option (Pair X)) (x y : Option X) → LeadsAt c x y → LeadsAt e x y → c ≡ e
LeadsAt-unique None None x y h k = refl
LeadsAt-unique None (Some e) x y h k = absurd (k.2 (sym k.0 ∙ sym h ∙ k.1))
LeadsAt-unique (Some c) None x y h k = absurd (h.2 (sym h.0 ∙ sym k ∙ h.1))
LeadsAt-unique (Some c) (Some e) x y h k = let a : c.0 ≡ e.0 = sym h.0 ∙ k.0 in let b : c.1 ≡ e.1 = sym h.1 ∙ k.1 in (λ i. Some (a i, b i))

-- where nothing changes there is no change
LeadsAt-unchanged : {X : Type 0} (c : Option (Pair X)) (x y : Option X) → LeadsAt c x y → x ≡ y → c ≡ None
LeadsAt-unchanged None x y h e = refl
LeadsAt-unchanged (Some c) x y h e = absurd (h.2 (sym h.0 ∙ e ∙ h.1))

same_passes : {X : Type 0} (p : X → Bool) (c : Option (Pair X)) (x y : Option X) → LeadsAt c x y → IfSome c (λ (e : Pair X). (if_passes p e.0 ≡ None) × (if_passes p e.1 ≡ None)) → if_passes p y ≡ if_passes p x
same_passes p None x y h apart = ap (if_passes p) h
same_passes p (Some c) x y h apart = ap (if_passes p) h.1 ∙ apart.1 ∙ sym (ap (if_passes p) h.0 ∙ apart.0)

-- the test of values tests optional values too
pub option_eq-decides : {X : Type 0} (same : X → X → Bool) → IsEqualityTest same → (x y : Option X) → Decides (option_eq same x y) (x ≡ y)
option_eq-decides same t None None = (λ e. refl, λ e. refl)
option_eq-decides same t None (Some y) = (λ e. cc, λ e. cc)
option_eq-decides same t (Some x) None = (λ e. cc, λ e. cc)
option_eq-decides same t (Some x) (Some y) = (λ e. ap Some ((t x y).0 e), λ e. (t x y).1 (cc))

-- no test is true and false
pub contradicted : {A : Type 0} (b : Bool) → b ≡ true → b ≡ false → A
contradicted b s t = cc

module _ {X : Type 0} (same : X → X → Bool) (t : IsEqualityTest same) where
  LeadsAt-change_between : (x y : Option X) → LeadsAt (change_between same x y) x y
  LeadsAt-change_between x y = elim (cases_Bool (option_eq same x y)) [
    | inl yes' ↦ rw yes' (sym ((option_eq-decides same t x y).0 yes'))
    | inr no' ↦ rw no' (refl, refl, λ e. contradicted _ ((option_eq-decides same t x y).1 e) no')
  ]

  LeadsAt-composed_change : (c e : Option (Pair X)) (x y z : Option X) → LeadsAt c x y → LeadsAt e y z → LeadsAt (composed_change same c e) x z
  LeadsAt-composed_change None e x y z h k = subst (λ u. LeadsAt e u z) h k
  LeadsAt-composed_change (Some c) None x y z h k = (h.0, k ∙ h.1, h.2)
  LeadsAt-composed_change (Some c) (Some e) x y z h k = subst (λ u. LeadsAt (change_between same c.0 e.1) u z) (sym h.0) (subst (λ u. LeadsAt (change_between same c.0 e.1) c.0 u) (sym k.1) (LeadsAt-change_between c.0 e.1))

-- ---- deltas

module _ {K X : Type 0} {R : K → K → Ordering} (o : IsTotalOrder R) (exact : IsAntisymmetric R) where
  -- the new value where there is a change, and else the old one
  pub get-apply : (d : DeltaOf R X) (m : FinMap R X) (q : K) → get (apply d m) q ≡ after (get d q) (get m q)
  unfolding apply
  get-apply d m q = get-combined o exact (λ k. after) d m (λ k. refl) q

  pub get-composed : (same : X → X → Bool) (d e : DeltaOf R X) (q : K) → get (composed same d e) q ≡ composed_change same (get d q) (get e q)
  get-composed same d e q = get-combined o exact (λ k. composed_change same) d e (λ k. refl) q

  pub get-delta_between : (same : X → X → Bool) (m n : FinMap R X) (q : K) → get (delta_between same m n) q ≡ change_between same (get m q) (get n q)
  get-delta_between same m n q = get-combined o exact (λ k. change_between same) m n (λ k. refl) q

  -- at each key the right delta has the change there
  pub LeadsAt-of_Leads : (d : DeltaOf R X) (m n : FinMap R X) → Leads d m n → (q : K) → LeadsAt (get d q) (get m q) (get n q)
  LeadsAt-of_Leads d m n h q = LeadsAt-of (get d q) (get m q) (get n q) (h.begins q) (h.differs q) (sym (get-apply d m q) ∙ ap (λ (u : FinMap R X). get u q) h.ends)

  -- and what has the change at each key is the right delta
  pub Leads-by_key : (d : DeltaOf R X) (m n : FinMap R X) → ((q : K) → LeadsAt (get d q) (get m q) (get n q)) → Leads d m n
  Leads-by_key d m n h = record {
    begins = λ q. LeadsAt-begins (get d q) (get m q) (get n q) (h q);
    differs = λ q. LeadsAt-differs (get d q) (get m q) (get n q) (h q);
    ends = same_map o exact _ _ (λ q. get-apply d m q ∙ LeadsAt-after (get d q) (get m q) (get n q) (h q));
  }

  -- there is one right delta from m to n
  pub Leads-unique : (d e : DeltaOf R X) (m n : FinMap R X) → Leads d m n → Leads e m n → d ≡ e
  Leads-unique d e m n h k = same_map o exact d e (λ q. LeadsAt-unique (get d q) (get e q) (get m q) (get n q) (LeadsAt-of_Leads d m n h q) (LeadsAt-of_Leads e m n k q))

  -- it names no key whose value stays
  pub Leads-only_changed : (d : DeltaOf R X) (m n : FinMap R X) → Leads d m n → (q : K) → get m q ≡ get n q → get d q ≡ None
  Leads-only_changed d m n h q e = LeadsAt-unchanged (get d q) (get m q) (get n q) (LeadsAt-of_Leads d m n h q) e

  -- and each key that it doesn't name keeps its value
  pub Leads-unnamed : (d : DeltaOf R X) (m n : FinMap R X) → Leads d m n → (q : K) → get d q ≡ None → get n q ≡ get m q
  Leads-unnamed d m n h q e = subst (λ c. LeadsAt c (get m q) (get n q)) e (LeadsAt-of_Leads d m n h q)

  -- an empty delta changes nothing
  pub Leads-empty : (m : FinMap R X) → Leads empty m m
  Leads-empty m = Leads-by_key empty m m (λ q. rw (get-empty R q) refl)

  -- a delta that begins at m and has changes that differ leads to where it is applied
  pub Leads-apply : (d : DeltaOf R X) (m : FinMap R X) → BeginsAt d m → Differs d → Leads d m (apply d m)
  Leads-apply d m b h = record { begins = b; differs = h; ends = refl }

  pub get-built : (m : FinMap R X) (q : K) → get (built m) q ≡ option_map (λ x. (None, Some x)) (get m q)
  get-built m q = get-key_by_key o exact {X = X} {Y = Pair X} (λ k x. Some (None, Some x)) m q ∙ elim (get m q) as (λ (x : Option X). option_and_then {U = Pair X} (λ y. Some (None, Some y)) x ≡ option_map (λ y. (None, Some y)) x) [ None ↦ refl | Some y ↦ refl ]

  -- each map is built by a right delta, from nothing
  pub Leads-built : (m : FinMap R X) → Leads (built m) empty m
  Leads-built m = Leads-by_key (built m) empty m (λ q. rw (get-built m q, get-empty R q) (elim (get m q) as (λ (x : Option X). LeadsAt (option_map (λ y. (None, Some y)) x) None x) [ None ↦ refl | Some y ↦ (refl, refl, λ e. cc) ]))

  -- the part of a map that no change touches is the same before and after
  pub same_part : (p : K → Bool) (d : DeltaOf R X) (m n : FinMap R X) → Leads d m n → ((k : K) → p k ≡ true → get d k ≡ None) → retain_keys n p ≡ retain_keys m p
  same_part p d m n h apart = same_map o exact _ _ (λ q. get-part o exact p n q ∙ elim (cases_Bool (p q)) [
    | inl yes' ↦ rw yes' (Leads-unnamed d m n h q (apart q yes'))
    | inr no' ↦ rw no' refl
  ] ∙ sym (get-part o exact p m q))

  -- also where the part goes by the values: no change has an old or a new value in it
  pub same_filtered : (p : K → X → Bool) (d : DeltaOf R X) (m n : FinMap R X) → Leads d m n → ((k : K) → IfSome (get d k) (λ (c : Pair X). (if_passes (p k) c.0 ≡ None) × (if_passes (p k) c.1 ≡ None))) → filtered p n ≡ filtered p m
  same_filtered p d m n h apart = same_map o exact _ _ (λ q. get-filtered o exact p n q ∙ same_passes (p q) (get d q) (get m q) (get n q) (LeadsAt-of_Leads d m n h q) (apart q) ∙ sym (get-filtered o exact p m q))

  module _ (same : X → X → Bool) (t : IsEqualityTest same) where
    -- between any two maps there is a right delta
    pub Leads-delta_between : (m n : FinMap R X) → Leads (delta_between same m n) m n
    Leads-delta_between m n = Leads-by_key _ m n (λ q. rw (get-delta_between same m n q) (LeadsAt-change_between same t (get m q) (get n q)))

    -- two right deltas, one after the other, are one
    pub Leads-composed : (d e : DeltaOf R X) (l m n : FinMap R X) → Leads d l m → Leads e m n → Leads (composed same d e) l n
    Leads-composed d e l m n h k = Leads-by_key _ l n (λ q. rw (get-composed same d e q) (LeadsAt-composed_change same t (get d q) (get e q) (get l q) (get m q) (get n q) (LeadsAt-of_Leads d l m h q) (LeadsAt-of_Leads e m n k q)))

    -- a key that comes back to its value is not in it
    pub composed-comes_back : (d e : DeltaOf R X) (l m n : FinMap R X) → Leads d l m → Leads e m n → (q : K) → get l q ≡ get n q → get (composed same d e) q ≡ None
    composed-comes_back d e l m n h k = Leads-only_changed (composed same d e) l n (Leads-composed d e l m n h k)

-- ---- how many points there are

-- the new values put one by one
abbrev put_all : {K X : Type 0} {R : K → K → Ordering} → List (K × Pair X) → FinMap R X → FinMap R X
put_all [] m = m
put_all (e ∷ es) m = put e.0 e.1.1 (put_all es m)

abbrev changes_of : {K X : Type 0} → List (K × Pair X) → List (Pair X)
changes_of es = map (λ e. e.1) es

module _ {K X : Type 0} {R : K → K → Ordering} (o : IsTotalOrder R) where
  -- a map with a value at some key isn't empty
  pub len-some : (m : FinMap R X) (k : K) (x : X) → get m k ≡ Some x → 0 < len m
  len-some m k x h = elim (cases_lt 0 (len m)) [
    | inl yes' ↦ yes'
    | inr no' ↦ let e : m ≡ empty = empty_of_len m (omega arith) in let g : get m k ≡ None = ap (λ (n : FinMap R X). get n k) e ∙ get-empty R k in cc
  ]

  get-put_all : (es : List (K × Pair X)) (m : FinMap R X) (q : K) → get (put_all es m) q ≡ after (find R q es) (get m q)
  get-put_all [] m q = refl
  get-put_all (e ∷ es) m q =
      get-put o e.0 e.1.1 (put_all es m) q ∙ elim (eq_by_cmp R q e.0) as (λ b. cond b e.1.1 (get (put_all es m) q) ≡ after (cond b (Some e.1) (find R q es)) (get m q)) [
        | true ↦ refl
        | false ↦ get-put_all es m q
      ]

  len-put : (old new : Option X) (k : K) (m : FinMap R X) → get m k ≡ old → len (put k new m) + cond (is_loss (old, new)) 1 0 ≡ len m + cond (is_gain (old, new)) 1 0
  len-put None None k m h = let e = len-remove o m k in rw e (rw h (omega arith))
  len-put None (Some y) k m h = let e = len-insert o m k y in rw e (rw h (omega arith))
  len-put (Some x) (Some y) k m h = let e = len-insert o m k y in rw e (rw h (omega arith))
  len-put (Some x) None k m h = let e = len-remove o m k in rw e (rw h (let p : 0 < len m = len-some m k x h in omega arith))

  begins_later : (e : K × Pair X) (es : List (K × Pair X)) (m : FinMap R X) → T (is_sorted R (e ∷ es)) → ((q : K) → IfSome (find R q (e ∷ es)) (λ (c : Pair X). get m q ≡ c.0)) → (q : K) → IfSome (find R q es) (λ (c : Pair X). get m q ≡ c.0)
  begins_later e es m s h q = elim (cases_Bool (eq_by_cmp R q e.0)) [
    | inl yes' ↦ let n : find R q es ≡ None = find-later o q e es s yes' in rw n tt
    | inr no' ↦ rw no' at (h q)
  ]

  len-put_all : (es : List (K × Pair X)) (m : FinMap R X) → T (is_sorted R es) → ((q : K) → IfSome (find R q es) (λ (c : Pair X). get m q ≡ c.0)) → len (put_all es m) + count_by is_loss (changes_of es) ≡ len m + count_by is_gain (changes_of es)
  len-put_all [] m s h = refl
  len-put_all (e ∷ es) m s h =
      let later : (q : K) → IfSome (find R q es) (λ (c : Pair X). get m q ≡ c.0) = begins_later e es m s h in
      let once : find R e.0 es ≡ None = find-later o e.0 e es s (tied_to_itself o e.0) in
      let old : get m e.0 ≡ e.1.0 = subst (λ (b : Bool). IfSome (cond b (Some e.1) (find R e.0 es)) (λ (c : Pair X). get m e.0 ≡ c.0)) (tied_to_itself o e.0) (h e.0) in
      let still : get (put_all es m) e.0 ≡ e.1.0 = get-put_all es m e.0 ∙ ap (λ (c : Option (Pair X)). after c (get m e.0)) once ∙ old in
      let one = len-put e.1.0 e.1.1 e.0 (put_all es m) still in
      let rest = len-put_all es m (is_sorted-rest R e es s) later in
      rw (sum_by-cons (λ (c : Pair X). cond (is_loss c) 1 0) e.1 (changes_of es), sum_by-cons (λ (c : Pair X). cond (is_gain c) 1 0) e.1 (changes_of es)) (omega (arith, one, rest))

module _ {K X : Type 0} {R : K → K → Ordering} (o : IsTotalOrder R) (exact : IsAntisymmetric R) where
  apply-by_entries : (d : DeltaOf R X) (m : FinMap R X) → apply d m ≡ put_all (entries d) m
  apply-by_entries d m = same_map o exact _ _ (λ q. get-apply o exact d m q ∙ ap (λ (c : Option (Pair X)). after c (get m q)) (get-entries d q) ∙ sym (get-put_all o (entries d) m q))

  -- the points after a delta: those before, and what it brings, less what it takes away
  pub len-apply : (d : DeltaOf R X) (m : FinMap R X) → BeginsAt d m → len (apply d m) + lost d ≡ len m + gained d
  len-apply d m h = rw (apply-by_entries d m) (len-put_all o (entries d) m (entries_sorted d) (λ q. subst (λ (c : Option (Pair X)). IfSome c (λ (p : Pair X). get m q ≡ p.0)) (get-entries d q) (h q)))

  pub len-apply-count : (d : DeltaOf R X) (m : FinMap R X) (before : ℕ) → BeginsAt d m → len m ≡ before → len (apply d m) ≡ count_after before d
  len-apply-count d m before h e = let counts = len-apply d m h in omega arith

-- ---- deltas by lists of entries

after-parts : {X : Type 0} (c : Option (Pair X)) (x : Option X) → option_or (option_and_then (λ (p : Pair X). p.1) c) (cond (not (is_some c)) x None) ≡ after c x
after-parts None x = refl
after-parts (Some (a, None)) x = refl
after-parts (Some (a, Some b)) x = refl

module _ {K X : Type 0} {R : K → K → Ordering} (o : IsTotalOrder R) (exact : IsAntisymmetric R) where
  -- the map of the entries after changes in order is the map after their delta
  pub from_entries-entries_after : (cs : List (K × Pair X)) (es : List (K × X)) → T (is_sorted R cs) → from_entries {R = R} (entries_after R cs es) ≡ apply (from_entries {R = R} cs) (from_entries {R = R} es)
  from_entries-entries_after cs es h =
      let unnamed : List (K × X) = filter (λ (e : K × X). not (is_some (find R e.0 cs))) es in
      same_map o exact _ _ (λ q.
      get-from_entries o (entries_after R cs es) q
      ∙ find-++ R (new_entries cs) unnamed q
      ∙ ap (λ (t : Option X). option_or t (find R q unnamed)) (find-new_entries o q cs h)
      ∙ ap (option_or (option_and_then (λ (p : Pair X). p.1) (find R q cs))) (find-where_key R (λ k. not (is_some (find R k cs))) q (λ x t. ap (λ k. not (is_some (find R k cs))) (sym (exact q x t))) es)
      ∙ after-parts (find R q cs) (find R q es)
      ∙ sym (get-apply o exact (from_entries {R = R} cs) (from_entries {R = R} es) q
      ∙ ap (λ (c : Option (Pair X)). after c (get (from_entries {R = R} es) q)) (get-from_entries o cs q)
      ∙ ap (after (find R q cs)) (get-from_entries o es q)))
