-- Lists of entries: what is found in them, and where an entry goes.
use Rattle.std.proofs.Common.{◌≡◌, ℕ, zero, suc, ◌<◌, List, [], ◌∷◌, ◌++◌, length, get_or, set, Some, None, Bool, true, false, cond, sym, ◌∙◌, ap, refl, subst, T, inl, inr, ◌&&◌, arith, option_and_then}
use Rattle.std.specs.Prelude.{insert as list_insert}
use Rattle.std.specs.Option.{option_or, IfSome}
use Rattle.std.specs.List.{AllByRecursion}
use Rattle.std.specs.declared.cmp.Ordering.{Ordering}
use Rattle.std.specs.declared.cmp.Ordering.TheVariants.{Less, Equal, Greater}
use Rattle.std.specs.Ordering.{is_lt, is_eq, eq_by_cmp, ordering_reverse}
use Rattle.std.specs.Cmp.{IsTotalOrder}
use Rattle.std.specs.FinMap.{insert, entries, from_entries, IsAntisymmetric, get-from_entries, get-insert, same_map, find, is_sorted, get-entries, entries_sorted}
use Rattle.std.specs.FinMap.Entries.{below_all, put, find-put, same_entries}
use Rattle.std.proofs.lemmas.Bool.{cases_Bool}
use Rattle.data_model.specs.Deltas.{Pair}
use Rattle.data_model.specs.Entries.{place_of, new_entries}
use Rattle.data_model.proofs.MapLemmas.{equal, tied_to_itself}

both_first : (a b : Bool) → T (a && b) → T a
both_first true b p = tt
both_first false b p = absurd p

both_second : (a b : Bool) → T (a && b) → T b
both_second true b p = p
both_second false b p = absurd p

both : (a b : Bool) → T a → T b → T (a && b)
both true b p q = q
both false b p q = p

less_unequal : (r : Ordering) → T (is_lt r) → is_eq r ≡ false
less_unequal Less p = refl
less_unequal Equal p = absurd p
less_unequal Greater p = absurd p

lt_true : (r : Ordering) → T (is_lt r) → is_lt r ≡ true
lt_true Less h = refl
lt_true Equal h = absurd h
lt_true Greater h = absurd h

later_unequal : (r s : Ordering) → is_lt r ≡ true → s ≡ ordering_reverse r → is_eq s ≡ false
later_unequal Less s h e = ap is_eq e
later_unequal Equal s h e = cc
later_unequal Greater s h e = cc

is_not_equal : (r : Ordering) → r ≡ Less → is_eq r ≡ true → ⊥
is_not_equal Less p h = cc
is_not_equal Equal p h = cc
is_not_equal Greater p h = cc

is_equal : (r : Ordering) → r ≡ Equal → is_eq r ≡ false → ⊥
is_equal Less p h = cc
is_equal Equal p h = cc
is_equal Greater p h = cc

-- ---- what is found

module _ {K X : Type 0} (R : K → K → Ordering) where
  pub find-below_all : (q : K) (es : List (K × X)) → T (below_all R q es) → find R q es ≡ None
  find-below_all q [] h = refl
  find-below_all q (e ∷ es) h = rw (less_unequal (R q e.0) (both_first _ _ h)) (find-below_all q es (both_second _ _ h))

  pub is_sorted-rest : (e : K × X) (es : List (K × X)) → T (is_sorted R (e ∷ es)) → T (is_sorted R es)
  is_sorted-rest e es s = both_second (below_all R e.0 es) (is_sorted R es) s

  -- the first value that is found in either list
  pub find-++ : (es fs : List (K × X)) (q : K) → find R q (es ++ fs) ≡ option_or (find R q es) (find R q fs)
  find-++ [] fs q = refl
  find-++ (e ∷ es) fs q = elim (eq_by_cmp R q e.0) as (λ b. cond b (Some e.1) (find R q (es ++ fs)) ≡ option_or (cond b (Some e.1) (find R q es)) (find R q fs)) [ true ↦ refl | false ↦ find-++ es fs q ]

  below-at : (x : K) (es : List (K × X)) (i : ℕ) (d : K × X) → T (below_all R x es) → i < length es → is_lt (R x (get_or es i d).0) ≡ true
  below-at x [] i d h l = absurd (omega arith)
  below-at x (e ∷ es) zero d h l = lt_true _ (both_first _ _ h)
  below-at x (e ∷ es) (suc i) d h l = below-at x es i d (both_second _ _ h) (omega arith)

module _ {K X : Type 0} {R : K → K → Ordering} (o : IsTotalOrder R) where
  below_all-tied : (q k : K) (es : List (K × X)) → R q k ≡ Equal → T (below_all R k es) → T (below_all R q es)
  below_all-tied q k [] e h = tt
  below_all-tied q k (f ∷ fs) e h = both _ _ (subst (λ r. T (is_lt r)) (sym (o.congr q k f.0 e)) (both_first _ _ h)) (below_all-tied q k fs e (both_second _ _ h))

  -- of a list in order, no later entry has the key of the first
  pub find-later : (q : K) (e : K × X) (es : List (K × X)) → T (is_sorted R (e ∷ es)) → eq_by_cmp R q e.0 ≡ true → find R q es ≡ None
  find-later q e es s t = find-below_all R q es (below_all-tied q e.0 es (equal (R q e.0) t) (both_first _ _ s))

  -- each entry of a list in order is found
  pub find-get_or : (es : List (K × X)) (i : ℕ) (d : K × X) → T (is_sorted R es) → i < length es → find R (get_or es i d).0 es ≡ Some (get_or es i d).1
  find-get_or [] i d h l = absurd (omega arith)
  find-get_or (e ∷ es) zero d h l = let t = tied_to_itself o e.0 in rw t refl
  find-get_or (e ∷ es) (suc i) d h l =
      let b = below-at R e.0 es i d (both_first _ _ h) (omega arith) in
      let n : eq_by_cmp R (get_or es i d).0 e.0 ≡ false = later_unequal (R e.0 (get_or es i d).0) (R (get_or es i d).0 e.0) b (o.antisymm (get_or es i d).0 e.0) in
      rw n (find-get_or es i d (both_second _ _ h) (omega arith))

module _ {K : Type 0} {R : K → K → Ordering} (o : IsTotalOrder R) where
  none_new : {X : Type 0} (q : K) (cs : List (K × Pair X)) → T (below_all R q cs) → find R q (new_entries cs) ≡ None
  none_new q [] h = refl
  none_new q ((k, (x, None)) ∷ cs) h = none_new q cs (both_second _ _ h)
  none_new q ((k, (x, Some y)) ∷ cs) h = let n : eq_by_cmp R q k ≡ false = less_unequal (R q k) (both_first _ _ h) in rw n (none_new q cs (both_second _ _ h))

  -- the new points of changes in order have the new value of the change there
  pub find-new_entries : {X : Type 0} (q : K) (cs : List (K × Pair X)) → T (is_sorted R cs) → find R q (new_entries cs) ≡ option_and_then (λ (c : Pair X). c.1) (find R q cs)
  find-new_entries q [] h = refl
  find-new_entries {X = X} q ((k, (x, None)) ∷ cs) h = elim (cases_Bool (eq_by_cmp R q k)) [
    | inl yes' ↦ let n : find R q (new_entries cs) ≡ None = none_new q cs (below_all-tied o q k cs (equal (R q k) yes') (both_first _ _ h)) in rw (yes', n) refl
    | inr no' ↦ rw no' (find-new_entries q cs (both_second _ _ h))
  ]
  find-new_entries q ((k, (x, Some y)) ∷ cs) h = elim (cases_Bool (eq_by_cmp R q k)) [
    | inl yes' ↦ rw yes' refl
    | inr no' ↦ rw no' (find-new_entries q cs (both_second _ _ h))
  ]

-- ---- maps by lists

-- what holds of each entry holds of the value at a key
pub IfSome-find : {K X : Type 0} (R : K → K → Ordering) → IsAntisymmetric R → (P : K → X → Type 0) (es : List (K × X)) → AllByRecursion (λ e. P e.0 e.1) es → (q : K) → IfSome (find R q es) (P q)
IfSome-find R exact P [] h q = tt
IfSome-find {X = X} R exact P (e ∷ es) h q = elim (cases_Bool (eq_by_cmp R q e.0)) [
  | inl yes' ↦ rw yes' (subst (λ k. P k e.1) (sym (exact q e.0 (equal (R q e.0) yes'))) h.0)
  | inr no' ↦ rw no' (IfSome-find R exact P es h.1 q)
]

module _ {K X : Type 0} {R : K → K → Ordering} (o : IsTotalOrder R) (exact : IsAntisymmetric R) where
  -- the entries of the map of a list in order
  pub entries-from_entries : (es : List (K × X)) → T (is_sorted R es) → entries (from_entries {R = R} es) ≡ es
  entries-from_entries es h = same_entries R o exact (entries (from_entries {R = R} es)) es (entries_sorted (from_entries {R = R} es)) h (λ q. sym (get-entries (from_entries {R = R} es) q) ∙ get-from_entries o es q)

  -- the map of a list in which an entry is put
  pub from_entries-put : (k : K) (v : X) (es : List (K × X)) → from_entries {R = R} (put R k v es) ≡ insert (from_entries es) k v
  from_entries-put k v es = same_map o exact _ _ (λ q. get-from_entries o (put R k v es) q ∙ find-put R o q k v es ∙ sym (get-insert o (from_entries {R = R} es) k v q ∙ ap (cond (eq_by_cmp R q k) (Some v)) (get-from_entries o es q)))

  -- an entry is put in its place, over the one of its key
  pub put-over : (k : K) (v : X) (d : K × X) (es : List (K × X)) → place_of R k es < length es → eq_by_cmp R k (get_or es (place_of R k es) d).0 ≡ true → put R k v es ≡ set es (place_of R k es) (k, v)
  put-over k v d [] h e = absurd (omega arith)
  put-over k v d (f ∷ fs) h e = elim (R f.0 k) as (λ r. R f.0 k ≡ r → (cond (is_lt r) (suc (place_of R k fs)) 0) < suc (length fs) → eq_by_cmp R k (get_or (f ∷ fs) (cond (is_lt r) (suc (place_of R k fs)) 0) d).0 ≡ true → put R k v (f ∷ fs) ≡ set (f ∷ fs) (cond (is_lt r) (suc (place_of R k fs)) 0) (k, v)) [
    | Less ↦ λ p h e. let g : R k f.0 ≡ Greater = o.antisymm k f.0 ∙ ap ordering_reverse p in rw g (ap (λ (t : List (K × X)). f ∷ t) (put-over k v d fs (omega arith) e))
    | Equal ↦ λ p h e. let g : R k f.0 ≡ Equal = o.antisymm k f.0 ∙ ap ordering_reverse p in rw g (ap (λ (t : K). (t, v) ∷ fs) (exact f.0 k p))
    | Greater ↦ λ p h e. let g : R k f.0 ≡ Less = o.antisymm k f.0 ∙ ap ordering_reverse p in absurd (is_not_equal (R k f.0) g e)
  ] refl h e

  -- or as a new one
  pub put-new : (k : K) (v : X) (d : K × X) (es : List (K × X)) → (place_of R k es < length es → eq_by_cmp R k (get_or es (place_of R k es) d).0 ≡ false) → put R k v es ≡ list_insert es (place_of R k es) (k, v)
  put-new k v d [] e = refl
  put-new k v d (f ∷ fs) e = elim (R f.0 k) as (λ r. R f.0 k ≡ r → ((cond (is_lt r) (suc (place_of R k fs)) 0) < suc (length fs) → eq_by_cmp R k (get_or (f ∷ fs) (cond (is_lt r) (suc (place_of R k fs)) 0) d).0 ≡ false) → put R k v (f ∷ fs) ≡ list_insert (f ∷ fs) (cond (is_lt r) (suc (place_of R k fs)) 0) (k, v)) [
    | Less ↦ λ p e. let g : R k f.0 ≡ Greater = o.antisymm k f.0 ∙ ap ordering_reverse p in rw g (ap (λ (t : List (K × X)). f ∷ t) (put-new k v d fs (λ h. e (omega arith))))
    | Equal ↦ λ p e. let g : R k f.0 ≡ Equal = o.antisymm k f.0 ∙ ap ordering_reverse p in absurd (is_equal (R k f.0) g (e (omega arith)))
    | Greater ↦ λ p e. let g : R k f.0 ≡ Less = o.antisymm k f.0 ∙ ap ordering_reverse p in rw g refl
  ] refl e
