-- Maps to which changes are applied, as lists.
use Rattle.std.proofs.Common.{◌≡◌, ℕ, ◌+◌, ◌<◌, ◌≤◌, List, [], ◌∷◌, map, Option, None, sym, ◌∙◌, ap, refl, T, length, get_or, drop, add-one, drop-cons, suc, inl, inr}
use Rattle.std.specs.Option.{IfSome}
use Rattle.std.specs.List.{AllByRecursion}
use Rattle.std.specs.declared.cmp.Ordering.{Ordering}
use Rattle.std.specs.Ordering.{eq_by_cmp}
use Rattle.std.specs.Cmp.{IsTotalOrder}
use Rattle.std.specs.FinMap.{FinMap, IsAntisymmetric, get, find, from_entries, get-from_entries, is_sorted, same_map}
use Rattle.std.proofs.lemmas.Bool.{cases_Bool}
use Rattle.std.proofs.lemmas.List.{drop_all}
use Rattle.data_model.specs.Maps.{put}
use Rattle.data_model.specs.Deltas.{Pair, after, apply}
use Rattle.data_model.proofs.DeltaLemmas.{get-apply}
use Rattle.data_model.proofs.EntryLemmas.{find-later, is_sorted-rest}
use Rattle.data_model.proofs.MapLemmas.{get-put, tied_to_itself}

-- the new values of changes put one after the other
abbrev pub put_each : {K X : Type 0} {R : K → K → Ordering} → List (K × Pair X) → FinMap R X → FinMap R X
put_each [] m = m
put_each (c ∷ cs) m = put_each cs (put c.0 c.1.1 m)

module _ {K X : Type 0} {R : K → K → Ordering} (o : IsTotalOrder R) (exact : IsAntisymmetric R) where
  -- a list that has at each key what changes leave there is that of the map after them
  pub applied_by_lookups : (cs : List (K × Pair X)) (es later : List (K × X)) → ((q : K) → find R q later ≡ after (find R q cs) (find R q es)) → from_entries {R = R} later ≡ apply (from_entries {R = R} cs) (from_entries {R = R} es)
  applied_by_lookups cs es later h = same_map o exact _ _ (λ q.
      get-from_entries o later q ∙ h q
      ∙ sym (get-apply o exact (from_entries {R = R} cs) (from_entries {R = R} es) q ∙ (λ i. after (get-from_entries o cs q i) (get-from_entries o es q i))))

  -- a map has at the key of each change what was there before
  pub begins_each : (cs : List (K × Pair X)) (m : FinMap R X) → T (is_sorted R cs) → ((q : K) → IfSome (find R q cs) (λ (c : Pair X). get m q ≡ c.0)) → AllByRecursion (λ (c : K × Pair X). get m c.0 ≡ c.1.0) cs
  begins_each [] m s h = tt
  begins_each (c ∷ cs) m s h =
      let here : get m c.0 ≡ c.1.0 = let t = tied_to_itself o c.0 in rw t at (h c.0) in (
        here,
        begins_each cs m (is_sorted-rest R c cs s) (λ q. elim (cases_Bool (eq_by_cmp R q c.0)) [
          | inl t ↦ let none : find R q cs ≡ None = find-later o q c cs s t in rw none tt
          | inr n ↦ rw n at (h q)
        ]),
      )

  get-put_each : (cs : List (K × Pair X)) (m : FinMap R X) (q : K) → T (is_sorted R cs) → get (put_each cs m) q ≡ after (find R q cs) (get m q)
  get-put_each [] m q s = refl
  get-put_each (c ∷ cs) m q s =
      get-put_each cs (put c.0 c.1.1 m) q (is_sorted-rest R c cs s)
      ∙ ap (after (find R q cs)) (get-put o c.0 c.1.1 m q)
      ∙ elim (cases_Bool (eq_by_cmp R q c.0)) [
        | inl t ↦ let none : find R q cs ≡ None = find-later o q c cs s t in rw (t, none) refl
        | inr n ↦ rw n refl
      ]

  -- changes in the order of their keys, put one after the other, are applied
  pub put_each-apply : (cs : List (K × Pair X)) (m : FinMap R X) → T (is_sorted R cs) → put_each cs m ≡ apply (from_entries {R = R} cs) m
  put_each-apply cs m s = same_map o exact _ _ (λ q. get-put_each cs m q s ∙ sym (get-apply o exact (from_entries {R = R} cs) m q ∙ ap (λ (c : Option (Pair X)). after c (get m q)) (get-from_entries o cs q)))

-- one change more
pub put_each-more : {K X C : Type 0} {R : K → K → Ordering} (f : C → K × Pair X) (cs : List C) (i : ℕ) (c : C) (m n : FinMap R X) → i < length cs → c ≡ get_or cs i c → n ≡ put (f c).0 (f c).1.1 m → put_each (map f (drop (i + 1) cs)) n ≡ put_each (map f (drop i cs)) m
put_each-more {K} {X} {C} {R} f cs i c m n lt at e =
    let here : drop i cs ≡ c ∷ drop (i + 1) cs = rw add-one (drop-cons cs i c lt ∙ ap (λ (t : C). t ∷ drop (suc i) cs) (sym at)) in
    ap (put_each (map f (drop (i + 1) cs))) e ∙ sym (ap (λ (t : List C). put_each (map f t) m) here)

-- none left
pub put_each-end : {K X C : Type 0} {R : K → K → Ordering} (f : C → K × Pair X) (cs : List C) (i : ℕ) (m : FinMap R X) → length cs ≤ i → put_each (map f (drop i cs)) m ≡ m
put_each-end f cs i m le = rw (drop_all i cs le) refl
