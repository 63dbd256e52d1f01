-- A list of entries in order, edited at the keys of another list in order.
use Rattle.std.proofs.Common.{◌≡◌, ℕ, ◌+◌, ◌<◌, ◌≤◌, List, [], ◌∷◌, ◌++◌, Option, Some, None, Bool, true, false, cond, T, sym, ◌∙◌, ap, refl, drop, length, get_or, append_assoc, add-one, drop-cons, suc, map}
use Rattle.std.proofs.lemmas.List.{drop_all}
use Rattle.std.specs.Option.{option_or}
use Rattle.std.specs.declared.cmp.Ordering.{Ordering}
use Rattle.std.specs.declared.cmp.Ordering.TheVariants.{Less, Equal, Greater}
use Rattle.std.specs.Ordering.{is_lt, is_eq, eq_by_cmp, ordering_reverse}
use Rattle.std.specs.Cmp.{IsTotalOrder}
use Rattle.std.specs.FinMap.{IsAntisymmetric, find, is_sorted, from_entries, get-from_entries, same_map}
use Rattle.std.specs.FinMap.Entries.{below_all, where_key, is_sorted-where_key, find-where_key}
use Rattle.data_model.specs.Deltas.{Pair, composed, composed_change}
use Rattle.data_model.proofs.DeltaLemmas.{get-composed}
use Rattle.data_model.proofs.EntryLemmas.{find-++, find-later, find-below_all}
use Rattle.point_sets.specs.Places.{below, above}
use Rattle.point_sets.specs.Changes.{entry_at, joined}
use Rattle.point_sets.proofs.Ordered.{first, second, both, less, below_as}

lower : (r : Ordering) → r ≡ Less → T (is_lt r)
lower Less e = tt
lower Equal e = cc
lower Greater e = cc

-- what f makes, of a value of the first list, of what the second one has
abbrev pub edit : {X Y : Type 0} → (X → Option Y → Option Y) → Option X → Option Y → Option Y
edit f None y = y
edit f (Some x) y = f x y

-- the second list, edited at the keys of the first one
abbrev pub edited : {K X Y : Type 0} → (K → K → Ordering) → (X → Option Y → Option Y) → List (K × X) → List (K × Y) → List (K × Y)
edited R f [] ys = ys
edited R f (x ∷ xs) ys = below R x.0 ys ++ (entry_at x.0 (f x.1 (find R x.0 ys)) ++ edited R f xs (above R x.0 ys))

module _ {K Y : Type 0} (R : K → K → Ordering) where
  below_all-++ : (k : K) (es fs : List (K × Y)) → T (below_all R k es) → T (below_all R k fs) → T (below_all R k (es ++ fs))
  below_all-++ k [] fs p q = q
  below_all-++ k (e ∷ es) fs p q = both _ _ (first _ _ p) (below_all-++ k es fs (second _ _ p) q)

  below_all-where_key : (k : K) (p : K → Bool) (es : List (K × Y)) → T (below_all R k es) → T (below_all R k (where_key R p es))
  below_all-where_key k p [] h = tt
  below_all-where_key k p (e ∷ es) h = elim (p e.0) as (λ b. T (below_all R k (cond b (e ∷ where_key R p es) (where_key R p es)))) [
    | true ↦ both _ _ (first _ _ h) (below_all-where_key k p es (second _ _ h))
    | false ↦ below_all-where_key k p es (second _ _ h)
  ]

  below_all-above : (k : K) (es : List (K × Y)) → T (below_all R k (above R k es))
  below_all-above k [] = tt
  below_all-above k (e ∷ es) = elim (R k e.0) as (λ r. R k e.0 ≡ r → T (below_all R k (cond (is_lt r) (e ∷ above R k es) (above R k es)))) [
    | Less ↦ λ h. both _ _ (lower (R k e.0) h) (below_all-above k es)
    | Equal ↦ λ h. below_all-above k es
    | Greater ↦ λ h. below_all-above k es
  ] refl

  below_all-entry_at : (k j : K) (r : Option Y) → T (is_lt (R k j)) → T (below_all R k (entry_at j r))
  below_all-entry_at k j None h = tt
  below_all-entry_at k j (Some y) h = both _ _ h tt

  find-entry_at : (q k : K) (r : Option Y) → find R q (entry_at k r) ≡ cond (eq_by_cmp R q k) r None
  find-entry_at q k None = elim (eq_by_cmp R q k) as (λ (b : Bool). ◌≡◌ {A = Option Y} None (cond b None None)) [ true ↦ refl | false ↦ refl ]
  find-entry_at q k (Some y) = refl

or_none : {Y : Type 0} (y : Option Y) → option_or y None ≡ y
or_none None = refl
or_none (Some y) = refl

-- ---- the entries below and above a key, one after the other

turn : {K : Type 0} {R : K → K → Ordering} → IsTotalOrder R → (j k : K) (r : Ordering) → R j k ≡ r → R k j ≡ ordering_reverse r
turn o j k r e = o.antisymm k j ∙ ap ordering_reverse e

module _ {K Y : Type 0} {R : K → K → Ordering} (o : IsTotalOrder R) where
  below_all-less : (j k : K) (es : List (K × Y)) → R j k ≡ Less → T (below_all R k es) → T (below_all R j es)
  below_all-less j k [] l h = tt
  below_all-less j k (e ∷ es) l h = both _ _ (lower _ (o.trans j k e.0 l (less _ (first _ _ h)))) (below_all-less j k es l (second _ _ h))

  below-none : (k : K) (es : List (K × Y)) → T (below_all R k es) → below R k es ≡ []
  below-none k [] h = refl
  below-none k (e ∷ es) h = let g : R e.0 k ≡ Greater = turn o k e.0 Less (less _ (first _ _ h)) in rw g (below-none k es (second _ _ h))

  above-all : (k : K) (es : List (K × Y)) → T (below_all R k es) → above R k es ≡ es
  above-all k [] h = refl
  above-all k (e ∷ es) h = let g : R k e.0 ≡ Less = less _ (first _ _ h) in rw g (ap (λ (t : List (K × Y)). e ∷ t) (above-all k es (second _ _ h)))

  module _ (k : K) (e : K × Y) (es : List (K × Y)) where
    pub below-less : R e.0 k ≡ Less → below R k (e ∷ es) ≡ e ∷ below R k es
    below-less l = rw l refl

    pub above-less : R e.0 k ≡ Less → above R k (e ∷ es) ≡ above R k es
    above-less l = let g : R k e.0 ≡ Greater = turn o e.0 k Less l in rw g refl

    pub find-less : R e.0 k ≡ Less → find R k (e ∷ es) ≡ find R k es
    find-less l = let g : R k e.0 ≡ Greater = turn o e.0 k Less l in rw g refl

    tied_below : R e.0 k ≡ Equal → T (is_sorted R (e ∷ es)) → T (below_all R k es)
    tied_below l s = below_as R o k e.0 es (turn o e.0 k Equal l) (first _ _ s)

    pub below-equal : R e.0 k ≡ Equal → T (is_sorted R (e ∷ es)) → below R k (e ∷ es) ≡ []
    below-equal l s = rw l (below-none k es (tied_below l s))

    pub above-equal : R e.0 k ≡ Equal → T (is_sorted R (e ∷ es)) → above R k (e ∷ es) ≡ es
    above-equal l s = let g : R k e.0 ≡ Equal = turn o e.0 k Equal l in rw g (above-all k es (tied_below l s))

    pub find-equal : R e.0 k ≡ Equal → find R k (e ∷ es) ≡ Some e.1
    find-equal l = let g : R k e.0 ≡ Equal = turn o e.0 k Equal l in rw g refl

    all_above : R e.0 k ≡ Greater → T (is_sorted R (e ∷ es)) → T (below_all R k (e ∷ es))
    all_above l s = let g : R k e.0 ≡ Less = turn o e.0 k Greater l in both _ _ (lower _ g) (below_all-less k e.0 es g (first _ _ s))

    pub below-greater : R e.0 k ≡ Greater → T (is_sorted R (e ∷ es)) → below R k (e ∷ es) ≡ []
    below-greater l s = below-none k (e ∷ es) (all_above l s)

    pub above-greater : R e.0 k ≡ Greater → T (is_sorted R (e ∷ es)) → above R k (e ∷ es) ≡ e ∷ es
    above-greater l s = above-all k (e ∷ es) (all_above l s)

    pub find-greater : R e.0 k ≡ Greater → T (is_sorted R (e ∷ es)) → find R k (e ∷ es) ≡ None
    find-greater l s = find-below_all R k (e ∷ es) (all_above l s)

  is_sorted-below : (k : K) (ys zs : List (K × Y)) → T (is_sorted R ys) → T (is_sorted R zs) → ((j : K) → R j k ≡ Less → T (below_all R j zs)) → T (is_sorted R (below R k ys ++ zs))
  is_sorted-below k [] zs s t h = t
  is_sorted-below k (y ∷ ys) zs s t h = elim (R y.0 k) as (λ r. R y.0 k ≡ r → T (is_sorted R (cond (is_lt r) (y ∷ below R k ys) (below R k ys) ++ zs))) [
    | Less ↦ λ e. both _ _ (below_all-++ R y.0 (below R k ys) zs (below_all-where_key R y.0 _ ys (first _ _ s)) (h y.0 e)) (is_sorted-below k ys zs (second _ _ s) t h)
    | Equal ↦ λ e. is_sorted-below k ys zs (second _ _ s) t h
    | Greater ↦ λ e. is_sorted-below k ys zs (second _ _ s) t h
  ] refl

-- ---- the edited list

module _ {K X Y : Type 0} {R : K → K → Ordering} (o : IsTotalOrder R) (same : IsAntisymmetric R) (f : X → Option Y → Option Y) where
  below_all-edited : (k : K) (xs : List (K × X)) (ys : List (K × Y)) → T (below_all R k xs) → T (below_all R k ys) → T (below_all R k (edited R f xs ys))
  below_all-edited k [] ys p q = q
  below_all-edited k (x ∷ xs) ys p q =
      below_all-++ R k (below R x.0 ys) _ (below_all-where_key R k _ ys q)
      (below_all-++ R k (entry_at x.0 (f x.1 (find R x.0 ys))) _ (below_all-entry_at R k x.0 _ (first _ _ p)) (below_all-edited k xs (above R x.0 ys) (second _ _ p) (below_all-where_key R k _ ys q)))

  -- it is in order
  pub is_sorted-edited : (xs : List (K × X)) (ys : List (K × Y)) → T (is_sorted R xs) → T (is_sorted R ys) → T (is_sorted R (edited R f xs ys))
  is_sorted-edited [] ys s t = t
  is_sorted-edited (x ∷ xs) ys s t =
      let later : T (is_sorted R (edited R f xs (above R x.0 ys))) = is_sorted-edited xs (above R x.0 ys) (second _ _ s) (is_sorted-where_key R _ ys t) in
      let over : T (below_all R x.0 (edited R f xs (above R x.0 ys))) = below_all-edited x.0 xs (above R x.0 ys) (first _ _ s) (below_all-above R x.0 ys) in
      let here : T (is_sorted R (entry_at x.0 (f x.1 (find R x.0 ys)) ++ edited R f xs (above R x.0 ys))) =
      elim (f x.1 (find R x.0 ys)) as (λ r. T (is_sorted R (entry_at x.0 r ++ edited R f xs (above R x.0 ys)))) [ None ↦ later | Some y ↦ both _ _ over later ] in
      is_sorted-below o x.0 ys _ t here (λ j l. below_all-++ R j (entry_at x.0 (f x.1 (find R x.0 ys))) _ (below_all-entry_at R j x.0 _ (lower _ l)) (below_all-less o j x.0 _ l over))

  -- and has at each key what f makes there
  pub find-edited : (q : K) (xs : List (K × X)) (ys : List (K × Y)) → T (is_sorted R xs) → find R q (edited R f xs ys) ≡ edit f (find R q xs) (find R q ys)
  find-edited q [] ys s = refl
  find-edited q (x ∷ xs) ys s =
      let a : find R q (below R x.0 ys) ≡ cond (is_lt (R q x.0)) (find R q ys) None = find-where_key R (λ j. is_lt (R j x.0)) q (λ j e. ap (λ (t : K). is_lt (R t x.0)) (sym (same q j e))) ys in
      let b : find R q (entry_at x.0 (f x.1 (find R x.0 ys))) ≡ cond (is_eq (R q x.0)) (f x.1 (find R x.0 ys)) None = find-entry_at R q x.0 _ in
      let c : find R q (edited R f xs (above R x.0 ys)) ≡ edit f (find R q xs) (cond (is_lt (R x.0 q)) (find R q ys) None) =
      find-edited q xs (above R x.0 ys) (second _ _ s) ∙ ap (edit f (find R q xs)) (find-where_key R (λ j. is_lt (R x.0 j)) q (λ j e. ap (λ (t : K). is_lt (R x.0 t)) (sym (same q j e))) ys) in
      find-++ R (below R x.0 ys) _ q
      ∙ ap (option_or (find R q (below R x.0 ys))) (find-++ R (entry_at x.0 (f x.1 (find R x.0 ys))) (edited R f xs (above R x.0 ys)) q)
      ∙ (λ i. option_or (a i) (option_or (b i) (c i)))
      ∙ elim (R q x.0) as (λ t. R q x.0 ≡ t → option_or (cond (is_lt t) (find R q ys) None) (option_or (cond (is_eq t) (f x.1 (find R x.0 ys)) None) (edit f (find R q xs) (cond (is_lt (R x.0 q)) (find R q ys) None))) ≡ edit f (cond (is_eq t) (Some x.1) (find R q xs)) (find R q ys)) [
        | Less ↦ λ e.
            let n : find R q xs ≡ None = find-below_all R q xs (below_all-less o q x.0 xs e (first _ _ s)) in
            let t : R x.0 q ≡ Greater = turn o q x.0 Less e in
            rw (n, t) (or_none (find R q ys))
        | Equal ↦ λ e.
            let n : find R q xs ≡ None = find-later o q x xs s (ap is_eq e) in
            let t : R x.0 q ≡ Equal = turn o q x.0 Equal e in
            rw (n, t) (or_none (f x.1 (find R x.0 ys)) ∙ ap (λ (j : K). f x.1 (find R j ys)) (sym (same q x.0 e)))
        | Greater ↦ λ e.
            let t : R x.0 q ≡ Less = turn o q x.0 Greater e in
            rw t refl
      ] refl

-- ---- maps and deltas

edit-joined : {X : Type 0} (same : X → X → Bool) (c e : Option (Pair X)) → edit (joined same) c e ≡ composed_change same c e
edit-joined same None e = refl
edit-joined same (Some c) e = refl

module _ {K X : Type 0} {R : K → K → Ordering} (o : IsTotalOrder R) (exact : IsAntisymmetric R) where
  -- the delta of changes edited by those before is that of both
  pub from_entries-joined : (same : X → X → Bool) (cs es : List (K × Pair X)) → T (is_sorted R cs) → from_entries {R = R} (edited R (joined same) cs es) ≡ composed same (from_entries {R = R} cs) (from_entries {R = R} es)
  from_entries-joined same cs es s = same_map o exact _ _ (λ q.
      get-from_entries o (edited R (joined same) cs es) q ∙ find-edited o exact (joined same) q cs es s ∙ edit-joined same (find R q cs) (find R q es)
      ∙ sym (get-composed o exact same (from_entries {R = R} cs) (from_entries {R = R} es) q ∙ (λ i. composed_change same (get-from_entries o cs q i) (get-from_entries o es q i))))

-- one more entry of the first list: what is below its key is handed on, and then what f makes there
pub edited-more : {K X Y C : Type 0} (R : K → K → Ordering) (f : X → Option Y → Option Y) (entry : C → K × X) (cs : List C) (i : ℕ) (c : C) (done more all ys later : List (K × Y)) → i < length cs → c ≡ get_or cs i c
    → more ≡ done ++ below R (entry c).0 ys → all ≡ more ++ entry_at (entry c).0 (f (entry c).1 (find R (entry c).0 ys)) → later ≡ above R (entry c).0 ys
    → all ++ edited R f (map entry (drop (i + 1) cs)) later ≡ done ++ edited R f (map entry (drop i cs)) ys
edited-more {K} {X} {Y} {C} R f entry cs i c done more all ys later lt at p q r =
    let here : drop i cs ≡ c ∷ drop (i + 1) cs = rw add-one (drop-cons cs i c lt ∙ ap (λ (t : C). t ∷ drop (suc i) cs) (sym at)) in
    let k : K = (entry c).0 in
    let made : List (K × Y) = entry_at k (f (entry c).1 (find R k ys)) in
    let tail : List (K × Y) = edited R f (map entry (drop (i + 1) cs)) (above R k ys) in
    (λ j. q j ++ edited R f (map entry (drop (i + 1) cs)) (r j))
    ∙ ap (λ (t : List (K × Y)). (t ++ made) ++ tail) p
    ∙ append_assoc (done ++ below R k ys) made tail
    ∙ append_assoc done (below R k ys) (made ++ tail)
    ∙ sym (ap (λ (t : List C). done ++ edited R f (map entry t) ys) here)

-- after the last entry of the first list, the rest stays
pub edited-end : {K X Y C : Type 0} (R : K → K → Ordering) (f : X → Option Y → Option Y) (entry : C → K × X) (cs : List C) (i : ℕ) (done ys : List (K × Y)) → length cs ≤ i → done ++ edited R f (map entry (drop i cs)) ys ≡ done ++ ys
edited-end R f entry cs i done ys le = rw (drop_all i cs le) refl
