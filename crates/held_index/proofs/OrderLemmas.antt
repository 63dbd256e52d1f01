-- Lists in order, as the entries of maps are.
use Rattle.std.proofs.Common.{◌≡◌, ◌≤◌, List, [], ◌∷◌, map, length, Bool, true, false, ◌&&◌, cond, Option, Some, None, T, refl, sym, ap, ◌∙◌, inl, inr, arith}
use Rattle.std.specs.List.{AllByRecursion}
use Rattle.std.specs.Ordering.{is_lt, is_eq, ordering_reverse}
use Rattle.std.specs.Cmp.{IsTotalOrder}
use Rattle.std.specs.FinMap.{find, is_sorted}
use Rattle.std.specs.FinMap.Entries.{below_all}
use Rattle.std.specs.declared.cmp.Ordering.{Ordering}
use Rattle.std.specs.declared.cmp.Ordering.TheVariants.{Less, Equal, Greater}
use Rattle.std.proofs.lemmas.Bool.{both_ways, cases_Bool}
use Rattle.std.proofs.lemmas.Cmp.{tied_itself}
use Rattle.ordered_tree.specs.Orders.{Ascends, put_in, in_order, find_in}
use Rattle.ordered_tree.proofs.Maps.{Unlike, Fits, lookup, lookup-put_in, Unlike-put_in}
use Rattle.ordered_tree.proofs.Orders.{equal_from_is_eq, ascends-put_in, length-put_in}

-- ---- one list in order for each list

module _ {X : Type 0} {cmp : X → X → Ordering} (o : IsTotalOrder cmp) where
  turned : (x y : X) (r : Ordering) → cmp x y ≡ r → cmp y x ≡ ordering_reverse r
  turned x y r e = o.antisymm y x ∙ ap ordering_reverse e

  pub ascends-in_order : (xs : List X) → Ascends cmp (in_order cmp xs)
  ascends-in_order [] = tt
  ascends-in_order (x ∷ xs) = ascends-put_in o x (in_order cmp xs) (ascends-in_order xs)

  pub length-in_order : (xs : List X) → length (in_order cmp xs) ≤ length xs
  length-in_order [] = omega arith
  length-in_order (x ∷ xs) = omega (arith, length-put_in cmp x (in_order cmp xs), length-in_order xs)

  -- nothing is found below a list
  none_above : (q : X) (xs : List X) → AllByRecursion (λ y. cmp q y ≡ Less) xs → find_in cmp q xs ≡ None
  none_above q [] h = refl
  none_above q (x ∷ xs) h = let g : cmp x q ≡ Greater = turned q x Less h.0 in rw g refl

  first_at : (x : X) (xs : List X) → find_in cmp x (x ∷ xs) ≡ Some x
  first_at x xs = let e : cmp x x ≡ Equal = tied_itself o x in rw e refl

  below : (q x : X) (xs : List X) → cmp q x ≡ Less → AllByRecursion (λ y. cmp x y ≡ Less) xs → AllByRecursion (λ y. cmp q y ≡ Less) xs
  below q x [] e h = tt
  below q x (y ∷ ys) e h = (o.trans q x y e h.0, below q x ys e h.1)

  tied_below : (q x : X) (xs : List X) → cmp x q ≡ Equal → AllByRecursion (λ y. cmp x y ≡ Less) xs → AllByRecursion (λ y. cmp q y ≡ Less) xs
  tied_below q x [] e h = tt
  tied_below q x (y ∷ ys) e h = (sym (o.congr x q y e) ∙ h.0, tied_below q x ys e h.1)

  -- what is found after the first item
  rest_find : (x : X) (xs ys : List X) → AllByRecursion (λ y. cmp x y ≡ Less) xs → AllByRecursion (λ y. cmp x y ≡ Less) ys → ((q : X) → find_in cmp q (x ∷ xs) ≡ find_in cmp q (x ∷ ys)) → (q : X) → find_in cmp q xs ≡ find_in cmp q ys
  rest_find x xs ys h k f q = elim (cmp x q) as (λ r. cmp x q ≡ r → find_in cmp q xs ≡ find_in cmp q ys) [
    | Less ↦ λ e. rw e at (f q)
    | Equal ↦ λ e. none_above q xs (tied_below q x xs e h) ∙ sym (none_above q ys (tied_below q x ys e k))
    | Greater ↦ λ e. let l : cmp q x ≡ Less = turned x q Greater e in none_above q xs (below q x xs l h) ∙ sym (none_above q ys (below q x ys l k))
  ] refl

  some_none : {Y : Type 0} (y : Y) (G : Type 0) → Some y ≡ None → G
  some_none y G e = cc e

  -- two lists in order in which the same is found are equal
  pub same_found : (xs ys : List X) → Ascends cmp xs → Ascends cmp ys → ((q : X) → find_in cmp q xs ≡ find_in cmp q ys) → xs ≡ ys
  same_found [] [] h k f = refl
  same_found [] (y ∷ ys) h k f = some_none y ([] ≡ y ∷ ys) (sym (f y ∙ first_at y ys))
  same_found (x ∷ xs) [] h k f = some_none x (x ∷ xs ≡ []) (sym (first_at x xs) ∙ f x)
  same_found (x ∷ xs) (y ∷ ys) h k f = elim (cmp x y) as (λ r. cmp x y ≡ r → x ∷ xs ≡ y ∷ ys) [
    | Less ↦ λ e. some_none x (x ∷ xs ≡ y ∷ ys) (sym (first_at x xs) ∙ f x ∙ none_above x (y ∷ ys) (e, below x y ys e k.0))
    | Equal ↦ λ e.
        let t : cmp y x ≡ Equal = turned x y Equal e in
        let found : find_in cmp x (y ∷ ys) ≡ Some y = rw t refl in
        let same : Some x ≡ Some y = sym (first_at x xs) ∙ f x ∙ found in
        let is : x ≡ y = cc same in
        let later : xs ≡ ys = same_found xs ys h.1 k.1 (rest_find x xs ys h.0 (rw (← is) at k.0) (λ q. f q ∙ ap (λ (z : X). find_in cmp q (z ∷ ys)) (sym is))) in
        λ i. is i ∷ later i
    | Greater ↦ λ e. let l : cmp y x ≡ Less = turned x y Greater e in some_none y (x ∷ xs ≡ y ∷ ys) (sym (first_at y ys) ∙ sym (f y) ∙ none_above y (x ∷ xs) (l, below y x xs l h.0))
  ] refl

-- ---- what is found by order and by key

pairs : {K V : Type 0} (xs : List (K × V)) → map (λ (e : K × V). (e.0, e.1)) xs ≡ xs
pairs [] = refl
pairs {K} {V} (x ∷ xs) = ap (λ (t : List (K × V)). x ∷ t) (pairs xs)

-- entries are looked up by their own keys
pub lookup-find : {K V : Type 0} (R : K → K → Ordering) (q : K) (xs : List (K × V)) → lookup R (λ (e : K × V). e.0) (λ (e : K × V). e.1) q xs ≡ find R q xs
lookup-find R q xs = ap (find R q) (pairs xs)

module _ {K V : Type 0} {R : K → K → Ordering} {cmp : K × V → K × V → Ordering} (laws : Fits R cmp (λ (e : K × V). e.0) (λ (e : K × V). e.1)) where
  -- the entry, if it is tied with q
  abbrev tied_with : K × V → Option V → Option (K × V)
  tied_with q None = None
  tied_with q (Some v) = cond (is_eq (cmp (q.0, v) q)) (Some (q.0, v)) None

  pub none_like : (q : K) (y : K × V) (ys : List (K × V)) → is_eq (R q y.0) ≡ true → AllByRecursion (λ (z : K × V). is_eq (R y.0 z.0) ≡ false) ys → find R q ys ≡ None
  none_like q y [] e h = refl
  none_like q y (z ∷ zs) e h =
      let as_key : is_eq (R q z.0) ≡ false = ap is_eq (laws.keys.congr q y.0 z.0 (equal_from_is_eq (R q y.0) e)) ∙ h.0 in
      rw as_key (none_like q y zs e h.1)

  -- what is found is above what is below each entry
  below_it : (q : K) (v : V) (y : K × V) (ys : List (K × V)) → AllByRecursion (λ z. cmp y z ≡ Less) ys → find R q ys ≡ Some v → cmp y (q, v) ≡ Less
  below_it q v y [] h e = cc e
  below_it q v y (z ∷ zs) h e = elim (cases_Bool (is_eq (R q z.0))) [
    | inl t ↦
        let key : q ≡ z.0 = laws.exact q z.0 (equal_from_is_eq (R q z.0) t) in
        let value : Some z.1 ≡ Some v = rw t at e in
        let is : z.1 ≡ v = cc value in
        ap (λ (p : K × V). cmp y p) (λ i. (key i, sym is i)) ∙ h.0
    | inr f ↦ below_it q v y zs h.1 (rw f at e)
  ]

  back : (a b c : K × V) → cmp a b ≡ Equal → cmp c b ≡ cmp c a
  back a b c t = laws.items.antisymm c b ∙ ap ordering_reverse (sym (laws.items.congr a b c t)) ∙ sym (laws.items.antisymm c a)

  -- nothing that is tied comes after what is above
  none_there : (q y : K × V) (ys : List (K × V)) → AllByRecursion (λ z. cmp y z ≡ Less) ys → cmp y q ≡ Greater → tied_with q (find R q.0 ys) ≡ None
  none_there q y ys h e = elim (find R q.0 ys) as (λ o. find R q.0 ys ≡ o → tied_with q o ≡ None) [
    | None ↦ λ k. refl
    | Some v ↦ λ k.
        let less : cmp y (q.0, v) ≡ Less = below_it q.0 v y ys h k in
        elim (cases_Bool (is_eq (cmp (q.0, v) q))) [
          | inl t ↦ let tie : cmp y q ≡ cmp y (q.0, v) = back (q.0, v) q y (equal_from_is_eq (cmp (q.0, v) q) t) in cc (less, tie, e)
          | inr n ↦ rw n refl
        ]
  ] refl

  pub find_in-find : (q : K × V) (xs : List (K × V)) → Ascends cmp xs → Unlike R (λ (e : K × V). e.0) xs → find_in cmp q xs ≡ tied_with q (find R q.0 xs)
  find_in-find q [] h u = refl
  find_in-find q (y ∷ ys) h u = elim (cases_Bool (is_eq (R q.0 y.0))) [
    | inl t ↦
        let key : q.0 ≡ y.0 = laws.exact q.0 y.0 (equal_from_is_eq (R q.0 y.0) t) in
        let none : find R q.0 ys ≡ None = none_like q.0 y ys t u.0 in
        let later : find_in cmp q ys ≡ None = find_in-find q ys h.1 u.1 ∙ ap (tied_with q) none in
        let it : (q.0, y.1) ≡ y = λ i. (key i, y.1) in
        rw (t, it) (elim (cmp y q) as (λ r. cond (is_lt r) (find_in cmp q ys) (cond (is_eq r) (Some y) None) ≡ cond (is_eq r) (Some y) None) [
          | Less ↦ later
          | Equal ↦ refl
          | Greater ↦ refl
        ])
    | inr f ↦
        let later : find_in cmp q ys ≡ tied_with q (find R q.0 ys) = find_in-find q ys h.1 u.1 in
        rw f (elim (cmp y q) as (λ r. cmp y q ≡ r → cond (is_lt r) (find_in cmp q ys) (cond (is_eq r) (Some y) None) ≡ tied_with q (find R q.0 ys)) [
          | Less ↦ λ e. later
          | Equal ↦ λ e. let same : q.0 ≡ y.0 = sym (laws.tied y q e) in absurd (both_ways _ f (rw same (ap is_eq (tied_itself laws.keys y.0))))
          | Greater ↦ λ e. sym (none_there q y ys h.0 e)
        ] refl)
  ]

  -- ---- a list that is put in order

  in_order_both : (xs : List (K × V)) → Unlike R (λ (e : K × V). e.0) xs → ((q : K) → find R q (in_order cmp xs) ≡ find R q xs) × Unlike R (λ (e : K × V). e.0) (in_order cmp xs)
  in_order_both [] u = ((λ q. refl), tt)
  in_order_both (x ∷ xs) u =
      let earlier = in_order_both xs u.1 in
      let t : is_eq (R x.0 x.0) ≡ true = ap is_eq (tied_itself laws.keys x.0) in
      let none : find R x.0 (in_order cmp xs) ≡ None = earlier.0 x.0 ∙ none_like x.0 x xs t u.0 in
      let absent : lookup R (λ (e : K × V). e.0) (λ (e : K × V). e.1) x.0 (in_order cmp xs) ≡ None = lookup-find R x.0 (in_order cmp xs) ∙ none in
      ((λ q. sym (lookup-find R q (put_in cmp x (in_order cmp xs))) ∙ lookup-put_in laws q x (in_order cmp xs) absent ∙ ap (cond (is_eq (R q x.0)) (Some x.1)) (lookup-find R q (in_order cmp xs) ∙ earlier.0 q)), Unlike-put_in laws x (in_order cmp xs) absent earlier.1)

  -- a list in order in which the same is found by keys is that list
  pub is_in_order : (xs es : List (K × V)) → Ascends cmp xs → Unlike R (λ (e : K × V). e.0) xs → Unlike R (λ (e : K × V). e.0) es → ((q : K) → find R q xs ≡ find R q es) → xs ≡ in_order cmp es
  is_in_order xs es h u v f =
      let both = in_order_both es v in
      same_found laws.items xs (in_order cmp es) h (ascends-in_order laws.items es)
      (λ q. find_in-find q xs h u ∙ ap (tied_with q) (f q.0 ∙ sym (both.0 q.0)) ∙ sym (find_in-find q (in_order cmp es) (ascends-in_order laws.items es) both.1))

first : (a b : Bool) → T (a && b) → T a
first true b p = tt
first false b p = absurd p

second : (a b : Bool) → T (a && b) → T b
second true b p = p
second false b p = absurd p

-- the keys of a list in order differ
unequal : (r : Ordering) → T (is_lt r) → is_eq r ≡ false
unequal Less h = refl
unequal Equal h = absurd h
unequal Greater h = absurd h

module _ {K V : Type 0} (R : K → K → Ordering) where
  apart : (k : K) (es : List (K × V)) → T (below_all R k es) → AllByRecursion (λ (e : K × V). is_eq (R k e.0) ≡ false) es
  apart k [] h = tt
  apart k (e ∷ es) h = (unequal (R k e.0) (first _ _ h), apart k es (second _ _ h))

  pub unlike_sorted : (es : List (K × V)) → T (is_sorted R es) → Unlike R (λ (e : K × V). e.0) es
  unlike_sorted [] h = tt
  unlike_sorted (e ∷ es) h = (apart e.0 es (first _ _ h), unlike_sorted es (second _ _ h))
