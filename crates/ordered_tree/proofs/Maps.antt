-- What a change of a list in one order does to the map from keys to values that the list stands for.
use Rattle.std.proofs.Common.{◌≡◌, true, false, cond, List, [], ◌∷◌, map, Option, Some, None, refl, sym, ap, ◌∙◌, inl, inr}
use Rattle.std.specs.Option.{option_map}
use Rattle.std.specs.List.{AllByRecursion}
use Rattle.std.specs.Ordering.{is_lt, is_eq, ordering_reverse}
use Rattle.std.specs.Cmp.{IsTotalOrder}
use Rattle.std.specs.FinMap.{find, IsAntisymmetric}
use Rattle.std.specs.declared.cmp.Ordering.{Ordering}
use Rattle.std.specs.declared.cmp.Ordering.TheVariants.{Less, Equal}
use Rattle.std.proofs.lemmas.Bool.{both_ways, cases_Bool}
use Rattle.std.proofs.lemmas.Cmp.{tied_itself}
use Rattle.ordered_tree.specs.Orders.{Ascends, put_in, take_out, changed}
use Rattle.ordered_tree.proofs.Orders.{equal_from_is_eq, all_put_in, all_take_out, ascends-put_in, ascends-take_out}

-- each item's key differs from those of the later ones
abbrev pub Unlike : {X K : Type 0} → (K → K → Ordering) → (X → K) → List X → Type 0
Unlike R key [] = Unit {0}
Unlike R key (x ∷ xs) = AllByRecursion (λ y. is_eq (R (key x) (key y)) ≡ false) xs × Unlike R key xs

-- what is found at a key
abbrev pub lookup : {X K V : Type 0} → (K → K → Ordering) → (X → K) → (X → V) → K → List X → Option V
lookup R key val q xs = find R q (map (λ x. (key x, val x)) xs)

-- the key of what may be there
abbrev pub AtKey : {X K : Type 0} → (X → K) → K → Option X → Type 0
AtKey key k None = Unit {0}
AtKey key k (Some p) = key p ≡ k

-- the old and the new item of a change, if there are any, at a key
abbrev pub ChangeAt : Type 0 → Type 0 → Type 0
ChangeAt K X = K × (Option X × Option X)

-- as an entry of a map
abbrev pub change_entry : {X K V : Type 0} → (X → V) → ChangeAt K X → K × (Option V × Option V)
change_entry val e = (e.0, (option_map val e.1.0, option_map val e.1.1))

-- what stands at a key after it
abbrev pub after : {V : Type 0} → Option (Option V × Option V) → Option V → Option V
after None x = x
after (Some c) x = c.1

-- the list after several changes
abbrev pub all_changed : {X K : Type 0} → (X → X → Ordering) → List (ChangeAt K X) → List X → List X
all_changed cmp [] xs = xs
all_changed cmp (e ∷ es) xs = all_changed cmp es (changed cmp e.1.0 e.1.1 xs)

-- changes at different keys, where a list has there what they say
abbrev pub Begin : {X K V : Type 0} → (K → K → Ordering) → (X → K) → (X → V) → List X → List (ChangeAt K X) → Type 0
Begin R key val xs es = AllByRecursion (λ e. AtKey key e.0 e.1.0 × AtKey key e.0 e.1.1 × (lookup R key val e.0 xs ≡ option_map val e.1.0)) es

abbrev pub Apart : {K Y : Type 0} → (K → K → Ordering) → List (K × Y) → Type 0
Apart R [] = Unit {0}
Apart R (e ∷ es) = AllByRecursion (λ f. is_eq (R f.0 e.0) ≡ false) es × Apart R es

-- items are tied just where keys and values are equal
pub record Fits {X K V : Type 0} (R : K → K → Ordering) (cmp : X → X → Ordering) (key : X → K) (val : X → V) : Type 0 where
  pub keys : IsTotalOrder R
  pub exact : IsAntisymmetric R
  pub items : IsTotalOrder cmp
  pub tied : (x y : X) → cmp x y ≡ Equal → key x ≡ key y
  pub alike : (x y : X) → key x ≡ key y → val x ≡ val y → cmp x y ≡ Equal

module _ {X K V : Type 0} {R : K → K → Ordering} {cmp : X → X → Ordering} {key : X → K} {val : X → V} (laws : Fits R cmp key val) where
  same : (j k : K) → is_eq (R j k) ≡ true → j ≡ k
  same j k e = laws.exact j k (equal_from_is_eq (R j k) e)

  itself : (j k : K) → j ≡ k → is_eq (R j k) ≡ true
  itself j k e = rw e (ap is_eq (tied_itself laws.keys k))

  -- an item that has the key and the value that are found is tied
  meets : (old y : X) (ys : List X) → lookup R key val (key old) (y ∷ ys) ≡ Some (val old) → is_eq (R (key old) (key y)) ≡ true → cmp y old ≡ Equal
  meets old y ys h e = let v : Some (val y) ≡ Some (val old) = rw e at h in laws.alike y old (sym (same (key old) (key y) e)) (cc v)

  passes : (old y : X) (ys : List X) → lookup R key val (key old) (y ∷ ys) ≡ Some (val old) → is_eq (R (key old) (key y)) ≡ false → lookup R key val (key old) ys ≡ Some (val old)
  passes old y ys h e = rw e at h

  -- what is below each item is below the one found
  below_found : (old y : X) (ys : List X) → AllByRecursion (λ z. cmp y z ≡ Less) ys → lookup R key val (key old) ys ≡ Some (val old) → cmp y old ≡ Less
  below_found old y [] h e = cc
  below_found old y (z ∷ zs) h e = elim (cases_Bool (is_eq (R (key old) (key z)))) [
    | inl t ↦
        let tie : cmp z y ≡ cmp old y = laws.items.congr z old y (meets old z zs e t) in
        laws.items.antisymm y old ∙ ap ordering_reverse (sym tie) ∙ sym (laws.items.antisymm y z) ∙ h.0
    | inr f ↦ below_found old y zs h.1 (passes old z zs e f)
  ]

  none_found : (q : K) (y : X) (ys : List X) → is_eq (R q (key y)) ≡ true → AllByRecursion (λ z. is_eq (R (key y) (key z)) ≡ false) ys → lookup R key val q ys ≡ None
  none_found q y [] e h = refl
  none_found q y (z ∷ zs) e h =
      let as_key : is_eq (R q (key z)) ≡ false = ap (λ (k : K). is_eq (R k (key z))) (same q (key y) e) ∙ h.0 in
      rw as_key (none_found q y zs e h.1)

  -- taken out, an item is found no more, and the others are
  pub lookup-take_out : (q : K) (old : X) (xs : List X) → Ascends cmp xs → Unlike R key xs → lookup R key val (key old) xs ≡ Some (val old) → lookup R key val q (take_out cmp old xs) ≡ cond (is_eq (R q (key old))) None (lookup R key val q xs)
  lookup-take_out q old [] a u h = cc
  lookup-take_out q old (y ∷ ys) a u h = elim (cases_Bool (is_eq (R (key old) (key y)))) [
    | inl t ↦
        let tie : cmp y old ≡ Equal = meets old y ys h t in
        let one : key old ≡ key y = same (key old) (key y) t in
        rw (tie, one) (elim (cases_Bool (is_eq (R q (key y)))) [
          | inl e ↦ rw e (none_found q y ys e u.0)
          | inr e ↦ rw e refl
        ])
    | inr f ↦
        let less : cmp y old ≡ Less = below_found old y ys a.0 (passes old y ys h f) in
        let later = lookup-take_out q old ys a.1 u.1 (passes old y ys h f) in
        rw less (elim (cases_Bool (is_eq (R q (key y)))) [
          | inl e ↦
              let other : is_eq (R q (key old)) ≡ false = elim (cases_Bool (is_eq (R q (key old)))) [
                | inl both ↦ absurd (both_ways _ f (itself (key old) (key y) (sym (same q (key old) both) ∙ same q (key y) e)))
                | inr not ↦ not
              ] in
              rw (e, other) refl
          | inr e ↦ rw e later
        ])
  ]

  -- put in, an item is found, and the others as before
  pub lookup-put_in : (q : K) (new : X) (xs : List X) → lookup R key val (key new) xs ≡ None → lookup R key val q (put_in cmp new xs) ≡ cond (is_eq (R q (key new))) (Some (val new)) (lookup R key val q xs)
  lookup-put_in q new [] h = refl
  lookup-put_in q new (y ∷ ys) h =
      elim (cases_Bool (is_eq (R (key new) (key y)))) [
        | inl t ↦ let some : Some (val y) ≡ None = rw t at h in cc some
        | inr f ↦
            let none : lookup R key val (key new) ys ≡ None = rw f at h in
            elim (cases_Bool (is_lt (cmp y new))) [
              | inl l ↦ rw l (elim (cases_Bool (is_eq (R q (key y)))) [
                | inl e ↦
                    let other : is_eq (R q (key new)) ≡ false = elim (cases_Bool (is_eq (R q (key new)))) [
                      | inl both ↦ absurd (both_ways _ f (itself (key new) (key y) (sym (same q (key new) both) ∙ same q (key y) e)))
                      | inr not ↦ not
                    ] in
                    rw (e, other) refl
                | inr e ↦ rw e (lookup-put_in q new ys none)
              ])
              | inr l ↦
                  let other : is_eq (cmp y new) ≡ false = elim (cases_Bool (is_eq (cmp y new))) [
                    | inl e ↦ absurd (both_ways _ f (itself (key new) (key y) (sym (laws.tied y new (equal_from_is_eq (cmp y new) e)))))
                    | inr e ↦ e
                  ] in
                  rw (l, other) refl
            ]
      ]

  -- and the keys still differ
  put_apart : (new y : X) (xs : List X) → is_eq (R (key y) (key new)) ≡ false → AllByRecursion (λ z. is_eq (R (key y) (key z)) ≡ false) xs → AllByRecursion (λ z. is_eq (R (key y) (key z)) ≡ false) (put_in cmp new xs)
  put_apart new y xs p h = all_put_in cmp new (λ z. is_eq (R (key y) (key z)) ≡ false) xs p h

  turned : (j k : K) → is_eq (R j k) ≡ false → is_eq (R k j) ≡ false
  turned j k f = elim (cases_Bool (is_eq (R k j))) [
    | inl t ↦ absurd (both_ways _ f (itself j k (sym (same k j t))))
    | inr e ↦ e
  ]

  all_unlike : (new : X) (xs : List X) → lookup R key val (key new) xs ≡ None → AllByRecursion (λ z. is_eq (R (key new) (key z)) ≡ false) xs
  all_unlike new [] h = tt
  all_unlike new (y ∷ ys) h = elim (cases_Bool (is_eq (R (key new) (key y)))) [
    | inl t ↦ let some : Some (val y) ≡ None = rw t at h in cc some
    | inr f ↦ (f, all_unlike new ys (rw f at h))
  ]

  pub Unlike-put_in : (new : X) (xs : List X) → lookup R key val (key new) xs ≡ None → Unlike R key xs → Unlike R key (put_in cmp new xs)
  Unlike-put_in new [] h u = (tt, tt)
  Unlike-put_in new (y ∷ ys) h u =
      let apart = all_unlike new (y ∷ ys) h in
      let later : lookup R key val (key new) ys ≡ None = rw apart.0 at h in
      elim (cases_Bool (is_lt (cmp y new))) [
        | inl l ↦ rw l (put_apart new y ys (turned (key new) (key y) apart.0) u.0, Unlike-put_in new ys later u.1)
        | inr l ↦
            let other : is_eq (cmp y new) ≡ false = elim (cases_Bool (is_eq (cmp y new))) [
              | inl e ↦ absurd (both_ways _ apart.0 (itself (key new) (key y) (sym (laws.tied y new (equal_from_is_eq (cmp y new) e)))))
              | inr e ↦ e
            ] in
            rw (l, other) (apart, u)
      ]

  pub Unlike-take_out : (old : X) (xs : List X) → Unlike R key xs → Unlike R key (take_out cmp old xs)
  Unlike-take_out old [] u = tt
  Unlike-take_out old (y ∷ ys) u = elim (cases_Bool (is_lt (cmp y old))) [
    | inl l ↦ rw l (all_take_out cmp old (λ z. is_eq (R (key y) (key z)) ≡ false) ys u.0, Unlike-take_out old ys u.1)
    | inr l ↦ elim (cases_Bool (is_eq (cmp y old))) [
      | inl e ↦ rw (l, e) u.1
      | inr e ↦ rw (l, e) u
    ]
  ]

  -- one change at a key, where the list has there what the change says
  pub lookup-changed : (q k : K) (old new : Option X) (xs : List X) → Ascends cmp xs → Unlike R key xs → AtKey key k old → AtKey key k new → lookup R key val k xs ≡ option_map val old
      → lookup R key val q (changed cmp old new xs) ≡ cond (is_eq (R q k)) (option_map val new) (lookup R key val q xs)
  lookup-changed q k None None xs a u _ _ h = elim (cases_Bool (is_eq (R q k))) [
    | inl e ↦ rw e (ap (λ (j : K). lookup R key val j xs) (same q k e) ∙ h)
    | inr e ↦ rw e refl
  ]
  lookup-changed q k (Some p) None xs a u at _ h =
      let h' : lookup R key val (key p) xs ≡ Some (val p) = ap (λ (j : K). lookup R key val j xs) at ∙ h in
      lookup-take_out q p xs a u h' ∙ ap (λ (j : K). cond (is_eq (R q j)) None (lookup R key val q xs)) at
  lookup-changed q k None (Some n) xs a u _ at h =
      let h' : lookup R key val (key n) xs ≡ None = ap (λ (j : K). lookup R key val j xs) at ∙ h in
      lookup-put_in q n xs h' ∙ ap (λ (j : K). cond (is_eq (R q j)) (Some (val n)) (lookup R key val q xs)) at
  lookup-changed q k (Some p) (Some n) xs a u at to h =
      let ys = take_out cmp p xs in
      let h' : lookup R key val (key p) xs ≡ Some (val p) = ap (λ (j : K). lookup R key val j xs) at ∙ h in
      let gone : (j : K) → lookup R key val j ys ≡ cond (is_eq (R j k)) None (lookup R key val j xs) = λ j. lookup-take_out j p xs a u h' ∙ ap (λ (i : K). cond (is_eq (R j i)) None (lookup R key val j xs)) at in
      let empty : lookup R key val (key n) ys ≡ None = let t = itself (key n) k to in gone (key n) ∙ rw t refl in
      lookup-put_in q n ys empty ∙ ap (λ (j : K). cond (is_eq (R q j)) (Some (val n)) (lookup R key val q ys)) to
      ∙ elim (cases_Bool (is_eq (R q k))) [
        | inl e ↦ rw e refl
        | inr e ↦ rw e (gone q ∙ rw e refl)
      ]

  pub Unlike-changed : (k : K) (old new : Option X) (xs : List X) → Ascends cmp xs → Unlike R key xs → AtKey key k old → AtKey key k new → lookup R key val k xs ≡ option_map val old → Unlike R key (changed cmp old new xs)
  Unlike-changed k None None xs a u _ _ h = u
  Unlike-changed k (Some p) None xs a u _ _ h = Unlike-take_out p xs u
  Unlike-changed k None (Some n) xs a u _ to h = Unlike-put_in n xs (ap (λ (j : K). lookup R key val j xs) to ∙ h) u
  Unlike-changed k (Some p) (Some n) xs a u at to h =
      let gone = lookup-changed k k (Some p) None xs a u at tt h in
      let t = itself k k refl in
      Unlike-put_in n (take_out cmp p xs) (ap (λ (j : K). lookup R key val j (take_out cmp p xs)) to ∙ gone ∙ rw t refl) (Unlike-take_out p xs u)

  pub Ascends-changed : (old new : Option X) (xs : List X) → Ascends cmp xs → Ascends cmp (changed cmp old new xs)
  Ascends-changed None None xs a = a
  Ascends-changed (Some p) None xs a = ascends-take_out laws.items p xs a
  Ascends-changed None (Some n) xs a = ascends-put_in laws.items n xs a
  Ascends-changed (Some p) (Some n) xs a = ascends-put_in laws.items n (take_out cmp p xs) (ascends-take_out laws.items p xs a)

  find_apart : (q k : K) (es : List (ChangeAt K X)) → is_eq (R q k) ≡ true → AllByRecursion (λ f. is_eq (R f.0 k) ≡ false) es → find R q (map (change_entry val) es) ≡ None
  find_apart q k [] t h = refl
  find_apart q k (f ∷ es) t h = elim (cases_Bool (is_eq (R q f.0))) [
    | inl b ↦ absurd (both_ways _ h.0 (itself f.0 k (sym (same q f.0 b) ∙ same q k t)))
    | inr n ↦ rw n (find_apart q k es t h.1)
  ]

  still_begin : (k : K) (c : Option X × Option X) (xs : List X) (es : List (ChangeAt K X)) → ((q : K) → lookup R key val q (changed cmp c.0 c.1 xs) ≡ cond (is_eq (R q k)) (option_map val c.1) (lookup R key val q xs)) → AllByRecursion (λ f. is_eq (R f.0 k) ≡ false) es → Begin R key val xs es → Begin R key val (changed cmp c.0 c.1 xs) es
  still_begin k c xs [] f apart b = tt
  still_begin k c xs (e ∷ es) f apart b = let n = apart.0 in ((b.0.0, b.0.1, f e.0 ∙ rw n b.0.2), still_begin k c xs es f apart.1 b.1)

  -- after the first of several changes, the list has what the others say
  pub Begin-changed : (e : ChangeAt K X) (es : List (ChangeAt K X)) (xs : List X) → Ascends cmp xs → Unlike R key xs → Apart R (e ∷ es) → Begin R key val xs (e ∷ es) → Begin R key val (changed cmp e.1.0 e.1.1 xs) es
  Begin-changed e es xs a u apart b = still_begin e.0 e.1 xs es (λ j. lookup-changed j e.0 e.1.0 e.1.1 xs a u b.0.0 b.0.1 b.0.2) apart.0 b.1

  -- several changes at different keys leave at each key what the changes as a map say
  pub lookup-all_changed : (q : K) (es : List (ChangeAt K X)) (xs : List X) → Ascends cmp xs → Unlike R key xs → Apart R es → Begin R key val xs es
      → lookup R key val q (all_changed cmp es xs) ≡ after (find R q (map (change_entry val) es)) (lookup R key val q xs)
  lookup-all_changed q [] xs a u apart b = refl
  lookup-all_changed q (e ∷ es) xs a u apart b =
      let step : (j : K) → lookup R key val j (changed cmp e.1.0 e.1.1 xs) ≡ cond (is_eq (R j e.0)) (option_map val e.1.1) (lookup R key val j xs) = λ j. lookup-changed j e.0 e.1.0 e.1.1 xs a u b.0.0 b.0.1 b.0.2 in
      let later = lookup-all_changed q es (changed cmp e.1.0 e.1.1 xs) (Ascends-changed e.1.0 e.1.1 xs a) (Unlike-changed e.0 e.1.0 e.1.1 xs a u b.0.0 b.0.1 b.0.2) apart.1 (still_begin e.0 e.1 xs es step apart.0 b.1) in
      later ∙ elim (cases_Bool (is_eq (R q e.0))) [
        | inl t ↦ let none = find_apart q e.0 es t apart.0 in rw (t, none) (step q ∙ rw t refl)
        | inr f ↦ rw f (ap (after (find R q (map (change_entry val) es))) (step q ∙ rw f refl))
      ]
