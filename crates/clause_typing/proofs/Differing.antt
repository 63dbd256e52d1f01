-- A walk that looks each item up among those before it, by a key, tells whether no two items are the same.
use Rattle.std.proofs.Common.{◌≡◌, refl, ℕ, ◌+◌, ◌<◌, ◌≤◌, Bool, true, false, not, ◌&&◌, ◌||◌, List, [], ◌∷◌, ◌++◌, length, get_or, map, take, drop, ap, sym, ◌∙◌, if◌then◌else◌}
use Rattle.std.specs.List.{list_any}
use Rattle.std.proofs.lemmas.List.{take_more, take_all, take-append-drop, map-append}
use Rattle.std.proofs.lemmas.List.Folds.{list_any-append}
use Rattle.indexmap.specs.IndexSet.{insert_key}
use Rattle.data_set_trees.specs.clauses.Clauses.{all_differ}

-- items are the same where what tells them apart is, and so are the keys that look at it
pub record IsKeyed {A K V : Type 0} (same : A → A → Bool) (eq : K → K → Bool) (key : A → V) (look : K → V) : Type 0 where
  pub test : V → V → Bool
  pub items : (x y : A) → same x y ≡ test (key x) (key y)
  pub keys : (a b : K) → eq a b ≡ test (look a) (look b)
  pub flips : (u v : V) → test u v ≡ test v u

join : (a b d p q : Bool) → p ≡ q → (not (a || (p || false)) && (d && not b)) ≡ ((not a && d) && not (q || b))
join true b d p q e = refl
join false b true true q e = rw (← e) refl
join false b true false q e = rw (← e) refl
join false b false true q e = refl
join false b false false q e = refl

spoilt : (a b d e : Bool) → (not a && d) ≡ false → (d ≡ false → e ≡ false) → (not (a || b) && e) ≡ false
spoilt true b d e h later = refl
spoilt false true d e h later = refl
spoilt false false d e h later = later h

no_other : (b : Bool) → not b ≡ true → b ≡ false
no_other true h = sym h
no_other false h = refl

module _ {A : Type 0} (same : A → A → Bool) where
  -- one item more
  all_differ-push : ((x y : A) → same x y ≡ same y x) → (xs : List A) (x : A) → all_differ same (xs ++ x ∷ []) ≡ (all_differ same xs && not (list_any (same x) xs))
  all_differ-push flips [] x = refl
  all_differ-push flips (y ∷ ys) x =
      rw (list_any-append (same y) ys (x ∷ []), all_differ-push flips ys x)
      (join (list_any (same y) ys) (list_any (same x) ys) (all_differ same ys) (same y x) (same x y) (flips y x))

  -- after two that are the same nothing tells the items apart
  all_differ-append : (xs ys : List A) → all_differ same xs ≡ false → all_differ same (xs ++ ys) ≡ false
  all_differ-append [] ys h = cc
  all_differ-append (x ∷ xs) ys h =
      rw (list_any-append (same x) xs ys)
      (spoilt (list_any (same x) xs) (list_any (same x) ys) (all_differ same xs) (all_differ same (xs ++ ys)) h (all_differ-append xs ys))

list_any-map : {A V : Type 0} (test : V → Bool) (key : A → V) (given : A → Bool) → ((x : A) → given x ≡ test (key x)) → (xs : List A) → list_any given xs ≡ list_any test (map key xs)
list_any-map test key given is [] = refl
list_any-map test key given is (x ∷ xs) = (λ i. is x i || list_any-map test key given is xs i)

-- the keys are those of the first items, of which no two are the same
abbrev pub Seen : {A K V : Type 0} → (A → A → Bool) → (A → V) → (K → V) → List A → ℕ → List K → Type 0
Seen same key look xs n ks = (map look ks ≡ map key (take n xs)) × (all_differ same (take n xs) ≡ true)

module _ {A K V : Type 0} {same : A → A → Bool} {eq : K → K → Bool} {key : A → V} {look : K → V} where
  -- a key is found where its item is
  found : IsKeyed same eq key look → (ks : List K) (xs : List A) (k : K) (x : A) → look k ≡ key x → map look ks ≡ map key xs → list_any (eq k) ks ≡ list_any (same x) xs
  found keyed ks xs k x is seen =
      list_any-map (keyed.test (look k)) look (eq k) (keyed.keys k) ks
      ∙ (λ i. list_any (keyed.test (is i)) (seen i))
      ∙ sym (list_any-map (keyed.test (key x)) key (same x) (keyed.items x) xs)

  -- the next item and its key, and whether the key is a new one
  pub record Next (keyed : IsKeyed same eq key look) (xs : List A) (n : ℕ) (ks : List K) (x : A) (k : K) (new : Bool) : Type 0 where
    pub within : n < length xs
    pub item : x ≡ get_or xs n x
    pub key_is : look k ≡ key x
    pub seen : Seen same key look xs n ks
    pub tells : new ≡ not (list_any (eq k) ks)

  module _ {keyed : IsKeyed same eq key look} {xs : List A} {n : ℕ} {ks : List K} {x : A} {k : K} {new : Bool} (next : Next keyed xs n ks x k new) where
    flips : (a b : A) → same a b ≡ same b a
    flips a b = keyed.items a b ∙ keyed.flips (key a) (key b) ∙ sym (keyed.items b a)

    pushed : take (n + 1) xs ≡ take n xs ++ x ∷ []
    pushed = take_more xs n x next.within ∙ ap (λ (y : A). take n xs ++ y ∷ []) (sym next.item)

    told : all_differ same (take (n + 1) xs) ≡ new
    told =
        ap (all_differ same) pushed
        ∙ all_differ-push same flips (take n xs) x
        ∙ ap (λ (b : Bool). b && not (list_any (same x) (take n xs))) next.seen.1
        ∙ ap not (sym (found keyed ks (take n xs) k x next.key_is next.seen.0))
        ∙ sym next.tells

    -- a key that was there tells that two items are the same
    pub repeated : new ≡ false → false ≡ all_differ same xs
    repeated old = sym (ap (all_differ same) (sym (take-append-drop (n + 1) xs)) ∙ all_differ-append same (take (n + 1) xs) (drop (n + 1) xs) (told ∙ old))

    -- a new one is one more
    pub one_more : {after : List K} → new ≡ true → after ≡ insert_key eq ks k → Seen same key look xs (n + 1) after
    one_more {after} is put =
        let last : after ≡ ks ++ k ∷ [] = put ∙ ap (λ (b : Bool). if b then ks else ks ++ k ∷ []) (no_other (list_any (eq k) ks) (sym next.tells ∙ is)) in (
          ap (map look) last ∙ map-append look ks (k ∷ []) ∙ (λ i. next.seen.0 i ++ next.key_is i ∷ []) ∙ sym (map-append key (take n xs) (x ∷ [])) ∙ ap (map key) (sym pushed),
          told ∙ is,
        )

-- all items have been seen
pub all_seen : {A K V : Type 0} (same : A → A → Bool) (key : A → V) (look : K → V) (xs : List A) (n : ℕ) (ks : List K) → length xs ≤ n → Seen same key look xs n ks → true ≡ all_differ same xs
all_seen same key look xs n ks all seen = sym (ap (all_differ same) (sym (take_all n xs all)) ∙ seen.1)
