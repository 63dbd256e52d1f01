-- Journals, their beginnings, and the entries of one number.
use Rattle.std.proofs.Common.{◌≡◌, ◌≢◌, ◌==◌, ℕ, ◌≤◌, List, [], ◌∷◌, ◌++◌, length, drop, Bool, true, false, cond, refl, sym, ap, subst, ◌∙◌, append_assoc, arith, length-append, filter, All}
use Rattle.std.specs.List.{AllByRecursion}
use Rattle.std.proofs.lemmas.List.{append-nil, nil_from_length}
use Rattle.std.proofs.lemmas.List.Elements.{filter-append, recursion_from_All}
use Rattle.std.proofs.lemmas.List.Prefix.{front_rest}
use Rattle.std.proofs.lemmas.Bool.Decides.{nat_tests}
use Rattle.turn_lock.specs.Calls.{last_number, StartsWith, own_calls}

module _ {E : Type 0} where
  pub starts_nil : (a : List E) → StartsWith a []
  starts_nil a = (a, refl)

  pub starts_same : (a : List E) → StartsWith a a
  starts_same a = ([], sym (append-nil a))

  pub starts_along : (a b c : List E) → StartsWith b a → StartsWith c b → StartsWith c a
  starts_along a b c p q = (p.0 ++ q.0, q.1 ∙ ap (λ l. l ++ q.0) p.1 ∙ append_assoc a p.0 q.0)

  -- of two beginnings of one list, one that is no longer begins the other
  compared : (a b r t : List E) → a ++ r ≡ b ++ t → length a ≤ length b → StartsWith b a
  compared [] b r t e h = (b, refl)
  compared (x ∷ a) [] r t e h = absurd (omega arith)
  compared (x ∷ a) (y ∷ b) r t e h =
      let tails : a ++ r ≡ b ++ t = cc in
      let k = compared a b r t tails (omega arith) in
      let heads : x ≡ y = cc in
      (k.0, (λ i. sym heads i ∷ k.1 i))

  pub starts_compared : (log a b : List E) → StartsWith log a → StartsWith log b → length a ≤ length b → StartsWith b a
  starts_compared log a b p q h = compared a b p.0 q.0 (sym p.1 ∙ q.1) h

  -- the rest after a beginning
  pub rest_is : (log a : List E) (p : StartsWith log a) → drop (length a) log ≡ p.0
  rest_is log a p = front_rest log a p.0 p.1

  pub starts_drop : (log a : List E) → StartsWith log a → log ≡ a ++ drop (length a) log
  starts_drop log a p = p.1 ∙ ap (λ l. a ++ l) (sym (rest_is log a p))

module _ {E : Type 0} (p : E → Bool) where
  -- what a test keeps of a list and of a beginning of it are one list only if the rest has none of it
  pub rest_has_none : (a r : List E) → filter p (a ++ r) ≡ filter p a → filter p r ≡ []
  rest_has_none a r e = nil_from_length (filter p r) (omega (arith, ap length (sym (filter-append p a r) ∙ e), length-append (filter p a) (filter p r)))

  pub between : (a b log l : List E) → StartsWith b a → StartsWith log b → filter p a ≡ l → filter p log ≡ l → filter p b ≡ l
  between a b log l u v x y =
      let whole : StartsWith log a = starts_along a b log u v in
      let f = filter-append p a u.0 in
      let g = filter-append p b v.0 in
      let fb : filter p b ≡ filter p a ++ filter p u.0 = ap (filter p) u.1 ∙ f in
      let fj : filter p log ≡ filter p b ++ filter p v.0 = ap (filter p) v.1 ∙ g in
      let none : filter p u.0 ≡ [] = nil_from_length (filter p u.0) (omega (arith, ap length fb, ap length fj, ap length x, ap length y, length-append (filter p a) (filter p u.0), length-append (filter p b) (filter p v.0))) in
      fb ∙ ap (λ k. filter p a ++ k) none ∙ append-nil (filter p a) ∙ x

  -- a beginning of a list that a test passes nowhere passes it nowhere
  pub beginning_has_none : (log a : List E) → StartsWith log a → filter p log ≡ [] → filter p a ≡ []
  beginning_has_none log a u e =
      let fj : filter p log ≡ filter p a ++ filter p u.0 = ap (filter p) u.1 ∙ filter-append p a u.0 in
      nil_from_length (filter p a) (omega (arith, ap length fj, ap length e, length-append (filter p a) (filter p u.0)))

  all_pass : (l : List E) → AllByRecursion (λ e. p e ≡ true) l → filter p l ≡ l
  all_pass [] h = refl
  all_pass (x ∷ l) h = rw h.0 (ap (λ k. x ∷ k) (all_pass l h.1))

  none_pass : (l : List E) → AllByRecursion (λ e. p e ≡ false) l → filter p l ≡ []
  none_pass [] h = refl
  none_pass (x ∷ l) h = rw h.0 (none_pass l h.1)

module _ {E : Type 0} (caller_of : E → ℕ) where
  by_one : (m n : ℕ) (l : List E) → AllByRecursion (λ e. caller_of e ≡ m) l → m ≢ n → AllByRecursion (λ e. (caller_of e == n) ≡ false) l
  by_one m n [] h other = tt
  by_one m n (x ∷ l) h other = (rw h.0 (grind (arith, nat_tests)), by_one m n l h.1 other)

  by_this : (m : ℕ) (l : List E) → AllByRecursion (λ e. caller_of e ≡ m) l → AllByRecursion (λ e. (caller_of e == m) ≡ true) l
  by_this m [] h = tt
  by_this m (x ∷ l) h = (rw h.0 (grind (arith, nat_tests)), by_this m l h.1)

  -- entries of one number are all its own calls, and none of another's
  pub own_calls-own : (m : ℕ) (l : List E) → All (λ e. caller_of e ≡ m) l → own_calls caller_of m l ≡ l
  own_calls-own m l h = all_pass (λ e. caller_of e == m) l (by_this m l (recursion_from_All (λ e. caller_of e ≡ m) l h))

  pub own_calls-other : (m n : ℕ) (l : List E) → All (λ e. caller_of e ≡ m) l → m ≢ n → own_calls caller_of n l ≡ []
  own_calls-other m n l h other = none_pass (λ e. caller_of e == n) l (by_one m n l (recursion_from_All (λ e. caller_of e ≡ m) l h) other)

  pub own_calls-append : (n : ℕ) (a b : List E) → own_calls caller_of n (a ++ b) ≡ own_calls caller_of n a ++ own_calls caller_of n b
  own_calls-append n a b = filter-append (λ e. caller_of e == n) a b

  -- where each number has its entries in a beginning already, there is no entry after it
  pub nothing_behind : (a r : List E) → AllByRecursion (λ e. caller_of e ≤ last_number) r → ((n : ℕ) → n ≤ last_number → own_calls caller_of n (a ++ r) ≡ own_calls caller_of n a) → r ≡ []
  nothing_behind a [] h same = refl
  nothing_behind a (x ∷ r) h same =
      let none : own_calls caller_of (caller_of x) (x ∷ r) ≡ [] = rest_has_none (λ e. caller_of e == caller_of x) a (x ∷ r) (same (caller_of x) h.0) in
      let here : (caller_of x == caller_of x) ≡ true = grind (arith, nat_tests) in
      let some : x ∷ own_calls caller_of (caller_of x) r ≡ [] = subst (λ b. cond b (x ∷ own_calls caller_of (caller_of x) r) (own_calls caller_of (caller_of x) r) ≡ []) here none in
      cc
