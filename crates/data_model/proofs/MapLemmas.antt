-- What a map has at a key.
use Rattle.std.proofs.lemmas.List.{length-map}
use Rattle.std.proofs.Common.{◌+◌, ◌≤◌, suc, length, arith, ◌≡◌, List, [], ◌∷◌, ◌++◌, map, Option, Some, None, Bool, true, false, cond, sym, ◌∙◌, ap, refl, ◌||◌, option_and_then, option_map}
use Rattle.std.specs.Prelude.{is_some}
use Rattle.std.specs.Bool.{then_some}
use Rattle.std.specs.Option.{option_or, option_zip}
use Rattle.std.specs.List.{filter_map, cons_option}
use Rattle.std.specs.declared.cmp.Ordering.{Ordering}
use Rattle.std.specs.declared.cmp.Ordering.TheVariants.{Less, Equal, Greater}
use Rattle.std.specs.Ordering.{is_eq, eq_by_cmp}
use Rattle.std.specs.Cmp.{IsTotalOrder, tied_itself}
use Rattle.std.specs.FinMap.{entries, from_entries, insert, len, len-empty, len-entries, len-insert, FinMap, get, keys, empty, retain_keys, find, IsAntisymmetric, get-insert, get-remove, get-empty, get-from_entries, get-retain_keys, same_map, contains_key-keys}
use Rattle.std.proofs.lemmas.List.Folds.{list_any-append}
use Rattle.data_model.specs.Maps.{is_listed, if_passes, put, made_at, key_by_key, filtered, combined, union, leftmost, union_all, matched}

pub equal : (r : Ordering) → is_eq r ≡ true → r ≡ Equal
equal Less p = cc
equal Equal p = refl
equal Greater p = cc

pub none_there : {X : Type 0} (x : Option X) → is_some x ≡ false → x ≡ None
none_there None h = refl
none_there (Some x) h = cc

pub neither : (a b : Bool) → (a || b) ≡ false → (a ≡ false) × (b ≡ false)
neither true b h = cc
neither false b h = (refl, h)

-- a value that is none where the test fails
where_passed : {X : Type 0} (b : Bool) (x : Option X) → (b ≡ false → x ≡ None) → cond b x None ≡ x
where_passed true x h = refl
where_passed false x h = sym (h refl)

module _ {K : Type 0} {R : K → K → Ordering} (o : IsTotalOrder R) where
  pub get-put : {X : Type 0} (k : K) (v : Option X) (m : FinMap R X) (q : K) → get (put k v m) q ≡ cond (eq_by_cmp R q k) v (get m q)
  get-put k None m q = get-remove o m k q
  get-put k (Some x) m q = get-insert o m k x q

  pub tied_to_itself : (k : K) → eq_by_cmp R k k ≡ true
  tied_to_itself k = ap is_eq (tied_itself o k)

  -- the keys are listed that have a point
  pub is_listed-keys : {X : Type 0} (m : FinMap R X) (q : K) → is_listed R (keys m) q ≡ is_some (get m q)
  is_listed-keys m q = sym (contains_key-keys m q)

  -- a key that isn't listed has no point
  pub get-unlisted : {X : Type 0} (m : FinMap R X) (q : K) → is_listed R (keys m) q ≡ false → get m q ≡ None
  get-unlisted m q h = none_there (get m q) (contains_key-keys m q ∙ h)

-- a value that is found, or found again later
found_again : {X : Type 0} (l : Bool) (v : Option X) → option_or v (cond l v None) ≡ v
found_again true None = refl
found_again false None = refl
found_again l (Some x) = refl

first_found : {X : Type 0} (b l : Bool) (v w : Option X) → (b ≡ true → v ≡ w) → cond b (option_or w (cond l v None)) (cond l v None) ≡ cond (b || l) v None
first_found true l v w e = ap (λ u. option_or u (cond l v None)) (sym (e refl)) ∙ found_again l v
first_found false l v w e = refl

module _ {K : Type 0} {R : K → K → Ordering} (o : IsTotalOrder R) (same : IsAntisymmetric R) where
  -- keys that tie are equal
  pub tied : (q k : K) → eq_by_cmp R q k ≡ true → q ≡ k
  tied q k e = same q k (equal (R q k) e)

  find-cons_option : {X : Type 0} (k : K) (v : Option X) (es : List (K × X)) (q : K) → find R q (cons_option (option_map (λ x. (k, x)) v) es) ≡ cond (eq_by_cmp R q k) (option_or v (find R q es)) (find R q es)
  find-cons_option k None es q = elim (eq_by_cmp R q k) as (λ b. find R q es ≡ cond b (find R q es) (find R q es)) [ true ↦ refl | false ↦ refl ]
  find-cons_option k (Some x) es q = refl

  find-made_at : {X : Type 0} (ks : List K) (f : K → Option X) (q : K) → find R q (filter_map (λ k. option_map (λ x. (k, x)) (f k)) ks) ≡ cond (is_listed R ks q) (f q) None
  find-made_at [] f q = refl
  find-made_at {X = X} (k ∷ ks) f q =
      find-cons_option k (f k) _ q
      ∙ ap (λ (r : Option X). cond (eq_by_cmp R q k) (option_or (f k) r) r) (find-made_at ks f q)
      ∙ first_found (eq_by_cmp R q k) (is_listed R ks q) (f q) (f k) (λ here. ap f (tied q k here))

  -- the value of f, at the keys that are listed
  pub get-made_at : {X : Type 0} (ks : List K) (f : K → Option X) (q : K) → get (made_at {R = R} ks f) q ≡ cond (is_listed R ks q) (f q) None
  unfolding made_at
  get-made_at ks f q = get-from_entries o _ q ∙ find-made_at ks f q

  -- the value of f, where it has none at other keys
  pub get-made_at_all : {X : Type 0} (ks : List K) (f : K → Option X) → ((k : K) → is_listed R ks k ≡ false → f k ≡ None) → (q : K) → get (made_at {R = R} ks f) q ≡ f q
  get-made_at_all ks f none q = get-made_at ks f q ∙ where_passed (is_listed R ks q) (f q) (none q)

  -- what f makes of the value there
  pub get-key_by_key : {X Y : Type 0} (f : K → X → Option Y) (m : FinMap R X) (q : K) → get (key_by_key f m) q ≡ option_and_then (f q) (get m q)
  unfolding key_by_key
  get-key_by_key f m q = get-made_at_all (keys m) (λ k. option_and_then (f k) (get m k)) (λ k h. ap (option_and_then (f k)) (get-unlisted o m k h)) q

  -- the value there, if it passes
  pub get-filtered : {X : Type 0} (p : K → X → Bool) (m : FinMap R X) (q : K) → get (filtered p m) q ≡ if_passes (p q) (get m q)
  get-filtered p m q = get-key_by_key (λ k x. then_some (p k x) x) m q

  -- what f makes of the two values there
  pub get-combined : {X Y Z : Type 0} (f : K → Option X → Option Y → Option Z) (m : FinMap R X) (n : FinMap R Y) → ((k : K) → f k None None ≡ None) → (q : K) → get (combined f m n) q ≡ f q (get m q) (get n q)
  unfolding combined
  get-combined f m n none q = get-made_at_all (keys m ++ keys n) (λ k. f k (get m k) (get n k)) (λ k h.
      let apart = neither _ _ (sym (list_any-append (eq_by_cmp R k) (keys m) (keys n)) ∙ h) in
      ap (λ x. f k x (get n k)) (get-unlisted o m k apart.0) ∙ ap (f k None) (get-unlisted o n k apart.1) ∙ none k) q

  -- the leftmost value there
  pub get-union : {X : Type 0} (m n : FinMap R X) (q : K) → get (union m n) q ≡ option_or (get m q) (get n q)
  get-union m n q = get-combined (λ k. option_or) m n (λ k. refl) q

  pub get-union_all : {X : Type 0} (ms : List (FinMap R X)) (q : K) → get (union_all ms) q ≡ leftmost (map (λ m. get m q) ms)
  get-union_all [] q = get-empty R q
  get-union_all (m ∷ ms) q = get-union m (union_all ms) q ∙ ap (option_or (get m q)) (get-union_all ms q)

  -- the values of both there
  pub get-matched : {X Y : Type 0} (m : FinMap R X) (n : FinMap R Y) (q : K) → get (matched m n) q ≡ option_zip (get m q) (get n q)
  get-matched m n q = get-combined (λ k. option_zip) m n (λ k. refl) q

  -- the value there, if the key passes
  pub get-part : {X : Type 0} (p : K → Bool) (m : FinMap R X) (q : K) → get (retain_keys m p) q ≡ cond (p q) (get m q) None
  get-part p m q = get-retain_keys m p q (λ x t. ap p (sym (same q x t)))

  -- where f makes nothing of nothing, an operator on an empty map gives an empty one
  pub key_by_key-empty : {X Y : Type 0} (f : K → X → Option Y) → key_by_key f (empty {X = X} {R = R}) ≡ empty
  key_by_key-empty f = same_map o same _ _ (λ q. get-key_by_key f empty q ∙ ap (option_and_then (f q)) (get-empty R q) ∙ sym (get-empty R q))

-- ---- empty maps, and how many points there are

no_length : {A : Type 0} (xs : List A) → length xs ≡ 0 → xs ≡ []
no_length [] e = refl
no_length (x ∷ xs) e = absurd (omega arith)

-- an empty map has no keys
pub keys-empty : {K : Type 0} (R : K → K → Ordering) (X : Type 0) → keys (empty {X = X} {R = R}) ≡ []
keys-empty R X = ap (map (λ e. e.0)) (no_length (entries (empty {X = X} {R = R})) (sym (len-entries (empty {X = X} {R = R})) ∙ len-empty R X))

-- with no keys the map is empty
pub made_at-nothing : {K X : Type 0} (R : K → K → Ordering) (f : K → Option X) → made_at {R = R} [] f ≡ empty
unfolding made_at
made_at-nothing R f = refl

module _ {K X : Type 0} {R : K → K → Ordering} (o : IsTotalOrder R) where
  len-insert-le : (m : FinMap R X) (k : K) (x : X) → len (insert m k x) ≤ len m + 1
  len-insert-le m k x = rw (len-insert o m k x) (elim (is_some (get m k)) as (λ b. cond b (len m) (len m + 1) ≤ len m + 1) [ true ↦ omega arith | false ↦ omega arith ])

  len-of_options : (ks : List K) (f : K → Option X) → len (from_entries {R = R} (filter_map (λ k. option_map (λ x. (k, x)) (f k)) ks)) ≤ length ks
  len-of_options [] f = rw (len-empty R X) (omega arith)
  len-of_options (k ∷ ks) f = let rest = len-of_options ks f in elim (f k) as (λ (v : Option X). len (from_entries {R = R} (cons_option (option_map (λ x. (k, x)) v) (filter_map (λ k. option_map (λ x. (k, x)) (f k)) ks))) ≤ suc (length ks)) [
    | None ↦ omega (arith, rest)
    | Some x ↦ let more = len-insert-le (from_entries {R = R} (filter_map (λ k. option_map (λ x. (k, x)) (f k)) ks)) k x in omega (arith, rest, more)
  ]

  -- there are no more points than keys
  pub len-made_at : (ks : List K) (f : K → Option X) → len (made_at {R = R} ks f) ≤ length ks
  unfolding made_at
  len-made_at ks f = len-of_options ks f

-- what is made of a map key by key has no more points
pub len-key_by_key : {K X Y : Type 0} {R : K → K → Ordering} → IsTotalOrder R → (f : K → X → Option Y) (m : FinMap R X) → len (key_by_key f m) ≤ len m
unfolding key_by_key
len-key_by_key {X = X} {Y = Y} o f m = let few = len-made_at {X = Y} o (keys m) (λ k. option_and_then (f k) (get m k)) in let same = length-map (entries m) (λ (e : _ × X). e.0) in let all = len-entries m in omega (arith, few, same, all)
