-- The points of a part, and which keys of the first operand are met.
use Rattle.std.proofs.Common.{◌≡◌, ℕ, suc, ◌+◌, List, [], ◌∷◌, map, length, get_or, Bool, true, false, ◌||◌, cond, Option, Some, None, IfSome, nat_lt, T, refl, sym, ap, subst, ◌∙◌, inl, inr, arith}
use Rattle.std.specs.Prelude.{filter}
use Rattle.std.specs.List.{All, AllByRecursion, count_by, list_any}
use Rattle.std.specs.Cmp.{IsTotalOrder}
use Rattle.std.specs.Prelude.{◌&&◌}
use Rattle.std.specs.Ordering.{eq_by_cmp, is_lt, is_eq, ordering_reverse}
use Rattle.std.specs.declared.cmp.Ordering.{Ordering}
use Rattle.std.specs.declared.cmp.Ordering.TheVariants.{Less, Equal, Greater}
use Rattle.std.specs.FinMap.{FinMap, IsAntisymmetric, entries, entries_sorted, entries-from_sorted, from_sorted, get, get-entries, get-from_sorted, is_sorted, keys, len, len-entries, same_map, values}
use Rattle.std.specs.FinMap.Entries.{below_all, where_key, is_sorted-where_key, find-where_key}
use Rattle.std.proofs.lemmas.Bool.{cases_Bool}
use Rattle.std.proofs.lemmas.Bool.Decides.{nat_tests}
use Rattle.std.proofs.lemmas.List.Elements.{All-head, All-tail, All-map}
use Rattle.std.proofs.lemmas.Slice.Zip.{AllZip-long}
use Rattle.vtl_values.specs.Structures.{IsStructure}
use Rattle.vtl_values.specs.declared.structure.Component.{Component}
use Rattle.vtl_values.specs.declared.value.Value.{Value}
use Rattle.vtl_values.specs.Order.{key_cmp}
use Rattle.vtl_values.proofs.Values.{key_cmp-IsTotalOrder, key_cmp-IsAntisymmetric}
use Rattle.data_model.specs.Deltas.{Pair, DeltaOf, BeginsAt, after, apply, is_gain, is_loss}
use Rattle.data_model.proofs.DeltaLemmas.{get-apply, len-apply}
use Rattle.data_model.proofs.EntryLemmas.{find-get_or}
use Rattle.ordered_tree.specs.Orders.{Ascends, in_order, put_in}
use Rattle.point_sets.specs.DataSets.{DataSet}
use Rattle.point_sets.specs.Changes.{Changes}
use Rattle.structured_sets.specs.Fitting as fitting
use Rattle.structured_sets.specs.Fitting.{FitsIdentifier, IsPointOf, IsSetOf}
use Rattle.clause_meaning.proofs.ByRole.{of-identifiers}
use Rattle.data_set_trees.specs.Components.{identifiers}
use Rattle.held_index.specs.Holdings.{part_of}
use Rattle.held_index.specs.WalkLaws.{place_cmp-IsTotalOrder}
use Rattle.held_index.specs.Walks.{PointValues, part_key, place_cmp}
use Rattle.held_index.specs.Wants.{in_parts}
use Rattle.operator_meaning.specs.pairs.Pairs.{key_between}
use Rattle.operator_meaning.specs.exists.Exists.{ExistsOn, common, right_values, is_met}
use Rattle.operator_meaning.specs.exists.Typed.{IsTypedExistsOn}
use Rattle.exists_ops.specs.Parts.{numbers_in, left_numbers, right_want, key_part, is_in, shift_in, has_part, has_part_after}
use Rattle.exists_ops.proofs.NumberLemmas.{part-values, same-part}

-- ---- lists in order

module _ {X : Type 0} {cmp : X → X → Ordering} (o : IsTotalOrder cmp) where
  first-put : (x : X) (xs : List X) → AllByRecursion (λ y. cmp x y ≡ Less) xs → put_in cmp x xs ≡ x ∷ xs
  first-put x [] h = refl
  first-put x (y ∷ ys) h = let above : cmp y x ≡ Greater = o.antisymm y x ∙ ap ordering_reverse h.0 in ap (λ r. cond (is_lt r) (y ∷ put_in cmp x ys) (x ∷ cond (is_eq r) ys (y ∷ ys))) above

  -- a list in order stays as it is
  in_order-same : (xs : List X) → Ascends cmp xs → in_order cmp xs ≡ xs
  in_order-same [] h = refl
  in_order-same (x ∷ xs) h = ap (put_in cmp x) (in_order-same xs h.1) ∙ first-put x xs h.0

both-true : (a b : Bool) → T (a && b) → T a × T b
both-true true b h = (tt, h)
both-true false b h = absurd h

less : (r : Ordering) → T (is_lt r) → r ≡ Less
less Less h = refl
less Equal h = absurd h
less Greater h = absurd h

-- so are the entries of a data set, by their keys
module _ (n : ℕ) (numbers : List ℕ) where
  abbrev by_key : PointValues → PointValues → Ordering
  by_key = place_cmp (in_parts n numbers)

  below-each : (p : PointValues) (ps : List PointValues) → T (below_all key_cmp p.0 ps) → AllByRecursion (λ q. by_key p q ≡ Less) ps
  below-each p [] h = tt
  below-each p (q ∷ qs) h = let parts = both-true (is_lt (key_cmp p.0 q.0)) (below_all key_cmp p.0 qs) h in (less (key_cmp p.0 q.0) parts.0, below-each p qs parts.1)

  sorted-ascends : (ps : List PointValues) → T (is_sorted key_cmp ps) → Ascends by_key ps
  sorted-ascends [] h = tt
  sorted-ascends (p ∷ ps) h = let parts = both-true (below_all key_cmp p.0 ps) (is_sorted key_cmp ps) h in (below-each p ps parts.0, sorted-ascends ps parts.1)

-- ---- tests that agree

filter-along : {A : Type 0} (p q : A → Bool) (xs : List A) → All (λ x. p x ≡ q x) xs → filter p xs ≡ filter q xs
filter-along p q [] all = refl
filter-along {A = A} p q (x ∷ xs) all = λ i. cond (All-head (λ y. p y ≡ q y) x xs all i) (x ∷ filter-along p q xs (All-tail (λ y. p y ≡ q y) x xs all) i) (filter-along p q xs (All-tail (λ y. p y ≡ q y) x xs all) i)

any-along : {A : Type 0} (p q : A → Bool) (xs : List A) → All (λ x. p x ≡ q x) xs → list_any p xs ≡ list_any q xs
any-along p q [] all = refl
any-along p q (x ∷ xs) all = λ i. All-head (λ y. p y ≡ q y) x xs all i || any-along p q xs (All-tail (λ y. p y ≡ q y) x xs all) i

some-within : (n : ℕ) → nat_lt 0 (suc n) ≡ true
some-within n = grind (arith, nat_tests)

any-filtered : {A B : Type 0} (p : A → Bool) (es : List (A × B)) → nat_lt 0 (length (filter (λ (e : A × B). p e.0) es)) ≡ list_any p (map (λ (e : A × B). e.0) es)
any-filtered p [] = refl
any-filtered {A = A} {B = B} p (e ∷ es) = by_test (p e.0) (any-filtered p es)
  where
    rest : List (A × B)
    rest = filter (λ d. p d.0) es

    by_test : (b : Bool) → nat_lt 0 (length rest) ≡ list_any p (map (λ (d : A × B). d.0) es) → nat_lt 0 (length (cond b (e ∷ rest) rest)) ≡ (b || list_any p (map (λ (d : A × B). d.0) es))
    by_test true later = some-within (length rest)
    by_test false later = later

-- ---- the points of a data set

pub entries-there : (m : DataSet) → All (λ (e : PointValues). get m e.0 ≡ Some e.1) (entries m)
entries-there m i d within = get-entries m (get_or (entries m) i d).0 ∙ find-get_or key_cmp-IsTotalOrder (entries m) i d (entries_sorted m) within

pub long-key : (from : List Component) (m : DataSet) → IsSetOf from m → (key rest : List Value) → get m key ≡ Some rest → length key ≡ length (identifiers from)
long-key from m fit key rest there =
    let point : IsPointOf from key rest = subst (λ (o : Option (List Value)). IfSome o (IsPointOf from key)) there (fit key) in
    AllZip-long FitsIdentifier (fitting.identifiers from) key point.key_fits ∙ ap length (sym (of-identifiers from))

module _ (from : List Component) (is : IsStructure from) (both : List Component) (m : DataSet) (fit : IsSetOf from m) where
  abbrev numbers : List ℕ
  numbers = numbers_in from (identifiers both)

  abbrev inside : List Value → List Value → Bool
  inside part = is_in numbers part

  -- a part has its points by their keys
  pub part-is : (n : ℕ) (part : List Value) → part_of (in_parts n numbers) part m ≡ where_key key_cmp (inside part) (entries m)
  part-is n part =
      ap (in_order (by_key n numbers)) (filter-along (λ p. eq_by_cmp key_cmp (part_key numbers p) part) (λ p. inside part p.0) (entries m)
      (λ i d within. let p = get_or (entries m) i d in ap (λ (k : List Value). eq_by_cmp key_cmp k part) (same-part from is p.0 (long-key from m fit p.0 p.1 (entries-there m i d within)) p.1 both)))
      ∙ in_order-same (place_cmp-IsTotalOrder (in_parts n numbers)) (where_key key_cmp (inside part) (entries m)) (sorted-ascends n numbers (where_key key_cmp (inside part) (entries m)) (is_sorted-where_key key_cmp (inside part) (entries m) (entries_sorted m)))

  pub has-part : (n : ℕ) (part : List Value) → has_part (in_parts n numbers) m part ≡ list_any (inside part) (keys m)
  has-part n part = ap (λ (ps : List PointValues). nat_lt 0 (length ps)) (part-is n part) ∙ any-filtered (inside part) (entries m)

  -- the tests of keys by name
  pub any-in : (part : List Value) → list_any (inside part) (keys m) ≡ list_any (λ other. eq_by_cmp key_cmp (key_between from both other) part) (keys m)
  any-in part =
      any-along (inside part) (λ other. eq_by_cmp key_cmp (key_between from both other) part) (keys m)
      (All-map (λ other. inside part other ≡ eq_by_cmp key_cmp (key_between from both other) part) (λ (e : PointValues). e.0) (entries m)
      (λ i d within. let p = get_or (entries m) i d in ap (λ (k : List Value). eq_by_cmp key_cmp k part) (part-values from is p.0 (long-key from m fit p.0 p.1 (entries-there m i d within)) both)))

-- ---- after news

module _ {K : Type 0} {R : K → K → Ordering} (exact : IsAntisymmetric R) (p : K → Bool) where
  sorted-kept : {Y : Type 0} (m : FinMap R Y) → T (is_sorted R (where_key R p (entries m)))
  sorted-kept m = is_sorted-where_key R p (entries m) (entries_sorted m)

  abbrev kept : {Y : Type 0} → FinMap R Y → FinMap R Y
  kept m = from_sorted (where_key R p (entries m))

  entries-kept : {Y : Type 0} (m : FinMap R Y) → entries (kept m) ≡ where_key R p (entries m)
  entries-kept m = entries-from_sorted R (where_key R p (entries m)) (sorted-kept m)

  get-kept : {Y : Type 0} (m : FinMap R Y) (q : K) → get (kept m) q ≡ cond (p q) (get m q) None
  get-kept {Y = Y} m q =
      get-from_sorted R (where_key R p (entries m)) q (sorted-kept m)
      ∙ find-where_key R p q (λ x t. ap p (sym (exact q x t))) (entries m)
      ∙ ap (λ (v : Option Y). cond (p q) v None) (sym (get-entries m q))

  len-kept : {Y : Type 0} (m : FinMap R Y) → len (kept m) ≡ length (where_key R p (entries m))
  len-kept m = len-entries (kept m) ∙ ap length (entries-kept m)

module _ {K X : Type 0} {R : K → K → Ordering} (o : IsTotalOrder R) (exact : IsAntisymmetric R) (p : K → Bool) where
  module _ (d : DeltaOf R X) (m : FinMap R X) where
    kept-apply : apply (kept exact p d) (kept exact p m) ≡ kept exact p (apply d m)
    kept-apply = same_map o exact _ _ (λ q.
        get-apply o exact (kept exact p d) (kept exact p m) q
        ∙ (λ i. after (get-kept exact p d q i) (get-kept exact p m q i))
        ∙ by_test (p q) (get d q) (get m q)
        ∙ ap (λ (v : Option X). cond (p q) v None) (sym (get-apply o exact d m q))
        ∙ sym (get-kept exact p (apply d m) q))
      where
        by_test : (b : Bool) (c : Option (Pair X)) (x : Option X) → after (cond b c None) (cond b x None) ≡ cond b (after c x) None
        by_test true c x = refl
        by_test false c x = refl

    begins-kept : BeginsAt d m → BeginsAt (kept exact p d) (kept exact p m)
    begins-kept begins q = subst (λ (c : Option (Pair X)). IfSome c (λ (r : Pair X). get (kept exact p m) q ≡ r.0)) (sym (get-kept exact p d q)) (by_test (p q) refl)
      where
        by_test : (b : Bool) → p q ≡ b → IfSome (cond b (get d q) None) (λ (r : Pair X). get (kept exact p m) q ≡ r.0)
        by_test true e = subst (λ (v : Option X). IfSome (get d q) (λ (r : Pair X). v ≡ r.0)) (sym (get-kept exact p m q ∙ ap (λ b. cond b (get m q) None) e)) (begins q)
        by_test false e = tt

    -- as many points as there were, and those that come, less those that go
    pub counted : BeginsAt d m → length (where_key R p (entries (apply d m))) + count_by is_loss (map (λ (c : K × Pair X). c.1) (where_key R p (entries d))) ≡ length (where_key R p (entries m)) + count_by is_gain (map (λ (c : K × Pair X). c.1) (where_key R p (entries d)))
    counted begins =
        let all = len-apply o exact (kept exact p d) (kept exact p m) (begins-kept begins) in
        let after_it : len (apply (kept exact p d) (kept exact p m)) ≡ length (where_key R p (entries (apply d m))) = ap len kept-apply ∙ len-kept exact p (apply d m) in
        let before_it = len-kept exact p m in
        let changes = entries-kept exact p d in
        let lost : count_by is_loss (values (kept exact p d)) ≡ count_by is_loss (map (λ (c : K × Pair X). c.1) (where_key R p (entries d))) = ap (λ (es : List (K × Pair X)). count_by is_loss (map (λ (c : K × Pair X). c.1) es)) changes in
        let gained : count_by is_gain (values (kept exact p d)) ≡ count_by is_gain (map (λ (c : K × Pair X). c.1) (where_key R p (entries d))) = ap (λ (es : List (K × Pair X)). count_by is_gain (map (λ (c : K × Pair X). c.1) es)) changes in
        omega (arith, all, after_it, before_it, lost, gained)

more-than : (g y : ℕ) → nat_lt g (y + g) ≡ nat_lt 0 y
more-than g y = elim (cases_Bool (nat_lt 0 y)) [
  | inl yes' ↦ (let more : nat_lt g (y + g) ≡ true = grind (arith, nat_tests, yes') in more) ∙ sym yes'
  | inr no' ↦ (let none : nat_lt g (y + g) ≡ false = grind (arith, nat_tests, no') in none) ∙ sym no'
]

module _ (from : List Component) (is : IsStructure from) (both : List Component) (m : DataSet) (fit : IsSetOf from m) (d : Changes) (fit_after : IsSetOf from (apply d m)) (begins : BeginsAt d m) where
  -- what is kept of a part says whether it has a point after the news
  pub has-after : (n : ℕ) (part : List Value) → has_part_after (in_parts n (numbers_in from (identifiers both))) m part (shift_in (numbers_in from (identifiers both)) (entries d) part) ≡ has_part (in_parts n (numbers_in from (identifiers both))) (apply d m) part
  has-after n part =
      let ns = numbers_in from (identifiers both) in
      let s = shift_in ns (entries d) part in
      let old = ap length (part-is from is both m fit n part) in
      let new = ap length (part-is from is both (apply d m) fit_after n part) in
      let count = counted key_cmp-IsTotalOrder key_cmp-IsAntisymmetric (is_in ns part) d m begins in
      let same : length (part_of (in_parts n ns) part m) + s.come ≡ length (part_of (in_parts n ns) part (apply d m)) + s.gone = omega (arith, old, new, count) in
      ap (nat_lt s.gone) same ∙ more-than s.gone (length (part_of (in_parts n ns) part (apply d m)))

-- ---- keys of the first operand that are met

module _ (e : ExistsOn) (typed : IsTypedExistsOn e) where
  -- a key with a value for each identifier is met where the second operand has a point in its part
  pub met-part : (b : DataSet) → IsSetOf e.right b → (key : List Value) → length key ≡ length (identifiers e.left) → is_met e b key ≡ has_part (right_want e) b (key_part (left_numbers e) key)
  met-part b fit key long =
      sym (has-part e.right typed.right_is (common e) b fit 1 (key_part (left_numbers e) key)
      ∙ any-in e.right typed.right_is (common e) b fit (key_part (left_numbers e) key)
      ∙ ap (λ (part : List Value). list_any (λ other. eq_by_cmp key_cmp (right_values e other) part) (keys b)) (part-values e.left typed.left_is key long (common e)))
