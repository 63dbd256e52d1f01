-- The outcome of a pair in words.
use Rattle.std.proofs.Common.{◌≡◌, ◌≢◌, ◌≤◌, List, [], ◌∷◌, ◌++◌, map, length, Bool, true, false, ◌||◌, if◌then◌else◌, Option, Some, None, option_map, refl, sym, ap, subst, ◌∙◌, arith}
use Rattle.std.specs.Prelude.{option_and_then, is_none}
use Rattle.std.specs.Option.{option_map_or, option_zip, is_some}
use Rattle.std.specs.Ordering.{eq_by_cmp}
use Rattle.std.specs.FinMap.{empty, entries, get, keys, len, len-empty, len-entries, get-empty, same_map}
use Rattle.std.proofs.lemmas.List.{length-map}
use Rattle.vtl_values.specs.declared.value.Value.{Value}
use Rattle.vtl_values.specs.Order.{key_cmp}
use Rattle.vtl_values.proofs.Values.{key_cmp-IsTotalOrder, key_cmp-IsAntisymmetric}
use Rattle.data_model.specs.Maps.{is_listed, made_at}
use Rattle.data_model.specs.Outcomes.{Made, TooMany, Outcome, IsOutcome, IsResult, made}
use Rattle.data_model.specs.declared.TheConstants.{POINT_LIMIT}
use Rattle.data_model.proofs.DeltaLemmas.{contradicted}
use Rattle.data_model.proofs.MapLemmas.{tied, tied_to_itself, is_listed-keys, get-made_at_all, len-made_at}
use Rattle.data_model.proofs.OutcomeLemmas.{outcome-of}
use Rattle.point_sets.specs.DataSets.{DataSet}
use Rattle.clause_meaning.proofs.Covered.{IsCovered, IsMeant, covered-meant}
use Rattle.clause_meaning.proofs.Kept.{result}
use Rattle.operator_meaning.specs.pairs.Pairs.{PairOn, key_between, is_left_main, left_key, right_key, main_key, result_key, is_key, main_set, values_there, both_there, pair_at, pair_values, pair_keys, pair_working, pair_meaning}
use Rattle.operator_meaning.proofs.pairs.Names.{either-left, either-right}

-- what a listed key comes to is listed
pub listed-map : (f : List Value → List Value) (k : List Value) (ks : List (List Value)) → is_listed key_cmp ks k ≡ true → is_listed key_cmp (map f ks) (f k) ≡ true
listed-map f k [] h = cc
listed-map f k (j ∷ js) h = by_test (listed-map f k js) (eq_by_cmp key_cmp k j) refl h
  where
    by_test : (is_listed key_cmp js k ≡ true → is_listed key_cmp (map f js) (f k) ≡ true) → (b : Bool) → eq_by_cmp key_cmp k j ≡ b → (b || is_listed key_cmp js k) ≡ true → (eq_by_cmp key_cmp (f k) (f j) || is_listed key_cmp (map f js) (f k)) ≡ true
    by_test later true e i = either-left (eq_by_cmp key_cmp (f k) (f j)) (is_listed key_cmp (map f js) (f k)) (subst (λ (q : List Value). eq_by_cmp key_cmp (f k) (f q) ≡ true) (tied key_cmp-IsTotalOrder key_cmp-IsAntisymmetric k j e) (tied_to_itself key_cmp-IsTotalOrder (f k)))
    by_test later false e i = either-right (eq_by_cmp key_cmp (f k) (f j)) (is_listed key_cmp (map f js) (f k)) (later i)

both-some : {A B : Type 0} (f : A → A) (x : Option A) (g : B → B) (y : Option B) → is_some (option_zip (option_map f x) (option_map g y)) ≡ true → (is_some x ≡ true) × (is_some y ≡ true)
both-some f None g y h = cc
both-some f (Some x) g None h = cc
both-some f (Some x) g (Some y) h = (refl, refl)

none-of : {A : Type 0} (o : Option A) → (is_some o ≡ true → ⊥) → o ≡ None
none-of None h = refl
none-of (Some x) h = absurd (h refl)

module _ (p : PairOn) (a b : DataSet) where
  -- where two points are paired the key is one of the result's, and both are there
  pub paired : (key : List Value) → is_some (pair_at p a b key) ≡ true → (is_key p key ≡ true) × (is_some (get a (left_key p key)) ≡ true) × (is_some (get b (right_key p key)) ≡ true)
  paired key h = by_test (is_key p key) refl h
    where
      by_test : (c : Bool) → is_key p key ≡ c → is_some (if c then both_there p a b key else None) ≡ true → (is_key p key ≡ true) × (is_some (get a (left_key p key)) ≡ true) × (is_some (get b (right_key p key)) ≡ true)
      by_test true e i = let points = both-some (λ rest. left_key p key ++ rest) (get a (left_key p key)) (λ rest. right_key p key ++ rest) (get b (right_key p key)) i in (e, points.0, points.1)
      by_test false e i = cc

  pub comes-back : (key : List Value) → is_key p key ≡ true → key ≡ result_key p (main_key p key)
  comes-back key h = tied key_cmp-IsTotalOrder key_cmp-IsAntisymmetric key (result_key p (main_key p key)) h

  -- the main point is there
  pub main-there : (key : List Value) → is_some (pair_at p a b key) ≡ true → is_some (get (main_set p a b) (main_key p key)) ≡ true
  main-there key h = let all = paired key h in by_test (is_left_main p) refl all.1 all.2
    where
      by_test : (c : Bool) → is_left_main p ≡ c → is_some (get a (left_key p key)) ≡ true → is_some (get b (right_key p key)) ≡ true → is_some (get (if c then a else b) (key_between p.structure (if c then p.left else p.right) key)) ≡ true
      by_test true e l r = l
      by_test false e l r = r

  paired-listed : (key : List Value) → is_some (pair_at p a b key) ≡ true → is_listed key_cmp (pair_keys p a b) key ≡ true
  paired-listed key h =
      let own : is_listed key_cmp (keys (main_set p a b)) (main_key p key) ≡ true = is_listed-keys key_cmp-IsTotalOrder (main_set p a b) (main_key p key) ∙ main-there key h in
      subst (λ (q : List Value). is_listed key_cmp (pair_keys p a b) q ≡ true) (sym (comes-back key (paired key h).0)) (listed-map (result_key p) (main_key p key) (keys (main_set p a b)) own)

  unpaired : (key : List Value) → is_listed key_cmp (pair_keys p a b) key ≡ false → pair_at p a b key ≡ None
  unpaired key h = none-of (pair_at p a b key) (λ there. contradicted (is_listed key_cmp (pair_keys p a b) key) (paired-listed key there) h)

  pub pair-covered : IsCovered (pair_working p a b)
  pair-covered = record {
    evaluations = λ key l. ap (λ (o : Option (List Value × List Value)). option_map_or (λ q. is_none (pair_values p q.0 q.1)) o false) (unpaired key l);
    points = λ key l. ap (option_and_then (λ (q : List Value × List Value). pair_values p q.0 q.1)) (unpaired key l);
  }

  pub pair-meant : IsMeant (pair_working p a b)
  pair-meant = covered-meant (pair_working p a b) pair-covered

  pub pair-result : (y : DataSet) → pair_meaning p a b ≡ Made y → IsResult {R = key_cmp} (pair_working p a b).beyond (pair_working p a b).value y
  pair-result y e = result (pair_working p a b) y pair-meant e

  -- where no points are paired the result is empty
  pub nothing-paired : ((key : List Value) → pair_at p a b key ≡ None) → pair_meaning p a b ≡ made empty
  nothing-paired none =
      let few : len (empty {X = List Value} {R = key_cmp}) ≤ POINT_LIMIT = let is = len-empty key_cmp (List Value) in omega (arith, is) in
      outcome-of key_cmp-IsTotalOrder key_cmp-IsAntisymmetric (pair_keys p a b) (pair_working p a b).beyond (pair_keys p a b) (pair_working p a b).value (made empty) pair-covered (
        record {
          in_range = λ key. ap (λ (o : Option (List Value × List Value)). option_map_or (λ q. is_none (pair_values p q.0 q.1)) o false) (none key);
          values = λ key. get-empty key_cmp key ∙ sym (ap (option_and_then (λ (q : List Value × List Value). pair_values p q.0 q.1)) (none key));
        },
        few,
      )

  -- what a result has at a key is of two points that are paired
  pub from-pair : (y : DataSet) → pair_meaning p a b ≡ Made y → (key rest : List Value) → get y key ≡ Some rest → is_some (pair_at p a b key) ≡ true
  from-pair y e key rest there = by_pair (pair_at p a b key) (sym ((pair-result y e).values key) ∙ there)
    where
      by_pair : (o : Option (List Value × List Value)) → option_and_then (λ q. pair_values p q.0 q.1) o ≡ Some rest → is_some o ≡ true
      by_pair None i = cc
      by_pair (Some q) i = refl

  -- ---- how many points

  length-keys : length (pair_keys p a b) ≡ len (main_set p a b)
  length-keys =
      length-map (keys (main_set p a b)) (result_key p)
      ∙ length-map (entries (main_set p a b)) (λ (e : List Value × List Value). e.0) ∙ sym (len-entries (main_set p a b))

  few-points : (m : DataSet) → IsResult {R = key_cmp} (pair_working p a b).beyond (pair_working p a b).value m → len m ≤ len (main_set p a b)
  few-points m h =
      let same : m ≡ made_at {R = key_cmp} (pair_keys p a b) (pair_working p a b).value = same_map key_cmp-IsTotalOrder key_cmp-IsAntisymmetric m (made_at (pair_keys p a b) (pair_working p a b).value) (λ k. h.values k ∙ sym (get-made_at_all key_cmp-IsTotalOrder key_cmp-IsAntisymmetric (pair_keys p a b) (pair_working p a b).value pair-covered.points k)) in
      let bound : len m ≤ length (pair_keys p a b) = subst (λ (n : DataSet). len n ≤ length (pair_keys p a b)) (sym same) (len-made_at key_cmp-IsTotalOrder (pair_keys p a b) (pair_working p a b).value) in
      let listed = length-keys in
      omega (arith, bound, listed)

  pub no_more : (y : DataSet) → pair_meaning p a b ≡ Made y → len y ≤ len (main_set p a b)
  no_more y e = few-points y (pair-result y e)

  pub not_too_many : len (main_set p a b) ≤ POINT_LIMIT → pair_meaning p a b ≢ TooMany
  not_too_many few e =
      let many = subst (λ (o : Outcome key_cmp (List Value)). IsOutcome {R = key_cmp} (pair_working p a b).beyond (pair_working p a b).value o) e pair-meant in
      let bound = few-points many.0 many.1 in
      let above = many.2 in
      omega (arith, bound, few, above)

zip-none : {A B : Type 0} (x : Option A) (y : Option B) → y ≡ None → option_zip x y ≡ None
zip-none None y e = refl
zip-none (Some x) y e = rw e refl

there-empty : (key : List Value) → values_there empty key ≡ None
there-empty key = ap (option_map (λ (rest : List Value). key ++ rest)) (get-empty key_cmp key)

unpaired-where : (p : PairOn) (a b : DataSet) (key : List Value) → both_there p a b key ≡ None → pair_at p a b key ≡ None
unpaired-where p a b key h = elim (is_key p key) as (λ c. (if c then both_there p a b key else None) ≡ None) [ true ↦ h | false ↦ refl ]

pub left-empty : (p : PairOn) (b : DataSet) → pair_meaning p empty b ≡ made empty
left-empty p b = nothing-paired p empty b (λ key. unpaired-where p empty b key (ap (λ (o : Option (List Value)). option_zip o (values_there b (right_key p key))) (there-empty (left_key p key))))

pub right-empty : (p : PairOn) (a : DataSet) → pair_meaning p a empty ≡ made empty
right-empty p a = nothing-paired p a empty (λ key. unpaired-where p a empty key (zip-none (values_there a (left_key p key)) (values_there empty (right_key p key)) (there-empty (right_key p key))))
