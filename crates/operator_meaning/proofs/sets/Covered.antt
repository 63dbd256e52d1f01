-- The outcome of a set operator in words.
use Rattle.std.proofs.Common.{◌≡◌, ◌≢◌, ◌≤◌, ◌⊎◌, List, [], ◌∷◌, map, zip, length, Bool, true, false, not, if◌then◌else◌, Option, Some, None, option_map, refl, sym, ap, subst, ◌∙◌, arith, inl, inr}
use Rattle.std.specs.Prelude.{flat_map}
use Rattle.std.specs.Option.{option_or, is_some}
use Rattle.std.specs.List.{list_any}
use Rattle.std.specs.Ordering.{eq_by_cmp}
use Rattle.std.specs.FinMap.{empty, entries, get, keys, len, len-empty, len-entries, get-empty, same_map}
use Rattle.std.proofs.lemmas.List.{length-map}
use Rattle.std.proofs.lemmas.List.Folds.{list_any-append}
use Rattle.vtl_values.specs.Order.{key_cmp}
use Rattle.vtl_values.specs.declared.structure.Component.{Component}
use Rattle.vtl_values.specs.declared.value.Value.{Value}
use Rattle.vtl_values.proofs.Values.{key_cmp-IsTotalOrder, key_cmp-IsAntisymmetric}
use Rattle.data_model.specs.Maps.{is_listed, leftmost, made_at}
use Rattle.data_model.specs.Outcomes.{Made, Range, TooMany, Outcome, IsOutcome, IsResult, made}
use Rattle.data_model.specs.declared.TheConstants.{POINT_LIMIT}
use Rattle.data_model.proofs.DeltaLemmas.{contradicted}
use Rattle.data_model.proofs.MapLemmas.{neither, tied, is_listed-keys, get-made_at_all, len-made_at}
use Rattle.data_model.proofs.OutcomeLemmas.{outcome-of}
use Rattle.point_sets.specs.DataSets.{DataSet}
use Rattle.clause_meaning.proofs.Covered.{IsCovered, IsMeant, covered-meant}
use Rattle.clause_meaning.proofs.Kept.{result}
use Rattle.data_set_trees.specs.declared.tree.SetOperation.{SetOperation}
use Rattle.data_set_trees.specs.declared.tree.SetOperation.TheVariants.{Union, Intersect, Setdiff, Symdiff}
use Rattle.operator_meaning.specs.pairs.Pairs.{key_between}
use Rattle.operator_meaning.proofs.pairs.Paired.{listed-map}
use Rattle.operator_meaning.specs.sets.Sets.{SetOn, rest_between, read_at, is_key_between, point_at, stays, chosen, set_keys, points_at, set_working, set_meaning}

some-mapped : {A : Type 0} (f : A → A) (o : Option A) → is_some (option_map f o) ≡ true → is_some o ≡ true
some-mapped f None h = cc
some-mapped f (Some x) h = refl

none-of : {A : Type 0} (o : Option A) → (is_some o ≡ true → ⊥) → o ≡ None
none-of None h = refl
none-of (Some x) h = absurd (h refl)

-- ---- points of an operand

-- the keys of an operand, as those of the result
abbrev pub keys_between : List Component → List Component → DataSet → List (List Value)
keys_between from to a = map (key_between from to) (keys a)

pub point-listed : (from to : List Component) (a : DataSet) (key : List Value) → is_some (point_at from to a key) ≡ true → is_listed key_cmp (keys_between from to a) key ≡ true
point-listed from to a key h = by_test (is_key_between from to key) refl h
  where
    own : List Value
    own = key_between to from key

    by_test : (b : Bool) → is_key_between from to key ≡ b → is_some (if b then read_at from to a key else None) ≡ true → is_listed key_cmp (keys_between from to a) key ≡ true
    by_test true e i =
        let there : is_listed key_cmp (keys a) (key_between to from key) ≡ true = is_listed-keys key_cmp-IsTotalOrder a (key_between to from key) ∙ some-mapped (rest_between from to) (get a (key_between to from key)) i in
        let back : key ≡ key_between from to (key_between to from key) = tied key_cmp-IsTotalOrder key_cmp-IsAntisymmetric key (key_between from to (key_between to from key)) e in
        subst (λ (q : List Value). is_listed key_cmp (keys_between from to a) q ≡ true) (sym back) (listed-map (key_between from to) (key_between to from key) (keys a) there)
    by_test false e i = cc

pub point-unlisted : (from to : List Component) (a : DataSet) (key : List Value) → is_listed key_cmp (keys_between from to a) key ≡ false → point_at from to a key ≡ None
point-unlisted from to a key h = none-of (point_at from to a key) (λ there. contradicted (is_listed key_cmp (keys_between from to a) key) (point-listed from to a key there) h)

point-empty : (from to : List Component) (key : List Value) → point_at from to empty key ≡ None
point-empty from to key = elim (is_key_between from to key) as (λ b. (if b then read_at from to empty key else None) ≡ None) [ true ↦ ap (option_map (rest_between from to)) (get-empty key_cmp (key_between to from key)) | false ↦ refl ]

-- ---- points of all operands

abbrev Operand : Type 0
Operand = List Component × DataSet

module _ (to : List Component) where
  abbrev keys_of : List Operand → List (List Value)
  keys_of zs = flat_map (λ q. keys_between q.0 to q.1) zs

  abbrev points_of : List Operand → List Value → List (Option (List Value))
  points_of zs key = map (λ q. point_at q.0 to q.1 key) zs

  none-listed : (zs : List Operand) (key : List Value) → is_listed key_cmp (keys_of zs) key ≡ false → leftmost (points_of zs key) ≡ None
  none-listed [] key h = refl
  none-listed (z ∷ zs) key h =
      let own = keys_between z.0 to z.1 in
      let two = neither (is_listed key_cmp own key) (is_listed key_cmp (keys_of zs) key) (sym (list_any-append (eq_by_cmp key_cmp key) own (keys_of zs)) ∙ h) in
      ap (λ (o : Option (List Value)). option_or o (leftmost (points_of zs key))) (point-unlisted z.0 to z.1 key two.0) ∙ none-listed zs key two.1

  none-of-empty : (ss : List (List Component)) (key : List Value) → leftmost (points_of (zip ss (map (λ _. empty) ss)) key) ≡ None
  none-of-empty [] key = refl
  none-of-empty (s ∷ ss) key = ap (λ (o : Option (List Value)). option_or o (leftmost (points_of (zip ss (map (λ _. empty) ss)) key))) (point-empty s to key) ∙ none-of-empty ss key

chosen-none : (o : SetOperation) (points : List (Option (List Value))) → leftmost points ≡ None → chosen o points ≡ None
chosen-none o points h = elim (stays o (map is_some points)) as (λ b. (if b then leftmost points else None) ≡ None) [ true ↦ h | false ↦ refl ]

none-leftmost : (points : List (Option (List Value))) → list_any (λ b. b) (map is_some points) ≡ false → leftmost points ≡ None
none-leftmost [] h = refl
none-leftmost (None ∷ ps) h = none-leftmost ps h
none-leftmost (Some p ∷ ps) h = cc

-- of all points and of those that the others don't have a point stays only where the first operand has it
first-there : (o : SetOperation) (p : Option (List Value)) (ps : List (Option (List Value))) → (o ≡ Intersect) ⊎ (o ≡ Setdiff) → p ≡ None → chosen o (p ∷ ps) ≡ None
first-there Union p ps h none = elim h [ inl e ↦ cc | inr e ↦ cc ]
first-there Intersect p ps h none = rw none refl
first-there Setdiff p ps h none = rw none (by_test (list_any (λ b. b) (map is_some ps)) refl)
  where
    by_test : (b : Bool) → list_any (λ b. b) (map is_some ps) ≡ b → (if not b then leftmost ps else None) ≡ None
    by_test true e = refl
    by_test false e = none-leftmost ps e
first-there Symdiff p ps h none = elim h [ inl e ↦ cc | inr e ↦ cc ]

-- ---- the outcome

module _ (s : SetOn) (sets : List DataSet) where
  pub set-covered : IsCovered (set_working s sets)
  set-covered = record {
    evaluations = λ key l. refl;
    points = λ key l. chosen-none s.operation (points_at s sets key) (none-listed s.structure (zip s.operands sets) key l);
  }

  pub set-meant : IsMeant (set_working s sets)
  set-meant = covered-meant (set_working s sets) set-covered

  pub set-result : (y : DataSet) → set_meaning s sets ≡ Made y → IsResult {R = key_cmp} (set_working s sets).beyond (set_working s sets).value y
  set-result y e = result (set_working s sets) y set-meant e

  abbrev Meant : Outcome key_cmp (List Value) → Type 0
  Meant o = IsOutcome {R = key_cmp} (set_working s sets).beyond (set_working s sets).value o

  pub in-range : (key : List Value) → set_meaning s sets ≢ Range key
  in-range key e = let out = subst Meant e set-meant in let never : false ≡ true = out.passes in cc

  pub few : (y : DataSet) → set_meaning s sets ≡ Made y → len y ≤ POINT_LIMIT
  few y e = (subst Meant e set-meant).1

  -- no more points than keys, outside of which there is no point
  few-keys : (ks : List (List Value)) → ((k : List Value) → is_listed key_cmp ks k ≡ false → (set_working s sets).value k ≡ None) → (m : DataSet) → IsResult {R = key_cmp} (set_working s sets).beyond (set_working s sets).value m → len m ≤ length ks
  few-keys ks none m h =
      let same : m ≡ made_at {R = key_cmp} ks (set_working s sets).value = same_map key_cmp-IsTotalOrder key_cmp-IsAntisymmetric m (made_at ks (set_working s sets).value) (λ k. h.values k ∙ sym (get-made_at_all key_cmp-IsTotalOrder key_cmp-IsAntisymmetric ks (set_working s sets).value none k)) in
      subst (λ (n : DataSet). len n ≤ length ks) (sym same) (len-made_at key_cmp-IsTotalOrder ks (set_working s sets).value)

pub set-empty : (s : SetOn) → set_meaning s (map (λ _. empty) s.operands) ≡ made empty
set-empty s =
    let sets : List DataSet = map (λ _. empty) s.operands in
    let none : (key : List Value) → (set_working s sets).value key ≡ None = λ key. chosen-none s.operation (points_at s sets key) (none-of-empty s.structure s.operands key) in
    let bound : len (empty {X = List Value} {R = key_cmp}) ≤ POINT_LIMIT = let is = len-empty key_cmp (List Value) in omega (arith, is) in
    outcome-of key_cmp-IsTotalOrder key_cmp-IsAntisymmetric [] (set_working s sets).beyond (set_keys s sets) (set_working s sets).value (made empty) (set-covered s sets) (
      record { in_range = λ key. refl; values = λ key. get-empty key_cmp key ∙ sym (none key) },
      bound,
    )

-- ---- how many points

module _ (s : SetOn) (a : DataSet) (sets : List DataSet) (of_first : (s.operation ≡ Intersect) ⊎ (s.operation ≡ Setdiff)) where
  fewer : (m : DataSet) → IsResult {R = key_cmp} (set_working s (a ∷ sets)).beyond (set_working s (a ∷ sets)).value m → len m ≤ len a
  fewer m h = by_operands s.operands refl
    where
      by_operands : (ss : List (List Component)) → s.operands ≡ ss → len m ≤ len a
      by_operands [] e =
          let none : (k : List Value) → (set_working s (a ∷ sets)).value k ≡ None = λ k. chosen-none s.operation (points_at s (a ∷ sets) k) (rw e refl) in
          let bound = few-keys s (a ∷ sets) [] (λ k l. none k) m h in
          omega (arith, bound)
      by_operands (from ∷ ss) e =
          let to = s.structure in
          let ks : List (List Value) = keys_between from to a in
          let none : (k : List Value) → is_listed key_cmp ks k ≡ false → (set_working s (a ∷ sets)).value k ≡ None = λ k l. ap (λ (operands : List (List Component)). chosen s.operation (map (λ (q : Operand). point_at q.0 to q.1 k) (zip operands (a ∷ sets)))) e ∙ first-there s.operation (point_at from to a k) (map (λ (q : Operand). point_at q.0 to q.1 k) (zip ss sets)) of_first (point-unlisted from to a k l) in
          let bound = few-keys s (a ∷ sets) ks none m h in
          let long : length ks ≡ len a = length-map (keys a) (key_between from to) ∙ length-map (entries a) (λ (e : List Value × List Value). e.0) ∙ sym (len-entries a) in
          omega (arith, bound, long)

  pub no-more : (y : DataSet) → set_meaning s (a ∷ sets) ≡ Made y → len y ≤ len a
  no-more y e = fewer y (set-result s (a ∷ sets) y e)

  pub not-too-many : len a ≤ POINT_LIMIT → set_meaning s (a ∷ sets) ≢ TooMany
  not-too-many bound e =
      let many = subst (λ (o : Outcome key_cmp (List Value)). IsOutcome {R = key_cmp} (set_working s (a ∷ sets)).beyond (set_working s (a ∷ sets)).value o) e (set-meant s (a ∷ sets)) in
      let less = fewer many.0 many.1 in
      let above = many.2 in
      omega (arith, less, bound, above)
