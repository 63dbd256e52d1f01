-- The delta of a set operator's result, from the changes of its operands.
use Rattle.std.proofs.Common.{◌≡◌, ◌≢◌, ℕ, List, [], ◌∷◌, map, zip, length, Bool, true, false, ◌||◌, cond, if◌then◌else◌, Option, Some, None, option_map, refl, sym, ap, subst, ◌∙◌, inl, inr}
use Rattle.std.specs.Option.{IfSome, is_some}
use Rattle.std.specs.List.{All, AllZip}
use Rattle.std.specs.Ordering.{eq_by_cmp}
use Rattle.std.specs.FinMap.{get, keys, len}
use Rattle.std.proofs.lemmas.Bool.{cases_Bool}
use Rattle.std.proofs.lemmas.List.Elements.{All-head, All-tail}
use Rattle.std.proofs.lemmas.List.Folds.{list_any-append}
use Rattle.std.proofs.lemmas.Slice.Zip.{AllZip-long}
use Rattle.vtl_values.specs.Order.{key_cmp}
use Rattle.vtl_values.specs.declared.structure.Component.{Component}
use Rattle.vtl_values.specs.declared.value.Value.{Value}
use Rattle.vtl_values.proofs.Values.{key_cmp-IsTotalOrder, key_cmp-IsAntisymmetric}
use Rattle.data_model.specs.Answers.{IsRight}
use Rattle.data_model.specs.Deltas.{Pair, apply, after, BeginsAt, Differs, LeadsAt}
use Rattle.data_model.specs.Drafts.{finished, IsDraft}
use Rattle.data_model.specs.Maps.{is_listed}
use Rattle.data_model.specs.Outcomes.{Made}
use Rattle.data_model.proofs.DeltaLemmas.{contradicted, get-apply}
use Rattle.data_model.proofs.DraftLemmas.{IsRight-outcome}
use Rattle.data_model.proofs.MapLemmas.{neither, tied, tied_to_itself, is_listed-keys, get-unlisted}
use Rattle.point_sets.specs.Changes.{Changes}
use Rattle.point_sets.specs.DataSets.{DataSet}
use Rattle.structured_sets.specs.Fitting as fitting
use Rattle.structured_sets.specs.Fitting.{FitsIdentifier, IsPointOf, IsSetOf}
use Rattle.held_index.specs.Drafts.{SetDraft}
use Rattle.held_index.specs.Rules.{SetOutcome, after_news}
use Rattle.clause_meaning.specs.Clauses.{values_at}
use Rattle.clause_meaning.proofs.ByRole.{of-identifiers}
use Rattle.data_set_trees.specs.Components.{identifiers}
use Rattle.operator_meaning.specs.pairs.Pairs.{key_between}
use Rattle.operator_meaning.proofs.pairs.Paired.{listed-map}
use Rattle.operator_meaning.specs.sets.Sets.{SetOn, read_at, rest_between, is_key_between, point_at, chosen, set_keys, set_working, set_meaning}
use Rattle.operator_meaning.specs.sets.Typed.{IsTypedSet}
use Rattle.operator_meaning.proofs.sets.Covered.{set-covered}
use Rattle.operator_meaning.proofs.sets.Read.{IsRead, key-long, all-read}
use Rattle.operator_meaning.proofs.sets.Words.{points-same}
use Rattle.set_ops.specs.Noted.{read_value, keys_read, all_keys_read}
use Rattle.set_ops.specs.Readings.{reading_between, readings_of}
use Rattle.set_ops.proofs.Numbered.{key-numbered, points-read}

-- ---- drafts

-- where a value stays there is no change
stays-at : {X : Type 0} (c : Option (Pair X)) (x y : Option X) → LeadsAt c x x → LeadsAt c y y
stays-at None x y h = refl
stays-at (Some c) x y h = absurd (h.2 (sym h.0 ∙ h.1))

-- a draft depends on the values at the keys that were noted alone
draft-along : (old old' new new' : List Value → Option (List Value)) (ks : List (List Value)) (n : SetDraft) → ((k : List Value) → is_listed key_cmp ks k ≡ true → (old' k ≡ old k) × (new' k ≡ new k))
    → IsDraft {R = key_cmp} (λ k. false) [] old new ks n → IsDraft {R = key_cmp} (λ k. false) [] old' new' ks n
draft-along old old' new new' ks n same h = record { least = h.least; changes = λ e k. by_test (get n.changes k) k (is_listed key_cmp ks k) refl (h.changes e k) }
  where
    by_test : (c : Option (Pair (List Value))) (k : List Value) (b : Bool) → is_listed key_cmp ks k ≡ b → LeadsAt c (old k) (cond b (new k) (old k)) → LeadsAt c (old' k) (cond b (new' k) (old' k))
    by_test c k true e i = let two = same k e in subst (λ (v : Option (List Value)). LeadsAt c v (new' k)) (sym two.0) (subst (λ (v : Option (List Value)). LeadsAt c (old k) v) (sym two.1) i)
    by_test c k false e i = stays-at c (old k) (old' k) i

-- ---- keys

-- a key that is listed is made of a listed one
made-by : (f : List Value → List Value) (ks : List (List Value)) (key : List Value) → is_listed key_cmp (map f ks) key ≡ true → (k : List Value) × (is_listed key_cmp ks k ≡ true) × (key ≡ f k)
made-by f [] key h = cc
made-by f (k ∷ ks) key h = elim (cases_Bool (eq_by_cmp key_cmp key (f k))) [
  | inl same ↦ (k, rw (tied_to_itself key_cmp-IsTotalOrder k) refl, tied key_cmp-IsTotalOrder key_cmp-IsAntisymmetric key (f k) same)
  | inr other ↦ let found = made-by f ks key (rw other at h) in (found.0, either-right (eq_by_cmp key_cmp found.0 k) (is_listed key_cmp ks found.0) found.1, found.2)
]
  where
    either-right : (a b : Bool) → b ≡ true → (a || b) ≡ true
    either-right true b h = refl
    either-right false b h = h

long-key : (from : List Component) (a : DataSet) (k : List Value) (p : Option (List Value)) → IsSetOf from a → get a k ≡ p → is_some p ≡ true → length k ≡ length (identifiers from)
long-key from a k None fit there h = cc
long-key from a k (Some rest) fit there h =
    let point : IsPointOf from k rest = subst (λ (o : Option (List Value)). IfSome o (IsPointOf from k)) there (fit k) in
    AllZip-long FitsIdentifier (fitting.identifiers from) k point.key_fits ∙ ap (λ (cs : List Component). length cs) (sym (of-identifiers from))

-- a key that changes has a value for each identifier
changed-long : (from : List Component) (d : Changes) (a : DataSet) → BeginsAt d a → Differs d → IsSetOf from a → IsSetOf from (apply d a) → (k : List Value) → is_listed key_cmp (keys d) k ≡ true → length k ≡ length (identifiers from)
changed-long from d a begins differs fit fit_after k listed =
    by_change (get d k) refl (sym (is_listed-keys key_cmp-IsTotalOrder d k) ∙ listed) (begins k) (differs k)
  where
    after_is : get (apply d a) k ≡ after (get d k) (get a k)
    after_is = get-apply key_cmp-IsTotalOrder key_cmp-IsAntisymmetric d a k

    by_pair : (x y : Option (List Value)) → get d k ≡ Some (x, y) → get a k ≡ x → (x ≢ y) → length k ≡ length (identifiers from)
    by_pair (Some x) y e old other = long-key from a k (Some x) fit old refl
    by_pair None (Some y) e old other = long-key from (apply d a) k (Some y) fit_after (after_is ∙ ap (λ (c : Option (Pair (List Value))). after c (get a k)) e) refl
    by_pair None None e old other = absurd (other refl)

    by_change : (c : Option (Pair (List Value))) → get d k ≡ c → is_some c ≡ true → IfSome c (λ p. get a k ≡ p.0) → IfSome c (λ p. p.0 ≢ p.1) → length k ≡ length (identifiers from)
    by_change None e h old other = cc
    by_change (Some (x, y)) e h old other = by_pair x y e old other

module _ (to : List Component) where
  key-comes : (from : List Component) (key : List Value) → values_at (reading_between from to).key key ≡ key_between from to key
  key-comes from key = sym (key-numbered from to key)

  -- so has each key that changes come to
  keys-long : (key : List Value) (ss : List (List Component)) → All (λ from. IsRead from to) ss → (news : List Changes) → All Differs news → (xs : List DataSet) → AllZip BeginsAt news xs → AllZip IsSetOf ss xs → AllZip IsSetOf ss (after_news news xs)
      → is_listed key_cmp (all_keys_read (readings_of ss to) news) key ≡ true → length key ≡ length (identifiers to)
  keys-long key [] all news differ xs begin fit fit_after h = cc
  keys-long key (s ∷ ss) all [] differ xs begin fit fit_after h = cc
  keys-long key (s ∷ ss) all (d ∷ ds) differ [] begin fit fit_after h = absurd fit
  keys-long key (s ∷ ss) all (d ∷ ds) differ (a ∷ xs) begin fit fit_after h =
      by_test (is_listed key_cmp own key) refl (sym (list_any-append (eq_by_cmp key_cmp key) own (all_keys_read (readings_of ss to) ds)) ∙ h)
      (keys-long key ss (All-tail (λ from. IsRead from to) s ss all) ds (All-tail Differs d ds differ) xs begin.1 fit.1 fit_after.1)
    where
      own : List (List Value)
      own = keys_read (reading_between s to) d

      of_own : is_listed key_cmp own key ≡ true → length key ≡ length (identifiers to)
      of_own listed =
          let by = made-by (values_at (reading_between s to).key) (keys d) key listed in
          let its : length by.0 ≡ length (identifiers s) = changed-long s d a begin.0 (All-head Differs d ds differ) fit.0 fit_after.0 by.0 by.1 in
          ap (λ (k : List Value). length k) (by.2 ∙ key-comes s by.0) ∙ key-long s to (All-head (λ from. IsRead from to) s ss all) by.0 its

      by_test : (b : Bool) → is_listed key_cmp own key ≡ b → (b || is_listed key_cmp (all_keys_read (readings_of ss to) ds) key) ≡ true
          → (is_listed key_cmp (all_keys_read (readings_of ss to) ds) key ≡ true → length key ≡ length (identifiers to)) → length key ≡ length (identifiers to)
      by_test true e i later = of_own e
      by_test false e i later = later i

  -- ---- where nothing changes

  same-point : (from : List Component) (d : Changes) (a : DataSet) (key : List Value) → is_listed key_cmp (keys_read (reading_between from to) d) key ≡ false → point_at from to (apply d a) key ≡ point_at from to a key
  same-point from d a key none = by_test (is_key_between from to key) refl
    where
      own : List Value
      own = key_between to from key

      unchanged : is_key_between from to key ≡ true → is_listed key_cmp (keys d) own ≡ false
      unchanged e = by_listed (is_listed key_cmp (keys d) own) refl
        where
          back : values_at (reading_between from to).key own ≡ key
          back = key-comes from own ∙ sym (tied key_cmp-IsTotalOrder key_cmp-IsAntisymmetric key (key_between from to own) e)

          by_listed : (b : Bool) → is_listed key_cmp (keys d) own ≡ b → b ≡ false
          by_listed false i = refl
          by_listed true i = contradicted (is_listed key_cmp (keys_read (reading_between from to) d) key) (subst (λ (k : List Value). is_listed key_cmp (keys_read (reading_between from to) d) k ≡ true) back (listed-map (values_at (reading_between from to).key) own (keys d) i)) none

      there : is_key_between from to key ≡ true → get (apply d a) own ≡ get a own
      there e = get-apply key_cmp-IsTotalOrder key_cmp-IsAntisymmetric d a own ∙ ap (λ (c : Option (Pair (List Value))). after c (get a own)) (get-unlisted key_cmp-IsTotalOrder d own (unchanged e))

      by_test : (b : Bool) → is_key_between from to key ≡ b → (if b then read_at from to (apply d a) key else None) ≡ (if b then read_at from to a key else None)
      by_test true e = ap (option_map (rest_between from to)) (there e)
      by_test false e = refl

  same-points : (key : List Value) (ss : List (List Component)) (news : List Changes) (xs : List DataSet) → AllZip BeginsAt news xs → is_listed key_cmp (all_keys_read (readings_of ss to) news) key ≡ false
      → map (λ (q : List Component × DataSet). point_at q.0 to q.1 key) (zip ss (after_news news xs)) ≡ map (λ (q : List Component × DataSet). point_at q.0 to q.1 key) (zip ss xs)
  same-points key [] news xs begin none = refl
  same-points key (s ∷ ss) [] [] begin none = refl
  same-points key (s ∷ ss) [] (a ∷ xs) begin none = absurd begin
  same-points key (s ∷ ss) (d ∷ ds) [] begin none = absurd begin
  same-points key (s ∷ ss) (d ∷ ds) (a ∷ xs) begin none =
      let own = keys_read (reading_between s to) d in
      let two = neither (is_listed key_cmp own key) (is_listed key_cmp (all_keys_read (readings_of ss to) ds) key) (sym (list_any-append (eq_by_cmp key_cmp key) own (all_keys_read (readings_of ss to) ds)) ∙ none) in
      λ i. same-point s d a key two.0 i ∷ same-points key ss ds xs begin.1 two.1 i

-- ---- the answer

module _ (s : SetOn) (typed : IsTypedSet s) where
  -- at a key with a value for each identifier the result has what is read there
  value-read : (sets : List DataSet) (key : List Value) → length key ≡ length (identifiers s.structure) → (set_working s sets).value key ≡ read_value s.operation (readings_of s.operands s.structure) sets key
  value-read sets key long = ap (chosen s.operation) (points-same s.structure key long s.operands (all-read s typed) sets ∙ sym (points-read s.structure key s.operands sets))

  pub right-answer : (news : List Changes) (xs : List DataSet) (x : DataSet) (before : ℕ) (n : SetDraft) → All Differs news → AllZip BeginsAt news xs → AllZip IsSetOf s.operands xs → AllZip IsSetOf s.operands (after_news news xs)
      → IsDraft {R = key_cmp} (λ key. false) [] (read_value s.operation (readings_of s.operands s.structure) xs) (read_value s.operation (readings_of s.operands s.structure) (after_news news xs)) (all_keys_read (readings_of s.operands s.structure) news) n
      → (let o : SetOutcome = Made x in set_meaning s xs ≡ o) → len x ≡ before → IsRight (set_meaning s (after_news news xs)) x (finished before n)
  right-answer news xs x before n differ begin fit fit_after drafted was count =
      let ys = after_news news xs in
      let ks = all_keys_read (readings_of s.operands s.structure) news in
      let old = (set_working s xs).value in
      let new = (set_working s ys).value in
      let long : (k : List Value) → is_listed key_cmp ks k ≡ true → length k ≡ length (identifiers s.structure) = λ k l. keys-long s.structure k s.operands (all-read s typed) news differ xs begin fit fit_after l in
      let meant : IsDraft {R = key_cmp} (λ key. false) [] old new ks n = draft-along (read_value s.operation (readings_of s.operands s.structure) xs) old (read_value s.operation (readings_of s.operands s.structure) ys) new ks n (λ k l. (value-read xs k (long k l), value-read ys k (long k l))) drafted in
      subst (λ points. IsRight (set_meaning s ys) x (finished points n)) count
      (IsRight-outcome key_cmp-IsTotalOrder key_cmp-IsAntisymmetric [] (λ key. false) (set_keys s xs) old [] (λ key. false) (set_keys s ys) new x [] ks n
      (set-covered s xs) (set-covered s ys) was
      (record { evaluations = λ k l. refl; values = λ within k l. ap (chosen s.operation) (same-points s.structure k s.operands news xs begin l) }) meant)
