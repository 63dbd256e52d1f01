-- The delta of a left or full join's result, from the changes of its operands.
use Rattle.std.proofs.Common.{◌≡◌, ◌≢◌, ℕ, List, [], ◌∷◌, map, zip, length, get_or, Bool, true, false, ◌||◌, cond, Option, Some, None, refl, sym, ap, subst, ◌∙◌, arith}
use Rattle.std.specs.Option.{IfSome, is_some}
use Rattle.std.specs.List.{All, AllZip, Contains}
use Rattle.std.specs.Ordering.{eq_by_cmp}
use Rattle.std.specs.FinMap.{get, keys, len}
use Rattle.std.proofs.lemmas.Bool.{eqb-true}
use Rattle.std.proofs.lemmas.List.{get_or_default}
use Rattle.std.proofs.lemmas.List.Elements.{All-head, All-tail}
use Rattle.std.proofs.lemmas.List.Folds.{list_any-append}
use Rattle.std.proofs.lemmas.List.Sums.{AllPass-from_list_all}
use Rattle.vtl_values.specs.Order.{key_cmp}
use Rattle.vtl_values.specs.declared.structure.Component.{Component}
use Rattle.vtl_values.specs.declared.value.Value.{Value}
use Rattle.vtl_values.proofs.Values.{key_cmp-IsTotalOrder, key_cmp-IsAntisymmetric}
use Rattle.vtl_syntax.specs.declared.words.JoinFunction.{JoinFunction}
use Rattle.vtl_syntax.specs.declared.words.JoinFunction.TheVariants.{Inner, Left, Full, Cross}
use Rattle.data_model.specs.Answers.{IsRight}
use Rattle.data_model.specs.Deltas.{Pair, apply, after, BeginsAt, Differs, LeadsAt}
use Rattle.data_model.specs.Drafts.{finished, IsDraft}
use Rattle.data_model.specs.Maps.{is_listed}
use Rattle.data_model.specs.Outcomes.{Made}
use Rattle.data_model.proofs.DeltaLemmas.{contradicted, get-apply}
use Rattle.data_model.proofs.DraftLemmas.{IsRight-outcome}
use Rattle.data_model.proofs.MapLemmas.{neither, is_listed-keys, get-unlisted}
use Rattle.point_sets.specs.Changes.{Changes}
use Rattle.point_sets.specs.DataSets.{DataSet}
use Rattle.structured_sets.specs.Fitting as fitting
use Rattle.structured_sets.specs.Fitting.{FitsIdentifier, IsPointOf, IsSetOf}
use Rattle.held_index.specs.Drafts.{SetDraft}
use Rattle.held_index.specs.Rules.{SetOutcome, after_news}
use Rattle.clause_meaning.specs.Clauses.{values_at}
use Rattle.clause_meaning.proofs.ByRole.{of-identifiers}
use Rattle.data_set_trees.specs.Components.{identifiers}
use Rattle.operator_meaning.specs.joins.Joins.{JoinOn, key_components, places_of, is_key, is_whole, join_key, join_keys, points_at, joined_point, join_working, join_meaning}
use Rattle.operator_meaning.specs.joins.Typed.{IsTypedJoinOn}
use Rattle.operator_meaning.proofs.joins.Crossed.{listed-map}
use Rattle.operator_meaning.proofs.joins.Covered.{fits, working-at, join-covered}
use Rattle.operator_meaning.proofs.joins.Distinct.{from-map}
use Rattle.operator_meaning.proofs.joins.Typed.{places-are, key-long, key-forth}
use Rattle.outer_joins.specs.Noted.{value_at, all_keys_of}
use Rattle.outer_joins.specs.Rules.{is_outer}

-- ---- drafts

-- where a value stays there is no change
stays-at : {X : Type 0} (c : Option (Pair X)) (x y : Option X) → LeadsAt c x x → LeadsAt c y y
stays-at None x y h = refl
stays-at (Some c) x y h = absurd (h.2 (sym h.0 ∙ h.1))

-- a draft depends on the values at the keys that were noted alone
draft-along : (old old' new new' : List Value → Option (List Value)) (ks : List (List Value)) (n : SetDraft) → ((k : List Value) → is_listed key_cmp ks k ≡ true → (old' k ≡ old k) × (new' k ≡ new k))
    → IsDraft {R = key_cmp} (λ k. false) [] old new ks n → IsDraft {R = key_cmp} (λ k. false) [] old' new' ks n
draft-along old old' new new' ks n same h = record { least = h.least; changes = λ e k. by_test (get n.changes k) k (is_listed key_cmp ks k) refl (h.changes e k) }
  where
    by_test : (c : Option (Pair (List Value))) (k : List Value) (b : Bool) → is_listed key_cmp ks k ≡ b → LeadsAt c (old k) (cond b (new k) (old k)) → LeadsAt c (old' k) (cond b (new' k) (old' k))
    by_test c k true e i = let two = same k e in subst (λ (v : Option (List Value)). LeadsAt c v (new' k)) (sym two.0) (subst (λ (v : Option (List Value)). LeadsAt c (old k) v) (sym two.1) i)
    by_test c k false e i = stays-at c (old k) (old' k) i

-- ---- keys

pub AllZip-length : {A B : Type 0} (F : A → B → Type 0) (xs : List A) (ys : List B) → AllZip F xs ys → length ys ≡ length xs
AllZip-length F [] [] h = refl
AllZip-length F [] (y ∷ ys) h = absurd h
AllZip-length F (x ∷ xs) [] h = absurd h
AllZip-length F (x ∷ xs) (y ∷ ys) h = let rest = AllZip-length F xs ys h.1 in omega (arith, rest)

long-key : (from : List Component) (a : DataSet) (k : List Value) (p : Option (List Value)) → IsSetOf from a → get a k ≡ p → is_some p ≡ true → length k ≡ length (identifiers from)
long-key from a k None fit there h = cc
long-key from a k (Some rest) fit there h =
    let point : IsPointOf from k rest = subst (λ (o : Option (List Value)). IfSome o (IsPointOf from k)) there (fit k) in
    AllZip-length FitsIdentifier (fitting.identifiers from) k point.key_fits ∙ ap (λ (cs : List Component). length cs) (sym (of-identifiers from))

-- a key that changes has a value for each identifier
changed-long : (from : List Component) (d : Changes) (a : DataSet) → BeginsAt d a → Differs d → IsSetOf from a → IsSetOf from (apply d a) → (k : List Value) → is_listed key_cmp (keys d) k ≡ true → length k ≡ length (identifiers from)
changed-long from d a begins differs fit fit_after k listed =
    by_change (get d k) refl (sym (is_listed-keys key_cmp-IsTotalOrder d k) ∙ listed) (begins k) (differs k)
  where
    after_is : get (apply d a) k ≡ after (get d k) (get a k)
    after_is = get-apply key_cmp-IsTotalOrder key_cmp-IsAntisymmetric d a k

    by_pair : (x y : Option (List Value)) → get d k ≡ Some (x, y) → get a k ≡ x → (x ≢ y) → length k ≡ length (identifiers from)
    by_pair (Some x) y e old other = long-key from a k (Some x) fit old refl
    by_pair None (Some y) e old other = long-key from (apply d a) k (Some y) fit_after (after_is ∙ ap (λ (c : Option (Pair (List Value))). after c (get a k)) e) refl
    by_pair None None e old other = absurd (other refl)

    by_change : (c : Option (Pair (List Value))) → get d k ≡ c → is_some c ≡ true → IfSome c (λ p. get a k ≡ p.0) → IfSome c (λ p. p.0 ≢ p.1) → length k ≡ length (identifiers from)
    by_change None e h old other = cc
    by_change (Some (x, y)) e h old other = by_pair x y e old other

-- each element is one of the list
all-contained : {A : Type 0} (xs : List A) → All (λ x. Contains xs x) xs
all-contained xs k d within = (k, within, get_or_default xs k (get_or xs k d) d within)

module _ (j : JoinOn) (typed : IsTypedJoinOn j) (outer : is_outer j.function ≡ true) where
  apart : j.function ≢ Cross
  apart e = let never : is_outer Cross ≡ true = ap is_outer (sym e) ∙ outer in cc

  -- an operand, which has all identifiers
  record IsWhole (s : List Component) : Type 0 where
    there : Contains j.operands s
    whole : is_whole j s ≡ true

  all-whole : All IsWhole j.operands
  all-whole k d within = record { there = all-contained j.operands k d within; whole = by_function j.function refl outer k d within }
    where
      by_function : (f : JoinFunction) → j.function ≡ f → is_outer f ≡ true → All (λ s. is_whole j s ≡ true) j.operands
      by_function Inner e h = cc
      by_function Left e h = AllPass-from_list_all (is_whole j) j.operands (fits j typed Left e)
      by_function Full e h = AllPass-from_list_all (is_whole j) j.operands (fits j typed Full e)
      by_function Cross e h = cc

  -- a key that changes comes to one with a value for each identifier
  keys-long : (key : List Value) (ss : List (List Component)) → All IsWhole ss → (news : List Changes) → All Differs news → (xs : List DataSet) → AllZip BeginsAt news xs → AllZip IsSetOf ss xs → AllZip IsSetOf ss (after_news news xs)
      → is_listed key_cmp (all_keys_of j ss news) key ≡ true → length key ≡ length (key_components j)
  keys-long key [] all news differ xs begin fit fit_after h = cc
  keys-long key (s ∷ ss) all [] differ xs begin fit fit_after h = cc
  keys-long key (s ∷ ss) all (d ∷ ds) differ [] begin fit fit_after h = absurd fit
  keys-long key (s ∷ ss) all (d ∷ ds) differ (a ∷ xs) begin fit fit_after h =
      by_test (is_listed key_cmp ours key) refl (sym (list_any-append (eq_by_cmp key_cmp key) ours (all_keys_of j ss ds)) ∙ h)
      (keys-long key ss (All-tail IsWhole s ss all) ds (All-tail Differs d ds differ) xs begin.1 fit.1 fit_after.1)
    where
      ours : List (List Value)
      ours = map (join_key j s) (keys d)

      own : IsWhole s
      own = All-head IsWhole s ss all

      of_own : is_listed key_cmp ours key ≡ true → length key ≡ length (key_components j)
      of_own listed =
          let by = from-map (join_key j s) (keys d) key listed in
          let its : length by.0 ≡ length (identifiers s) = changed-long s d a begin.0 (All-head Differs d ds differ) fit.0 fit_after.0 by.0 by.1 in
          ap (λ (k : List Value). length k) by.2 ∙ key-long j typed apart s own.there own.whole by.0 its

      by_test : (b : Bool) → is_listed key_cmp ours key ≡ b → (b || is_listed key_cmp (all_keys_of j ss ds) key) ≡ true
          → (is_listed key_cmp (all_keys_of j ss ds) key ≡ true → length key ≡ length (key_components j)) → length key ≡ length (key_components j)
      by_test true e i later = of_own e
      by_test false e i later = later i

  -- ---- where nothing changes

  module _ (key : List Value) (long : length key ≡ length (key_components j)) where
    same-point : (s : List Component) → IsWhole s → (d : Changes) (a : DataSet) → is_listed key_cmp (map (join_key j s) (keys d)) key ≡ false → get (apply d a) (values_at (places_of j s) key) ≡ get a (values_at (places_of j s) key)
    same-point s own d a none =
        get-apply key_cmp-IsTotalOrder key_cmp-IsAntisymmetric d a its ∙ ap (λ (c : Option (Pair (List Value))). after c (get a its)) (get-unlisted key_cmp-IsTotalOrder d its (by_listed (is_listed key_cmp (keys d) its) refl))
      where
        its : List Value
        its = values_at (places_of j s) key

        back : join_key j s its ≡ key
        back = key-forth j typed apart s own.there own.whole key long

        by_listed : (b : Bool) → is_listed key_cmp (keys d) its ≡ b → is_listed key_cmp (keys d) its ≡ false
        by_listed false i = i
        by_listed true i = contradicted (is_listed key_cmp (map (join_key j s) (keys d)) key) (subst (λ (k : List Value). is_listed key_cmp (map (join_key j s) (keys d)) k ≡ true) back (listed-map (join_key j s) its (keys d) i)) none

    abbrev points : List (List Component) → List DataSet → List (Option (List Value))
    points ss xs = map (λ (q : List ℕ × DataSet). get q.1 (values_at q.0 key)) (zip (map (places_of j) ss) xs)

    same-each : (ss : List (List Component)) → All IsWhole ss → (news : List Changes) (xs : List DataSet) → AllZip BeginsAt news xs → is_listed key_cmp (all_keys_of j ss news) key ≡ false → points ss (after_news news xs) ≡ points ss xs
    same-each [] all news xs begin none = refl
    same-each (s ∷ ss) all [] [] begin none = refl
    same-each (s ∷ ss) all [] (a ∷ xs) begin none = absurd begin
    same-each (s ∷ ss) all (d ∷ ds) [] begin none = absurd begin
    same-each (s ∷ ss) all (d ∷ ds) (a ∷ xs) begin none =
        let ours = map (join_key j s) (keys d) in
        let two = neither (is_listed key_cmp ours key) (is_listed key_cmp (all_keys_of j ss ds) key) (sym (list_any-append (eq_by_cmp key_cmp key) ours (all_keys_of j ss ds)) ∙ none) in
        λ i. same-point s (All-head IsWhole s ss all) d a two.0 i ∷ same-each ss (All-tail IsWhole s ss all) ds xs begin.1 two.1 i

    same-points : (news : List Changes) (xs : List DataSet) → AllZip BeginsAt news xs → is_listed key_cmp (all_keys_of j j.operands news) key ≡ false → points_at j (after_news news xs) key ≡ points_at j xs key
    same-points news xs begin none =
        let by_places : (sets : List DataSet) → points_at j sets key ≡ points j.operands sets = λ sets. ap (λ (ps : List (List ℕ)). map (λ (q : List ℕ × DataSet). get q.1 (values_at q.0 key)) (zip ps sets)) (places-are j typed apart) in
        by_places (after_news news xs) ∙ same-each j.operands all-whole news xs begin none ∙ sym (by_places xs)

  -- the value at a key, whether it is one of the join or not
  same-value : (news : List Changes) (xs : List DataSet) → AllZip BeginsAt news xs → (key : List Value) → is_listed key_cmp (all_keys_of j j.operands news) key ≡ false → (join_working j (after_news news xs)).value key ≡ (join_working j xs).value key
  same-value news xs begin key none = by_key (is_key j key) refl
    where
      by_key : (b : Bool) → is_key j key ≡ b → cond b (joined_point j (points_at j (after_news news xs) key)) None ≡ cond b (joined_point j (points_at j xs key)) None
      by_key true e = ap (joined_point j) (same-points key (eqb-true (length key) (length (key_components j)) e) news xs begin none)
      by_key false e = refl

  -- ---- the answer

  pub right-answer : (news : List Changes) (xs : List DataSet) (x : DataSet) (before : ℕ) (n : SetDraft) → All Differs news → AllZip BeginsAt news xs → AllZip IsSetOf j.operands xs → AllZip IsSetOf j.operands (after_news news xs)
      → IsDraft {R = key_cmp} (λ key. false) [] (value_at j xs) (value_at j (after_news news xs)) (all_keys_of j j.operands news) n
      → (let o : SetOutcome = Made x in join_meaning j xs ≡ o) → len x ≡ before → IsRight (join_meaning j (after_news news xs)) x (finished before n)
  right-answer news xs x before n differ begin fit fit_after drafted was count =
      let ys = after_news news xs in
      let ks = all_keys_of j j.operands news in
      let old = (join_working j xs).value in
      let new = (join_working j ys).value in
      let long : (k : List Value) → is_listed key_cmp ks k ≡ true → length k ≡ length (key_components j) = λ k l. keys-long k j.operands all-whole news differ xs begin fit fit_after l in
      let meant : IsDraft {R = key_cmp} (λ key. false) [] old new ks n = draft-along (value_at j xs) old (value_at j ys) new ks n (λ k l. (working-at j xs k (long k l), working-at j ys k (long k l))) drafted in
      let many : length xs ≡ length j.operands = AllZip-length IsSetOf j.operands xs fit in
      let many_after : length ys ≡ length j.operands = AllZip-length IsSetOf j.operands ys fit_after in
      subst (λ points. IsRight (join_meaning j ys) x (finished points n)) count
      (IsRight-outcome key_cmp-IsTotalOrder key_cmp-IsAntisymmetric [] (λ key. false) (join_keys j xs) old [] (λ key. false) (join_keys j ys) new x [] ks n
      (join-covered j xs typed many) (join-covered j ys typed many_after) was
      (record { evaluations = λ k l. refl; values = λ within k l. same-value news xs begin k l }) meant)
