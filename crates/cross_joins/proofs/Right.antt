-- The delta of a cross join's result, from the changes of its operands.
use Rattle.std.proofs.Common.{◌≡◌, ℕ, inl, inr, ◌⊎◌, List, [], ◌∷◌, ◌++◌, map, length, Bool, true, false, ◌&&◌, if◌then◌else◌, Option, None, refl, sym, ap, subst, ◌∙◌, append_assoc, arith}
use Rattle.std.specs.Prelude.{flat_map, fold}
use Rattle.std.specs.Bool.{then_some}
use Rattle.std.specs.Option.{is_some}
use Rattle.std.specs.List.{AllByRecursion, AllZip, list_all}
use Rattle.std.specs.Ordering.{eq_by_cmp}
use Rattle.std.specs.FinMap.{get, len}
use Rattle.std.proofs.lemmas.Bool.{eqb-true}
use Rattle.std.proofs.lemmas.List.{append-nil, map-append}
use Rattle.std.proofs.lemmas.List.Folds.{flat_map-map, list_all-map, list_any-append}
use Rattle.std.proofs.lemmas.Slice.Zip.{AllZip-long}
use Rattle.vtl_values.specs.Order.{key_cmp}
use Rattle.vtl_values.specs.declared.structure.Component.{Component}
use Rattle.vtl_values.specs.declared.value.Value.{Value}
use Rattle.vtl_values.proofs.Values.{key_cmp-IsTotalOrder, key_cmp-IsAntisymmetric}
use Rattle.vtl_syntax.specs.declared.words.JoinFunction.{JoinFunction}
use Rattle.vtl_syntax.specs.declared.words.JoinFunction.TheVariants.{Inner, Left, Full, Cross}
use Rattle.data_model.specs.Answers.{IsRight}
use Rattle.data_model.specs.Deltas.{Pair, BeginsAt, after, apply}
use Rattle.data_model.specs.Drafts.{IsDraft, finished, note_value, nothing}
use Rattle.data_model.specs.Maps.{is_listed}
use Rattle.data_model.specs.Outcomes.{Made}
use Rattle.data_model.proofs.DeltaLemmas.{contradicted, get-apply}
use Rattle.data_model.proofs.DraftLemmas.{IsDraft-nothing, IsDraft-value, IsRight-outcome}
use Rattle.data_model.proofs.MapLemmas.{neither}
use Rattle.point_sets.specs.Changes.{Changes, values_eq}
use Rattle.point_sets.specs.DataSets.{DataSet}
use Rattle.point_sets.proofs.Changes.{values_eq-IsEqualityTest}
use Rattle.structured_sets.specs.Fitting.{IsSetOf}
use Rattle.held_index.specs.Drafts.{SetDraft}
use Rattle.held_index.specs.Rules.{SetOutcome, after_news}
use Rattle.data_set_trees.specs.Components.{identifiers}
use Rattle.data_set_trees.specs.Joins.{join_identifiers}
use Rattle.operator_meaning.specs.joins.Joins.{AreKeysOf, JoinOn, all_points, is_key, join_keys, join_meaning, join_on, join_working, joined_point, joined_values, key_components, points_at}
use Rattle.operator_meaning.specs.joins.Typed.{IsTypedJoinOn}
use Rattle.operator_meaning.proofs.joins.Covered.{join-covered}
use Rattle.operator_meaning.proofs.joins.Crossed.{flat, split}
use Rattle.operator_meaning.proofs.joins.Fits.{key-there}
use Rattle.operator_meaning.proofs.joins.Words.{each-at}
use Rattle.cross_joins.specs.Combinations.{Combination, changed_combinations}
use Rattle.cross_joins.specs.Noted.{noted_combination}
use Rattle.cross_joins.specs.Rows.{RowValues}
use Rattle.cross_joins.specs.declared.rows.Side.{Side}
use Rattle.cross_joins.specs.declared.rows.Side.TheVariants.{Before, After}
use Rattle.cross_joins.proofs.RowLemmas.{IsChosenOf, all-append, all-weaker, keys_of, set_on}
use Rattle.cross_joins.proofs.CombinationLemmas.{Unchanged, all_there, changed-are, changed_both, key_in, keys_in, listed-changed, rows_all, turned_all}

-- ---- cross joins

crossed-joined : (f : JoinFunction) (ss : List (List Component)) (t : List Component) → f ≡ Cross → (points : List (Option (List Value))) → joined_point (join_on f ss t) points ≡ then_some (list_all is_some points) (joined_values ss points)
crossed-joined Inner ss t is = cc
crossed-joined Left ss t is = cc
crossed-joined Full ss t is = cc
crossed-joined Cross ss t is = λ points. ap (λ b. then_some b (joined_values ss points)) (list_all-map (λ b. b) is_some points)

crossed-long : (f : JoinFunction) (ss : List (List Component)) (key : List Value) → f ≡ Cross → length key ≡ length (join_identifiers f ss) → length key ≡ length (flat_map identifiers ss)
crossed-long Inner ss key is = cc
crossed-long Left ss key is = cc
crossed-long Full ss key is = cc
crossed-long Cross ss key is = λ long. long

-- ---- the points of a combination

module _ (side : Side) where
  points-before : (xs : List DataSet) (ds : List Changes) (c : Combination) → AllZip BeginsAt ds xs → AllZip (IsChosenOf side) (turned_all xs ds) c → all_points xs (keys_of c) ≡ map (λ r. r.before) c
  points-before [] ds [] begins all = refl
  points-before [] ds (r ∷ c) begins all = absurd all
  points-before (a ∷ xs) [] c begins all = absurd begins
  points-before (a ∷ xs) (d ∷ ds) [] begins all = absurd all
  points-before (a ∷ xs) (d ∷ ds) (r ∷ c) begins all = λ i. sym all.0.row.before i ∷ points-before xs ds c begins.1 all.1 i

  points-after : (xs : List DataSet) (ds : List Changes) (c : Combination) → AllZip BeginsAt ds xs → AllZip (IsChosenOf side) (turned_all xs ds) c → all_points (after_news ds xs) (keys_of c) ≡ map (λ r. r.after) c
  points-after [] [] [] begins all = refl
  points-after [] (d ∷ ds) c begins all = absurd begins
  points-after [] [] (r ∷ c) begins all = absurd all
  points-after (a ∷ xs) [] c begins all = absurd begins
  points-after (a ∷ xs) (d ∷ ds) [] begins all = absurd all
  points-after (a ∷ xs) (d ∷ ds) (r ∷ c) begins all = λ i. sym all.0.row.after i ∷ points-after xs ds c begins.1 all.1 i

  fits-on : (s : List Component) (a : DataSet) (d : Changes) → IsSetOf s a → IsSetOf s (apply d a) → IsSetOf s (set_on side (a, apply d a))
  fits-on s a d fit fit_after = elim side as (λ t. IsSetOf s (set_on t (a, apply d a))) [ Before ↦ fit | After ↦ fit_after ]

  -- its keys have a value for each identifier
  keys-long : (ss : List (List Component)) (xs : List DataSet) (ds : List Changes) (c : Combination) → AllZip BeginsAt ds xs → AllZip IsSetOf ss xs → AllZip IsSetOf ss (after_news ds xs) → AllZip (IsChosenOf side) (turned_all xs ds) c → AreKeysOf ss (keys_of c)
  keys-long [] [] ds [] begins fit fit_after all = tt
  keys-long [] [] ds (r ∷ c) begins fit fit_after all = absurd all
  keys-long [] (a ∷ xs) ds c begins fit fit_after all = absurd fit
  keys-long (s ∷ ss) [] ds c begins fit fit_after all = absurd fit
  keys-long (s ∷ ss) (a ∷ xs) [] c begins fit fit_after all = absurd begins
  keys-long (s ∷ ss) (a ∷ xs) (d ∷ ds) [] begins fit fit_after all = absurd all
  keys-long (s ∷ ss) (a ∷ xs) (d ∷ ds) (r ∷ c) begins fit fit_after all =
      (AllZip-long _ (identifiers s) r.key (key-there s (set_on side (a, apply d a)) r.key (fits-on s a d fit.0 fit_after.0) all.0.there), keys-long ss xs ds c begins.1 fit.1 fit_after.1 all.1)

-- ---- where there are points

there-before : (xs : List DataSet) (ds : List Changes) (own : List (List Value)) → AllZip BeginsAt ds xs → all_there Before xs ds own ≡ list_all is_some (all_points xs own)
there-before [] ds own begins = refl
there-before (a ∷ xs) [] own begins = absurd begins
there-before (a ∷ xs) (d ∷ ds) [] begins = refl
there-before (a ∷ xs) (d ∷ ds) (k ∷ ks) begins = ap (λ b. is_some (get a k) && b) (there-before xs ds ks begins.1)

there-after : (xs : List DataSet) (ds : List Changes) (own : List (List Value)) → AllZip BeginsAt ds xs → all_there After xs ds own ≡ list_all is_some (all_points (after_news ds xs) own)
there-after [] [] own begins = refl
there-after [] (d ∷ ds) own begins = absurd begins
there-after (a ∷ xs) [] own begins = absurd begins
there-after (a ∷ xs) (d ∷ ds) [] begins = refl
there-after (a ∷ xs) (d ∷ ds) (k ∷ ks) begins = ap (λ b. is_some (get (apply d a) k) && b) (there-after xs ds ks begins.1)

-- where no key is changed the points stay
same-points : (xs : List DataSet) (ds : List Changes) (own : List (List Value)) → AllZip BeginsAt ds xs → Unchanged ds own → all_points (after_news ds xs) own ≡ all_points xs own
same-points [] [] own begins same = refl
same-points [] (d ∷ ds) own begins same = absurd begins
same-points (a ∷ xs) [] own begins same = absurd begins
same-points (a ∷ xs) (d ∷ ds) [] begins same = absurd same
same-points (a ∷ xs) (d ∷ ds) (k ∷ ks) begins same =
    let here : get (apply d a) k ≡ get a k = get-apply key_cmp-IsTotalOrder key_cmp-IsAntisymmetric d a k ∙ ap (λ (c : Option (Pair (List Value))). after c (get a k)) same.0 in
    λ i. here i ∷ same-points xs ds ks begins.1 same.1 i

-- ---- the answer

module _ (j : JoinOn) (typed : IsTypedJoinOn j) (cross : j.function ≡ Cross) where
  -- what the join has at the keys of its operands, one after the other
  joined-at : (sets : List DataSet) (own : List (List Value)) → AreKeysOf j.operands own → (join_working j sets).value (flat own) ≡ joined_point j (all_points sets own)
  joined-at sets own long = each-at j sets cross own long (list_all is_some (all_points sets own)) refl ∙ sym (crossed-joined j.function j.operands j.structure cross (all_points sets own))

  module _ (xs : List DataSet) (news : List Changes) (begins : AllZip BeginsAt news xs) (fit : AllZip IsSetOf j.operands xs) (fit_after : AllZip IsSetOf j.operands (after_news news xs)) where
    abbrev ys : List DataSet
    ys = after_news news xs

    abbrev old : List Value → Option (List Value)
    old = (join_working j xs).value

    abbrev new : List Value → Option (List Value)
    new = (join_working j ys).value

    -- a draft with what changes at these keys, but for which nothing changes, ends in the right answer
    pub right-drafted : (ks : List (List Value)) (n : SetDraft) → IsDraft {R = key_cmp} (λ key. false) [] old new ks n → ((key : List Value) → is_listed key_cmp ks key ≡ false → new key ≡ old key)
        → (x : DataSet) (before : ℕ) → (let o : SetOutcome = Made x in join_meaning j xs ≡ o) → len x ≡ before → IsRight (join_meaning j ys) x (finished before n)
    right-drafted ks n drafted same x before was count =
        let many : length xs ≡ length j.operands = AllZip-long IsSetOf j.operands xs fit in
        let many_after : length ys ≡ length j.operands = AllZip-long IsSetOf j.operands ys fit_after in
        subst (λ points. IsRight (join_meaning j ys) x (finished points n)) count
        (IsRight-outcome key_cmp-IsTotalOrder key_cmp-IsAntisymmetric [] (λ key. false) (join_keys j xs) old [] (λ key. false) (join_keys j ys) new x [] ks n
        (join-covered j xs typed many) (join-covered j ys typed many_after) was
        (record { evaluations = λ k l. refl; values = λ within k l. same k l }) drafted)

    -- ---- what is noted

    abbrev IsTrueOf : Combination → Type 0
    IsTrueOf c = (joined_point j (map (λ r. r.before) c) ≡ old (key_in c)) × (joined_point j (map (λ r. r.after) c) ≡ new (key_in c))

    true-of : (side : Side) (c : Combination) → AllZip (IsChosenOf side) (turned_all xs news) c → IsTrueOf c
    true-of side c all =
        let own = keys_of c in
        let long : AreKeysOf j.operands own = keys-long side j.operands xs news c begins fit fit_after all in
        let at : flat own ≡ key_in c = flat_map-map (λ (k : List Value). k) (λ (r : RowValues). r.key) c in
        (sym (sym (ap old at) ∙ joined-at xs own long ∙ ap (joined_point j) (points-before side xs news c begins all)), sym (sym (ap new at) ∙ joined-at ys own long ∙ ap (joined_point j) (points-after side xs news c begins all)))

    abbrev noted_both : List Combination
    noted_both = changed_both (rows_all xs news)

    all-true : AllByRecursion IsTrueOf noted_both
    all-true =
        let by : (side : Side) → AllByRecursion IsTrueOf (changed_combinations side (rows_all xs news)) =
        λ side. all-weaker (λ c. AllZip (IsChosenOf side) (turned_all xs news) c) IsTrueOf (true-of side) (changed_combinations side (rows_all xs news)) (changed-are side xs news begins) in
        all-append IsTrueOf (changed_combinations Before (rows_all xs news)) (changed_combinations After (rows_all xs news)) (by Before) (by After)

    abbrev Drafted : List (List Value) → SetDraft → Type 0
    Drafted ks n = IsDraft {R = key_cmp} (λ key. false) [] old new ks n

    drafted-more : (cs : List Combination) (ks : List (List Value)) (n : SetDraft) → AllByRecursion IsTrueOf cs → Drafted ks n → Drafted (ks ++ keys_in cs) (fold (noted_combination j) n cs)
    drafted-more [] ks n all h = subst (λ (js : List (List Value)). Drafted js n) (sym (append-nil ks)) h
    drafted-more (c ∷ cs) ks n all h =
        let one : Drafted (ks ++ key_in c ∷ []) (noted_combination j n c) =
        subst (λ (v : Option (List Value)). Drafted (ks ++ key_in c ∷ []) (note_value values_eq (key_in c) v (joined_point j (map (λ r. r.after) c)) n)) (sym all.0.0)
        (subst (λ (v : Option (List Value)). Drafted (ks ++ key_in c ∷ []) (note_value values_eq (key_in c) (old (key_in c)) v n)) (sym all.0.1)
        (IsDraft-value key_cmp-IsTotalOrder key_cmp-IsAntisymmetric (λ k. false) old new values_eq values_eq-IsEqualityTest [] ks (key_in c) n h)) in
        subst (λ (js : List (List Value)). Drafted js (fold (noted_combination j) (noted_combination j n c) cs)) (append_assoc ks (key_in c ∷ []) (keys_in cs)) (drafted-more cs (ks ++ key_in c ∷ []) (noted_combination j n c) all.1 one)

    -- ---- where nothing changes

    same-joined : (own : List (List Value)) → AreKeysOf j.operands own → is_listed key_cmp (keys_in (changed_combinations Before (rows_all xs news))) (flat own) ≡ false → is_listed key_cmp (keys_in (changed_combinations After (rows_all xs news))) (flat own) ≡ false
        → joined_point j (all_points ys own) ≡ joined_point j (all_points xs own)
    same-joined own long no_before no_after = by_points (list_all is_some (all_points xs own)) refl (list_all is_some (all_points ys own)) refl
      where
        as_many : length own ≡ length xs
        as_many =
            let keys = AllZip-long (λ s k. length k ≡ length (identifiers s)) j.operands own long in
            let sets = AllZip-long IsSetOf j.operands xs fit in
            omega (arith, keys, sets)

        unless : (side : Side) → is_listed key_cmp (keys_in (changed_combinations side (rows_all xs news))) (flat own) ≡ false → Unchanged news own ⊎ (is_listed key_cmp (keys_in (changed_combinations side (rows_all xs news))) (flat own) ≡ true)
            → joined_point j (all_points ys own) ≡ joined_point j (all_points xs own)
        unless side none (inl same) = ap (joined_point j) (same-points xs news own begins same)
        unless side none (inr listed) = contradicted (is_listed key_cmp (keys_in (changed_combinations side (rows_all xs news))) (flat own)) listed none

        by_points : (b : Bool) → list_all is_some (all_points xs own) ≡ b → (c : Bool) → list_all is_some (all_points ys own) ≡ c → joined_point j (all_points ys own) ≡ joined_point j (all_points xs own)
        by_points true e c i = unless Before no_before (listed-changed Before xs news own begins as_many (there-before xs news own begins ∙ e))
        by_points false e true i = unless After no_after (listed-changed After xs news own begins as_many (there-after xs news own begins ∙ i))
        by_points false e false i =
            crossed-joined j.function j.operands j.structure cross (all_points ys own) ∙ ap (λ b. then_some b (joined_values j.operands (all_points ys own))) i
            ∙ sym (crossed-joined j.function j.operands j.structure cross (all_points xs own) ∙ ap (λ b. then_some b (joined_values j.operands (all_points xs own))) e)

    same-value : (key : List Value) → is_listed key_cmp (keys_in noted_both) key ≡ false → new key ≡ old key
    same-value key none = by_key (is_key j key) refl
      where
        before : List (List Value)
        before = keys_in (changed_combinations Before (rows_all xs news))

        later : List (List Value)
        later = keys_in (changed_combinations After (rows_all xs news))

        two : (is_listed key_cmp before key ≡ false) × (is_listed key_cmp later key ≡ false)
        two =
            neither (is_listed key_cmp before key) (is_listed key_cmp later key)
            (sym (ap (λ (ks : List (List Value)). is_listed key_cmp ks key) (map-append key_in (changed_combinations Before (rows_all xs news)) (changed_combinations After (rows_all xs news))) ∙ list_any-append (eq_by_cmp key_cmp key) before later) ∙ none)

        by_key : (b : Bool) → is_key j key ≡ b → new key ≡ old key
        by_key true e =
            let parts = split j.operands key (crossed-long j.function j.operands key cross (eqb-true (length key) (length (key_components j)) e)) in
            let own = parts.0 in
            let same : new (flat own) ≡ old (flat own) =
            joined-at ys own parts.1
            ∙ same-joined own parts.1 (subst (λ (k : List Value). is_listed key_cmp before k ≡ false) (sym parts.2) two.0) (subst (λ (k : List Value). is_listed key_cmp later k ≡ false) (sym parts.2) two.1)
            ∙ sym (joined-at xs own parts.1) in
            subst (λ (k : List Value). new k ≡ old k) parts.2 same
        by_key false e =
            let value : (sets : List DataSet) → (join_working j sets).value key ≡ None = λ sets. ap (λ b. if b then joined_point j (points_at j sets key) else None) e in
            value ys ∙ sym (value xs)

    -- what is noted of all combinations in which a row is changed ends in the right answer
    pub right-answer : (x : DataSet) (before : ℕ) → (let o : SetOutcome = Made x in join_meaning j xs ≡ o) → len x ≡ before → IsRight (join_meaning j ys) x (finished before (fold (noted_combination j) nothing (changed_both (rows_all xs news))))
    right-answer x before was count =
        right-drafted (keys_in noted_both) (fold (noted_combination j) nothing noted_both)
        (drafted-more noted_both [] nothing all-true (IsDraft-nothing key_cmp-IsTotalOrder key_cmp-IsAntisymmetric (λ key. false) old new)) same-value x before was count
