-- The finished draft is the right answer, whichever operands the rule is asked for.
use Rattle.std.proofs.Common.{◌≡◌, ◌≢◌, ℕ, zero, suc, ◌+◌, ◌<◌, ◌≤◌, ◌⊎◌, List, [], ◌∷◌, map, zip, length, get_or, Bool, true, false, ◌&&◌, ◌||◌, cond, if◌then◌else◌, Option, Some, None, Result, refl, sym, ap, subst, ◌∙◌, inl, inr, arith}
use Rattle.std.specs.Prelude.{flat_map, fold}
use Rattle.std.specs.Bool.{then_some}
use Rattle.std.specs.List.{AllZip, list_all, range_with_len}
use Rattle.std.specs.Option.{IfSome, is_some}
use Rattle.std.specs.Ordering.{eq_by_cmp}
use Rattle.std.specs.FinMap.{empty, get, keys, len}
use Rattle.std.proofs.lemmas.Bool.{and_right, cases_eq, cases_lt, eq-eqb, eqb-true, ne_eqb}
use Rattle.std.proofs.lemmas.List.{get_or-map, length-map, same_lists}
use Rattle.std.proofs.lemmas.List.Folds.{list_any-append}
use Rattle.std.proofs.lemmas.Option.{unwrap_or-slice_get}
use Rattle.std.proofs.lemmas.Simd.{map-map}
use Rattle.std.proofs.lemmas.Slice.Zip.{get_or-zip, length-zip}
use Rattle.vtl_values.specs.Order.{key_cmp}
use Rattle.vtl_values.specs.declared.value.Value.{Value}
use Rattle.vtl_values.proofs.Values.{key_cmp-IsTotalOrder, key_cmp-IsAntisymmetric}
use Rattle.vtl_syntax.specs.declared.words.JoinFunction.{JoinFunction}
use Rattle.vtl_syntax.specs.declared.words.JoinFunction.TheVariants.{Inner}
use Rattle.data_model.specs.Answers.{IsRight}
use Rattle.data_model.specs.Deltas.{Pair}
use Rattle.data_model.specs.Drafts.{finished, nothing}
use Rattle.data_model.specs.Maps.{is_listed}
use Rattle.data_model.specs.Outcomes.{Made}
use Rattle.data_model.proofs.DeltaLemmas.{contradicted}
use Rattle.data_model.proofs.DraftLemmas.{IsRight-outcome}
use Rattle.data_model.proofs.MapLemmas.{is_listed-keys}
use Rattle.point_sets.specs.Changes.{Changes}
use Rattle.point_sets.specs.DataSets.{DataSet}
use Rattle.structured_sets.specs.Fitting.{IsSetOf, IsBoundedSetOf}
use Rattle.clause_meaning.specs.Clauses.{values_at}
use Rattle.clause_meaning.proofs.Lists.{listed-flat_map}
use Rattle.clause_meaning.proofs.Picked.{AllZip-weaker}
use Rattle.data_set_trees.specs.declared.tree.DataSetOperator.TheVariants.{Join}
use Rattle.data_set_trees.specs.checked.Operators.{an_operator, Operator}
use Rattle.operator_meaning.specs.Operators.{meaning_of, AreOperands}
use Rattle.held_index.specs.Drafts.{SetDraft}
use Rattle.held_index.specs.Holdings.{Holding, operand, part_of}
use Rattle.held_index.specs.Rules.{SetOutcome, answer_of, after_news, AreAsked, IsRightAnswer}
use Rattle.held_index.specs.Walks.{PointValues, part_key}
use Rattle.held_index.specs.declared.stop.Stop.{Stop}
use Rattle.held_index.proofs.Rules.{IsRightAnswer-finished}
use Rattle.operator_meaning.proofs.pairs.Names.{either-left, either-right}
use Rattle.pair_ops.proofs.Parts.{listed-part}
use Rattle.operator_meaning.specs.joins.Joins.{JoinOn, is_key, key_components, join_keys, joined_point, joined_values, join_meaning, join_working, own_places, points_at, stays}
use Rattle.operator_meaning.proofs.joins.Covered.{join-covered}
use Rattle.operator_meaning.proofs.joins.Crossed.{listed-map}
use Rattle.join_eval.specs.Plans.{own_key}
use Rattle.join_eval.proofs.Kept.{length-places}
use Rattle.inner_joins.specs.Noted.{all_keys, held_for, keys_met, keys_of, news_of, noted_key, AreBehind, Notes}
use Rattle.inner_joins.specs.Rules.{join_in, key_from, main_number, parts_for, place_of, wanted_of, wants_on, IsInner, IsInnerOn}
use Rattle.inner_joins.proofs.Behind.{many, many-after, stays-at}
use Rattle.inner_joins.proofs.Folded.{noted-all}
use Rattle.inner_joins.proofs.Keys.{main-within, main-long, main-forth, other-back}
use Rattle.inner_joins.proofs.Places.{parts-content, place-below}

-- ---- lists

-- what is listed of one number is listed of all
listed-in_range : (f : ℕ → List (List Value)) (key : List Value) (a n k : ℕ) → a ≤ k → k < a + n → is_listed key_cmp (f k) key ≡ true → is_listed key_cmp (flat_map f (range_with_len a n)) key ≡ true
listed-in_range f key a zero k low high h = absurd (omega (arith, low, high))
listed-in_range f key a (suc n) k low high h =
    list_any-append (eq_by_cmp key_cmp key) (f a) (flat_map f (range_with_len (a + 1) n))
    ∙ by_place (cases_lt a k) (λ above. listed-in_range f key (a + 1) n k (omega (arith, above)) (omega (arith, high)) h)
  where
    rest : List (List Value)
    rest = flat_map f (range_with_len (a + 1) n)

    by_place : (a < k) ⊎ (k ≤ a) → (a < k → is_listed key_cmp rest key ≡ true) → (is_listed key_cmp (f a) key || is_listed key_cmp rest key) ≡ true
    by_place (inl above) later = either-right (is_listed key_cmp (f a) key) (is_listed key_cmp rest key) (later above)
    by_place (inr below) later =
        let same : k ≡ a = omega (arith, low, below) in
        either-left (is_listed key_cmp (f a) key) (is_listed key_cmp rest key) (subst (λ (i : ℕ). is_listed key_cmp (f i) key ≡ true) same h)

-- where one is missing not all are there
not-all : (ps : List (Option (List Value))) (i : ℕ) (d : Option (List Value)) → i < length ps → get_or ps i d ≡ None → list_all (λ b. b) (map is_some ps) ≡ false
not-all [] i d within none = absurd (omega (arith, within))
not-all (p ∷ ps) zero d within none = ap (λ (o : Option (List Value)). is_some o && list_all (λ b. b) (map is_some ps)) none
not-all (p ∷ ps) (suc i) d within none = and_right (is_some p) (list_all (λ b. b) (map is_some ps)) (not-all ps i d (omega (arith, within)) none)

-- ---- points

length-points : (j : JoinOn) (sets : List DataSet) (key : List Value) → length sets ≡ length j.operands → length (points_at j sets key) ≡ length j.operands
length-points j sets key long =
    let zipped = length-map (zip (own_places j) sets) (λ q. get q.1 (values_at q.0 key)) in
    let shorter = length-zip (own_places j) sets in
    let places = length-places j in
    omega (arith, zipped, shorter, places, long)

-- what an operand has at its own key
point-at : (j : JoinOn) (sets : List DataSet) (key : List Value) (number : ℕ) (d : Option (List Value)) → length sets ≡ length j.operands → number < length j.operands → get_or (points_at j sets key) number d ≡ get (operand number sets) (own_key j number key)
point-at j sets key number d long within =
    let no_place : List ℕ = [] in
    let no_point : DataSet = empty in
    let point : List ℕ × DataSet → Option (List Value) = λ q. get q.1 (values_at q.0 key) in
    let places = length-places j in
    let zipped = length-zip (own_places j) sets in
    get_or-map point (zip (own_places j) sets) number (no_place, no_point) d (omega (arith, zipped, places, long, within))
    ∙ ap point (get_or-zip (own_places j) sets number (no_place, no_point) (omega (arith, places, within)) (omega (arith, long, within)))
    ∙ ap (λ (m : DataSet). get m (own_key j number key)) (sym (unwrap_or-slice_get sets number no_point))

-- an inner join has no point where an operand has none
none-joined : (j : JoinOn) (points : List (Option (List Value))) (number : ℕ) (d : Option (List Value)) → j.function ≡ Inner → number < length points → get_or points number d ≡ None → joined_point j points ≡ None
none-joined j points number d inner within none =
    ap (λ (f : JoinFunction). then_some (stays f (map is_some points)) (joined_values j.operands points)) inner
    ∙ ap (λ b. then_some b (joined_values j.operands points)) (not-all points number d within none)

module _ (j : JoinOn) (on : IsInnerOn j) (held : List Holding) (news : List Changes) (xs : List DataSet) (behind : AreBehind j held news xs) where
  abbrev main : ℕ
  main = main_number j

  abbrev ys : List DataSet
  ys = after_news news xs

  -- ---- which keys are noted

  listed-of : (number : ℕ) → number < length j.operands → (key : List Value) → is_listed key_cmp (keys_of j held news number) key ≡ true → is_listed key_cmp (all_keys j held news) key ≡ true
  listed-of number within key h = listed-in_range (keys_of j held news) key 0 (length j.operands) number (omega arith) (omega (arith, within)) h

  of-main : keys_of j held news main ≡ map (key_from j) (keys (news_of main news))
  of-main = ap (λ b. if b then map (key_from j) (keys (news_of main news)) else flat_map (keys_met j held main) (keys (news_of main news))) (eq-eqb main main refl)

  of-other : (number : ℕ) → number ≢ main → keys_of j held news number ≡ flat_map (keys_met j held number) (keys (news_of number news))
  of-other number other = ap (λ b. if b then map (key_from j) (keys (news_of number news)) else flat_map (keys_met j held number) (keys (news_of number news))) (ne_eqb number main other)

  changed-listed : (d : Changes) (k : List Value) (x : Pair (List Value)) → get d k ≡ Some x → is_listed key_cmp (keys d) k ≡ true
  changed-listed d k x there = is_listed-keys key_cmp-IsTotalOrder d k ∙ ap is_some there

  module _ (key : List Value) (long : length key ≡ length (key_components j)) where
    abbrev own : List Value
    own = own_key j main key

    -- the key at which the main operand changes
    main-noted : (x : Pair (List Value)) → get (news_of main news) own ≡ Some x → is_listed key_cmp (all_keys j held news) key ≡ true
    main-noted x there =
        let listed = listed-map (key_from j) own (keys (news_of main news)) (changed-listed (news_of main news) own x there) in
        let here : is_listed key_cmp (map (key_from j) (keys (news_of main news))) key ≡ true = subst (λ (k : List Value). is_listed key_cmp (map (key_from j) (keys (news_of main news))) k ≡ true) (main-forth j on key long) listed in
        listed-of main (main-within j on) key (subst (λ (ks : List (List Value)). is_listed key_cmp ks key ≡ true) (sym of-main) here)

    -- and one at which another operand changes, where the main one has a point
    other-noted : (number : ℕ) → number < length j.operands → number ≢ main → (rest : List Value) → get (operand main xs) own ≡ Some rest → (x : Pair (List Value)) → get (news_of number news) (own_key j number key) ≡ Some x
        → is_listed key_cmp (all_keys j held news) key ≡ true
    other-noted number within other rest here x there =
        let part : List Value = own_key j number key in
        let content : (held_for j held number).content ≡ operand main xs = parts-content j held xs behind.held_is (place_of main number) (place-below main number (length j.operands) (main-within j on) within other) in
        let in_it : part_key (parts_for j number).part (own, rest) ≡ part = sym (other-back j on own (main-long j on key long) number within rest) ∙ ap (own_key j number) (main-forth j on key long) in
        let met = listed-part (parts_for j number) own part rest in_it (operand main xs) here in
        let points : List (List Value) = map (λ (p : PointValues). p.0) (part_of (parts_for j number) part (operand main xs)) in
        let its_keys : keys_met j held number part ≡ map (key_from j) points =
        ap (λ (m : DataSet). map (λ (p : PointValues). key_from j p.0) (part_of (parts_for j number) part m)) content
        ∙ sym (map-map (key_from j) (λ (p : PointValues). p.0) (part_of (parts_for j number) part (operand main xs))) in
        let of_part : is_listed key_cmp (keys_met j held number part) key ≡ true =
        ap (λ (ks : List (List Value)). is_listed key_cmp ks key) its_keys
        ∙ ap (is_listed key_cmp (map (key_from j) points)) (sym (main-forth j on key long))
        ∙ listed-map (key_from j) own points met in
        listed-of number within key
        (ap (λ (ks : List (List Value)). is_listed key_cmp ks key) (of-other number other)
        ∙ listed-flat_map key_cmp key_cmp key_cmp-IsTotalOrder key_cmp-IsAntisymmetric (keys_met j held number) part key (keys (news_of number news)) (changed-listed (news_of number news) part x there) of_part)

    -- ---- where nothing is noted

    module _ (unlisted : is_listed key_cmp (all_keys j held news) key ≡ false) where
      same-main : get (operand main ys) own ≡ get (operand main xs) own
      same-main = by_change (get (news_of main news) own) refl
        where
          by_change : (o : Option (Pair (List Value))) → get (news_of main news) own ≡ o → get (operand main ys) own ≡ get (operand main xs) own
          by_change None there = stays-at j held news xs behind main (main-within j on) own there
          by_change (Some x) there = contradicted (is_listed key_cmp (all_keys j held news) key) (main-noted x there) unlisted

      same-other : (number : ℕ) → number < length j.operands → number ≢ main → (rest : List Value) → get (operand main xs) own ≡ Some rest → get (operand number ys) (own_key j number key) ≡ get (operand number xs) (own_key j number key)
      same-other number within other rest here = by_change (get (news_of number news) (own_key j number key)) refl
        where
          by_change : (o : Option (Pair (List Value))) → get (news_of number news) (own_key j number key) ≡ o → get (operand number ys) (own_key j number key) ≡ get (operand number xs) (own_key j number key)
          by_change None there = stays-at j held news xs behind number within (own_key j number key) there
          by_change (Some x) there = contradicted (is_listed key_cmp (all_keys j held news) key) (other-noted number within other rest here x there) unlisted

      same-each : (rest : List Value) → get (operand main xs) own ≡ Some rest → (number : ℕ) → number < length j.operands → get (operand number ys) (own_key j number key) ≡ get (operand number xs) (own_key j number key)
      same-each rest here number within = by_number (cases_eq number main)
        where
          by_number : (number ≡ main) ⊎ (number ≡ main → ⊥) → get (operand number ys) (own_key j number key) ≡ get (operand number xs) (own_key j number key)
          by_number (inl same) = subst (λ (n : ℕ). get (operand n ys) (own_key j n key) ≡ get (operand n xs) (own_key j n key)) (sym same) same-main
          by_number (inr other) = same-other number within other rest here

      same-points : (rest : List Value) → get (operand main xs) own ≡ Some rest → points_at j ys key ≡ points_at j xs key
      same-points rest here =
          let after_long = length-points j ys key (many-after j held news xs behind) in
          let before_long = length-points j xs key (many j held news xs behind) in
          same_lists (points_at j ys key) (points_at j xs key) (after_long ∙ sym before_long)
          (λ k d inside.
          let within : k < length j.operands = omega (arith, inside, after_long) in
          point-at j ys key k d (many-after j held news xs behind) within ∙ same-each rest here k within ∙ sym (point-at j xs key k d (many j held news xs behind) within))

      none-there : (sets : List DataSet) → length sets ≡ length j.operands → get (operand main sets) own ≡ None → joined_point j (points_at j sets key) ≡ None
      none-there sets long_sets none =
          none-joined j (points_at j sets key) main None on.inner (let long_points = length-points j sets key long_sets in let inside = main-within j on in omega (arith, long_points, inside))
          (point-at j sets key main None long_sets (main-within j on) ∙ none)

      same-joined : joined_point j (points_at j ys key) ≡ joined_point j (points_at j xs key)
      same-joined = by_point (get (operand main xs) own) refl
        where
          by_point : (o : Option (List Value)) → get (operand main xs) own ≡ o → joined_point j (points_at j ys key) ≡ joined_point j (points_at j xs key)
          by_point None none = none-there ys (many-after j held news xs behind) (same-main ∙ none) ∙ sym (none-there xs (many j held news xs behind) none)
          by_point (Some rest) here = ap (joined_point j) (same-points rest here)

  -- the value at a key, whether it is one of the join or not
  same-value : (key : List Value) → is_listed key_cmp (all_keys j held news) key ≡ false → (join_working j ys).value key ≡ (join_working j xs).value key
  same-value key unlisted = by_key (is_key j key) refl
    where
      by_key : (b : Bool) → is_key j key ≡ b → cond b (joined_point j (points_at j ys key)) None ≡ cond b (joined_point j (points_at j xs key)) None
      by_key true e = same-joined key (eqb-true (length key) (length (key_components j)) e) unlisted
      by_key false e = refl

  -- ---- the answer

  right-answer : (x : DataSet) (before : ℕ) (n : SetDraft) → n ≡ fold (noted_key j xs news) nothing (all_keys j held news) → (let o : SetOutcome = Made x in join_meaning j xs ≡ o) → len x ≡ before → IsRight (join_meaning j ys) x (finished before n)
  right-answer x before n drafted was count =
      let ks : List (List Value) = all_keys j held news in
      let noted : SetDraft = fold (noted_key j xs news) nothing ks in
      subst (λ (m : SetDraft). IsRight (join_meaning j ys) x (finished before m)) (sym drafted)
      (subst (λ points. IsRight (join_meaning j ys) x (finished points noted)) count
      (IsRight-outcome key_cmp-IsTotalOrder key_cmp-IsAntisymmetric [] (λ key. false) (join_keys j xs) (join_working j xs).value [] (λ key. false) (join_keys j ys) (join_working j ys).value x [] ks noted
      (join-covered j xs on.typed (many j held news xs behind)) (join-covered j ys on.typed (many-after j held news xs behind)) was
      (record { evaluations = λ k l. refl; values = λ within k l. same-value k l }) (noted-all j xs news ks)))

-- ---- whichever operands the rule is asked for

fit-all : (j : JoinOn) (xs : List DataSet) → AreOperands j.operands xs → AllZip IsSetOf j.operands xs
fit-all j xs admitted = AllZip-weaker IsBoundedSetOf IsSetOf (λ s x bounded. bounded.fits) j.operands xs admitted

module _ (j : JoinOn) (on : IsInnerOn j) (held : List Holding) (news : List Changes) (before : ℕ) (n : SetDraft) (noted : Notes j held news (all_keys j held news) nothing n) where
  asked-right : (xs : List DataSet) (x : DataSet) → AreAsked (AreOperands j.operands) (join_meaning j) (wants_on j) held news before xs x → IsRight (join_meaning j (after_news news xs)) x (finished before n)
  asked-right xs x asked =
      let behind : AreBehind j held news xs = record {
        fit = fit-all j xs asked.admitted;
        fit_after = fit-all j (after_news news xs) asked.admitted_after;
        begin = asked.begins;
        held_is = asked.held_is;
      } in
      right-answer j on held news xs behind x before n (noted xs behind) asked.result_is asked.count

-- the draft in which all keys are noted ends in the right answer
pub right-for-all : (o : Operator) → IsInner o.operator → (j : JoinOn) → j ≡ join_in o → IsInnerOn j → (held : List Holding) (news : List Changes) (before : ℕ) (n : SetDraft) → Notes j held news (all_keys j held news) nothing n
    → (answer : Result Changes Stop) → IfSome (answer_of answer) (λ a. a ≡ finished before n) → IsRightAnswer (AreOperands o.operands) (meaning_of o) (wanted_of o) held news before answer
right-for-all o inner j planned on held news before n noted answer ends =
    let join : JoinOn = join_in o in
    let its : IsInnerOn join = subst IsInnerOn planned on in
    let its_notes : Notes join held news (all_keys join held news) nothing n = subst (λ (i : JoinOn). Notes i held news (all_keys i held news) nothing n) planned noted in
    let is : o ≡ an_operator (Join Inner) o.operands o.structure = λ i. an_operator (inner i) o.operands o.structure in
    subst (λ (q : Operator). IsRightAnswer (AreOperands q.operands) (meaning_of q) (wanted_of q) held news before answer) (sym is)
    (IsRightAnswer-finished (AreOperands o.operands) (join_meaning join) (wants_on join) held news before answer n ends (asked-right join its held news before n its_notes))
