-- What two data sets have at the keys of the result, before the news and after them, and a draft that notes it.
use Rattle.std.proofs.Common.{◌≡◌, ◌≢◌, ℕ, List, [], ◌∷◌, ◌++◌, map, length, Bool, true, false, if◌then◌else◌, Option, Some, None, option_map, refl, sym, ap, subst, ◌∙◌, append_assoc}
use Rattle.std.specs.Prelude.{flat_map, fold}
use Rattle.std.specs.List.{AllByRecursion}
use Rattle.std.specs.Option.{IfSome, is_some, option_zip}
use Rattle.std.specs.Ordering.{eq_by_cmp}
use Rattle.std.specs.FinMap.{FinMap, entries, get, keys, len}
use Rattle.std.proofs.lemmas.List.{append-nil}
use Rattle.std.proofs.lemmas.List.Folds.{list_any-append}
use Rattle.std.proofs.lemmas.Slice.Zip.{AllZip-long}
use Rattle.vtl_values.specs.Order.{key_cmp}
use Rattle.vtl_values.proofs.Values.{key_cmp-IsTotalOrder, key_cmp-IsAntisymmetric}
use Rattle.vtl_values.specs.declared.structure.Component.{Component}
use Rattle.vtl_values.specs.declared.value.Value.{Value}
use Rattle.data_model.specs.Maps.{is_listed}
use Rattle.data_model.specs.Deltas.{Pair, apply, after, BeginsAt, Differs}
use Rattle.data_model.specs.Drafts.{nothing, finished, IsDraft, IsSameElsewhere}
use Rattle.data_model.specs.Outcomes.{Made}
use Rattle.data_model.specs.Answers.{IsRight}
use Rattle.data_model.proofs.DeltaLemmas.{contradicted, get-apply}
use Rattle.data_model.proofs.DraftLemmas.{IsDraft-nothing, IsDraft-found, IsRight-finished}
use Rattle.data_model.proofs.MapLemmas.{is_listed-keys, neither, tied, tied_to_itself}
use Rattle.point_sets.specs.Changes.{Changes, values_eq}
use Rattle.point_sets.specs.DataSets.{DataSet}
use Rattle.point_sets.proofs.Changes.{values_eq-IsEqualityTest}
use Rattle.structured_sets.specs.Fitting as fitting
use Rattle.structured_sets.specs.Fitting.{FitsIdentifier, IsPointOf, IsSetOf}
use Rattle.clause_meaning.specs.Workings.{Working}
use Rattle.clause_meaning.proofs.ByRole.{of-identifiers}
use Rattle.clause_meaning.proofs.Lists.{listed-flat_map}
use Rattle.data_set_trees.specs.Components.{identifiers}
use Rattle.held_index.specs.Drafts.{SetDraft}
use Rattle.held_index.specs.Holdings.{part_of}
use Rattle.held_index.specs.Rules.{SetOutcome}
use Rattle.held_index.specs.Walks.{PointValues, part_key}
use Rattle.held_index.specs.declared.want.Want.{Want}
use Rattle.operator_meaning.specs.pairs.Pairs.{PairOn, is_key, is_left_main, key_between, main, main_key, pair_at, pair_meaning, pair_working, partner, partner_key, result_key, values_there}
use Rattle.operator_meaning.specs.pairs.Typed.{IsTypedPair}
use Rattle.operator_meaning.proofs.pairs.Keys.{main-back, partner-same}
use Rattle.operator_meaning.proofs.pairs.Paired.{listed-map, pair-meant, pair-result}
use Rattle.pair_eval.specs.Made.{AllValues, is_beyond, value_of}
use Rattle.pair_eval.specs.Plans.{partner_numbers}
use Rattle.pair_ops.specs.Noted.{ChangeValues, in_turn, met, noted_main, noted_met, noted_partner, noted_point}
use Rattle.pair_ops.proofs.Parts.{IsInPart, all_in_part, entries-there, listed-part, part_key-between}

-- ---- the main operand and the other one in their places

abbrev pub left_of : PairOn → DataSet → DataSet → DataSet
left_of p m q = if is_left_main p then m else q

abbrev pub right_of : PairOn → DataSet → DataSet → DataSet
right_of p m q = if is_left_main p then q else m

-- how the operator is worked out on them
abbrev pub on : PairOn → DataSet → DataSet → Working
on p m q = pair_working p (left_of p m q) (right_of p m q)

-- the points of both where they meet
abbrev pub meeting : PairOn → DataSet → DataSet → List Value → AllValues
meeting p m q k = pair_at p (left_of p m q) (right_of p m q) k

abbrev both_at : PairOn → DataSet → DataSet → List Value → AllValues
both_at p m q k = in_turn p (values_there m (main_key p k)) (values_there q (key_between p.structure (partner p) k))

by_side : (b : Bool) (s l r : List Component) (m q : DataSet) (k : List Value)
    → option_zip (values_there (if b then m else q) (key_between s l k)) (values_there (if b then q else m) (key_between s r k))
    ≡ (if b then option_zip (values_there m (key_between s (if b then l else r) k)) (values_there q (key_between s (if b then r else l) k)) else option_zip (values_there q (key_between s (if b then r else l) k)) (values_there m (key_between s (if b then l else r) k)))
by_side true s l r m q k = refl
by_side false s l r m q k = refl

meeting-is : (p : PairOn) (m q : DataSet) (k : List Value) → meeting p m q k ≡ (if is_key p k then both_at p m q k else None)
meeting-is p m q k = ap (λ (o : AllValues). if is_key p k then o else None) (by_side (is_left_main p) p.structure p.left p.right m q k)

-- nothing meets where the main operand has no point
nothing_met : (p : PairOn) (x y : Option (List Value)) → in_turn p None x ≡ in_turn p None y
nothing_met p x y = by_test (is_left_main p)
  where
    none : (o : Option (List Value)) → ◌≡◌ {A = AllValues} (option_zip o None) None
    none None = refl
    none (Some v) = refl

    by_test : (b : Bool) → ◌≡◌ {A = AllValues} (if b then option_zip None x else option_zip x None) (if b then option_zip None y else option_zip y None)
    by_test true = refl
    by_test false = none x ∙ sym (none y)

-- a key of a data set has a value for each identifier
pub long-key : (cs : List Component) (m : DataSet) (key rest : List Value) → IsSetOf cs m → get m key ≡ Some rest → length key ≡ length (identifiers cs)
long-key cs m key rest fit there =
    let point : IsPointOf cs key rest = subst (λ (o : Option (List Value)). IfSome o (IsPointOf cs key)) there (fit key) in
    AllZip-long FitsIdentifier (fitting.identifiers cs) key point.key_fits ∙ ap length (sym (of-identifiers cs))

-- ---- at the key that a key of the main operand comes to

module _ (p : PairOn) (typed : IsTypedPair p) (key : List Value) (long : length key ≡ length (identifiers (main p))) where
  its_key : is_key p (result_key p key) ≡ true
  its_key = ap (λ (k : List Value). eq_by_cmp key_cmp (result_key p key) (result_key p k)) (main-back p typed key long) ∙ tied_to_itself key_cmp-IsTotalOrder (result_key p key)

  pub meeting-result : (m q : DataSet) → meeting p m q (result_key p key) ≡ met p key (partner_key p key) (get m key) (get q (partner_key p key))
  meeting-result m q =
      meeting-is p m q (result_key p key)
      ∙ ap (λ b. if b then both_at p m q (result_key p key) else None) its_key
      ∙ (λ i. in_turn p (values_there m (main-back p typed key long i)) (values_there q (partner-same p typed key long i)))

-- ---- drafts

module _ (p : PairOn) (m q : DataSet) (d e : Changes) where
  -- these keys of the result are noted
  abbrev pub IsNoted : List (List Value) → SetDraft → Type 0
  IsNoted ks n = IsDraft {R = key_cmp} (on p (apply d m) (apply e q)).beyond ks (on p m q).value (on p (apply d m) (apply e q)).value ks n

  pub noted-nothing : IsNoted [] nothing
  noted-nothing = IsDraft-nothing key_cmp-IsTotalOrder key_cmp-IsAntisymmetric (on p (apply d m) (apply e q)).beyond (on p m q).value (on p (apply d m) (apply e q)).value

  noted-met : (k : List Value) (was is : AllValues) (ks : List (List Value)) (n : SetDraft) → was ≡ meeting p m q k → is ≡ meeting p (apply d m) (apply e q) k → IsNoted ks n → IsNoted (ks ++ k ∷ []) (noted_met p k was is n)
  noted-met k was is ks n old new h =
      IsDraft-found key_cmp-IsTotalOrder key_cmp-IsAntisymmetric (on p (apply d m) (apply e q)).beyond (on p m q).value (on p (apply d m) (apply e q)).value values_eq values_eq-IsEqualityTest
      ks ks k (is_beyond p is) (value_of p was) (value_of p is) n (ap (is_beyond p) new) (λ within. (ap (value_of p) old, ap (value_of p) new)) h

  module _ (typed : IsTypedPair p) (fit : IsSetOf (main p) m) (fit_after : IsSetOf (main p) (apply d m)) (begins : BeginsAt d m) (partner_begins : BeginsAt e q) (differs : Differs d) where
    after-news : (a : DataSet) (c : Changes) (k : List Value) → get (apply c a) k ≡ after (get c k) (get a k)
    after-news a c k = get-apply key_cmp-IsTotalOrder key_cmp-IsAntisymmetric c a k

    old-of : (a : DataSet) (c : Changes) (k : List Value) (x : Pair (List Value)) → BeginsAt c a → get c k ≡ Some x → get a k ≡ x.0
    old-of a c k x at there = subst (λ (o : Option (Pair (List Value))). IfSome o (λ y. get a k ≡ y.0)) there (at k)

    new-of : (a : DataSet) (c : Changes) (k : List Value) (x : Pair (List Value)) → get c k ≡ Some x → get (apply c a) k ≡ x.1
    new-of a c k x there = after-news a c k ∙ ap (λ (o : Option (Pair (List Value))). after o (get a k)) there

    -- ---- changes of the main operand

    long-changed : (k : List Value) (x y : Option (List Value)) → x ≢ y → get m k ≡ x → get (apply d m) k ≡ y → length k ≡ length (identifiers (main p))
    long-changed k (Some rest) y apart was is = long-key (main p) m k rest fit was
    long-changed k None (Some rest) apart was is = long-key (main p) (apply d m) k rest fit_after is
    long-changed k None None apart was is = absurd (apart refl)

    noted-main : (c : ChangeValues) (ks : List (List Value)) (n : SetDraft) → get d c.0 ≡ Some c.1 → IsNoted ks n → IsNoted (ks ++ result_key p c.0 ∷ []) (noted_main p q e n c)
    noted-main c ks n there h =
        let key : List Value = partner_key p c.0 in
        let old = old-of m d c.0 c.1 begins there in
        let new = new-of m d c.0 c.1 there in
        let apart : c.1.0 ≢ c.1.1 = subst (λ (o : Option (Pair (List Value))). IfSome o (λ y. y.0 ≢ y.1)) there (differs c.0) in
        let long = long-changed c.0 c.1.0 c.1.1 apart old new in
        noted-met (result_key p c.0) (met p c.0 key c.1.0 (get q key)) (met p c.0 key c.1.1 (after (get e key) (get q key))) ks n
        (ap (λ (o : Option (List Value)). met p c.0 key o (get q key)) (sym old) ∙ sym (meeting-result p typed c.0 long m q))
        ((λ i. met p c.0 key (sym new i) (sym (after-news q e key) i)) ∙ sym (meeting-result p typed c.0 long (apply d m) (apply e q)))
        h

    pub noted-mains : (cs : List ChangeValues) → AllByRecursion (λ c. get d c.0 ≡ Some c.1) cs → (ks : List (List Value)) (n : SetDraft) → IsNoted ks n → IsNoted (ks ++ map (result_key p) (map (λ c. c.0) cs)) (fold (noted_main p q e) n cs)
    noted-mains [] all ks n h = subst (λ (t : List (List Value)). IsNoted t n) (sym (append-nil ks)) h
    noted-mains (c ∷ cs) all ks n h =
        subst (λ (t : List (List Value)). IsNoted t (fold (noted_main p q e) (noted_main p q e n c) cs)) (append_assoc ks (result_key p c.0 ∷ []) (map (result_key p) (map (λ c. c.0) cs)))
        (noted-mains cs all.1 (ks ++ result_key p c.0 ∷ []) (noted_main p q e n c) (noted-main c ks n all.0 h))

    -- ---- changes of the other operand

    module _ (w : Want) (parts : w.part ≡ partner_numbers p) where
      -- the keys of the result at which points of a part count
      abbrev keys_in : List Value → List (List Value)
      keys_in part = map (result_key p) (map (λ (x : PointValues). x.0) (part_of w part m))

      -- the part of a point is that of its partner's key
      its_part : (key rest : List Value) → length key ≡ length (identifiers (main p)) → part_key w.part (key, rest) ≡ partner_key p key
      its_part key rest long = ap (λ numbers. part_key numbers (key, rest)) parts ∙ part_key-between (main p) (partner p) key rest long

      noted-point : (c : ChangeValues) (x : PointValues) (ks : List (List Value)) (n : SetDraft) → get e c.0 ≡ Some c.1 → IsInPart w.part c.0 m x → IsNoted ks n → IsNoted (ks ++ result_key p x.0 ∷ []) (noted_point p d c n x)
      noted-point c x ks n there is h =
          let long = long-key (main p) m x.0 x.1 fit is.there in
          let key : c.0 ≡ partner_key p x.0 = sym is.in_it ∙ its_part x.0 x.1 long in
          let old : c.1.0 ≡ get q (partner_key p x.0) = sym (old-of q e c.0 c.1 partner_begins there) ∙ ap (get q) key in
          let new : c.1.1 ≡ get (apply e q) (partner_key p x.0) = sym (new-of q e c.0 c.1 there) ∙ ap (get (apply e q)) key in
          let own : after (get d x.0) (Some x.1) ≡ get (apply d m) x.0 = ap (after (get d x.0)) (sym is.there) ∙ sym (after-news m d x.0) in
          noted-met (result_key p x.0) (met p x.0 c.0 (Some x.1) c.1.0) (met p x.0 c.0 (after (get d x.0) (Some x.1)) c.1.1) ks n
          ((λ i. met p x.0 (key i) (sym is.there i) (old i)) ∙ sym (meeting-result p typed x.0 long m q))
          ((λ i. met p x.0 (key i) (own i) (new i)) ∙ sym (meeting-result p typed x.0 long (apply d m) (apply e q)))
          h

      noted-points : (c : ChangeValues) (xs : List PointValues) → get e c.0 ≡ Some c.1 → AllByRecursion (IsInPart w.part c.0 m) xs → (ks : List (List Value)) (n : SetDraft) → IsNoted ks n → IsNoted (ks ++ map (result_key p) (map (λ x. x.0) xs)) (fold (noted_point p d c) n xs)
      noted-points c [] there all ks n h = subst (λ (t : List (List Value)). IsNoted t n) (sym (append-nil ks)) h
      noted-points c (x ∷ xs) there all ks n h =
          subst (λ (t : List (List Value)). IsNoted t (fold (noted_point p d c) (noted_point p d c n x) xs)) (append_assoc ks (result_key p x.0 ∷ []) (map (result_key p) (map (λ x. x.0) xs)))
          (noted-points c xs there all.1 (ks ++ result_key p x.0 ∷ []) (noted_point p d c n x) (noted-point c x ks n there all.0 h))

      pub noted-partners : (cs : List ChangeValues) → AllByRecursion (λ c. get e c.0 ≡ Some c.1) cs → (ks : List (List Value)) (n : SetDraft) → IsNoted ks n
          → IsNoted (ks ++ flat_map keys_in (map (λ c. c.0) cs)) (fold (noted_partner p (record { want = w; content = m }) d) n cs)
      noted-partners [] all ks n h = subst (λ (t : List (List Value)). IsNoted t n) (sym (append-nil ks)) h
      noted-partners (c ∷ cs) all ks n h =
          let one : SetDraft = noted_partner p (record { want = w; content = m }) d n c in
          subst (λ (t : List (List Value)). IsNoted t (fold (noted_partner p (record { want = w; content = m }) d) one cs)) (append_assoc ks (keys_in c.0) (flat_map keys_in (map (λ c. c.0) cs)))
          (noted-partners cs all.1 (ks ++ keys_in c.0) one (noted-points c (part_of w c.0 m) all.0 (all_in_part w c.0 m) ks n h))

      -- ---- where nothing changes

      abbrev pub noted_keys : List (List Value)
      noted_keys = map (result_key p) (keys d) ++ flat_map keys_in (keys e)

      changed-listed : {X : Type 0} (c : FinMap key_cmp X) (k : List Value) (x : X) → get c k ≡ Some x → is_listed key_cmp (keys c) k ≡ true
      changed-listed c k x there = is_listed-keys key_cmp-IsTotalOrder c k ∙ ap is_some there

      module _ (k : List Value) (unlisted : is_listed key_cmp noted_keys k ≡ false) where
        apart : (is_listed key_cmp (map (result_key p) (keys d)) k ≡ false) × (is_listed key_cmp (flat_map keys_in (keys e)) k ≡ false)
        apart = neither _ _ (sym (list_any-append (eq_by_cmp key_cmp k) (map (result_key p) (keys d)) (flat_map keys_in (keys e))) ∙ unlisted)

        module _ (back : k ≡ result_key p (main_key p k)) where
          abbrev own : List Value
          own = main_key p k

          abbrev other : List Value
          other = key_between p.structure (partner p) k

          same-own : get (apply d m) own ≡ get m own
          same-own = after-news m d own ∙ by_change (get d own) refl
            where
              by_change : (o : Option (Pair (List Value))) → get d own ≡ o → after o (get m own) ≡ get m own
              by_change None there = refl
              by_change (Some x) there = contradicted (is_listed key_cmp (map (result_key p) (keys d)) k) (ap (is_listed key_cmp (map (result_key p) (keys d))) back ∙ listed-map (result_key p) own (keys d) (changed-listed d own x there)) apart.0

          met-listed : (rest : List Value) (x : Pair (List Value)) → get m own ≡ Some rest → get e other ≡ Some x → is_listed key_cmp (flat_map keys_in (keys e)) k ≡ true
          met-listed rest x here there =
              let long = long-key (main p) m own rest fit here in
              let part : part_key w.part (own, rest) ≡ other = its_part own rest long ∙ sym (partner-same p typed own long) ∙ ap (key_between p.structure (partner p)) (sym back) in
              let in_part = ap (is_listed key_cmp (keys_in other)) back ∙ listed-map (result_key p) own (map (λ (x : PointValues). x.0) (part_of w other m)) (listed-part w own other rest part m here) in
              listed-flat_map key_cmp key_cmp key_cmp-IsTotalOrder key_cmp-IsAntisymmetric keys_in other k (keys e) (changed-listed e other x there) in_part

          same-both : both_at p (apply d m) (apply e q) k ≡ both_at p m q k
          same-both = ap (λ (o : Option (List Value)). in_turn p (option_map (λ rest. own ++ rest) o) (values_there (apply e q) other)) same-own ∙ by_points (get m own) refl (get e other) refl
            where
              by_points : (o : Option (List Value)) → get m own ≡ o → (c : Option (Pair (List Value))) → get e other ≡ c → in_turn p (option_map (λ rest. own ++ rest) (get m own)) (values_there (apply e q) other) ≡ both_at p m q k
              by_points None here c there =
                  let none : option_map (λ rest. own ++ rest) (get m own) ≡ None = ap (option_map (λ rest. own ++ rest)) here in
                  ap (λ (o : Option (List Value)). in_turn p o (values_there (apply e q) other)) none ∙ nothing_met p (values_there (apply e q) other) (values_there q other) ∙ ap (λ (o : Option (List Value)). in_turn p o (values_there q other)) (sym none)
              by_points (Some rest) here None there = ap (λ (o : Option (List Value)). in_turn p (values_there m own) (option_map (λ rest. other ++ rest) o)) (after-news q e other ∙ ap (λ (o : Option (Pair (List Value))). after o (get q other)) there)
              by_points (Some rest) here (Some x) there = contradicted (is_listed key_cmp (flat_map keys_in (keys e)) k) (met-listed rest x here there) apart.1

        pub same-meeting : meeting p (apply d m) (apply e q) k ≡ meeting p m q k
        same-meeting = meeting-is p (apply d m) (apply e q) k ∙ by_test (is_key p k) refl ∙ sym (meeting-is p m q k)
          where
            by_test : (b : Bool) → is_key p k ≡ b → (if b then both_at p (apply d m) (apply e q) k else None) ≡ (if b then both_at p m q k else None)
            by_test true e = same-both (tied key_cmp-IsTotalOrder key_cmp-IsAntisymmetric k (result_key p (main_key p k)) e)
            by_test false e = refl

      -- ---- the answer

      abbrev pub noted_all : SetDraft
      noted_all = fold (noted_partner p (record { want = w; content = m }) d) (fold (noted_main p q e) nothing (entries d)) (entries e)

      all-noted : IsNoted noted_keys noted_all
      all-noted = noted-partners (entries e) (entries-there e) (map (result_key p) (keys d)) (fold (noted_main p q e) nothing (entries d)) (noted-mains (entries d) (entries-there d) [] nothing noted-nothing)

      same-elsewhere : IsSameElsewhere key_cmp (on p m q).beyond (on p (apply d m) (apply e q)).beyond noted_keys (on p m q).value (on p (apply d m) (apply e q)).value noted_keys
      same-elsewhere = record { evaluations = λ k l. ap (is_beyond p) (same-meeting k l); values = λ within k l. ap (value_of p) (same-meeting k l) }

      pub right-draft : (x : DataSet) (before : ℕ) → (let o : SetOutcome = Made x in pair_meaning p (left_of p m q) (right_of p m q) ≡ o) → len x ≡ before → IsRight (pair_meaning p (left_of p (apply d m) (apply e q)) (right_of p (apply d m) (apply e q))) x (finished before noted_all)
      right-draft x before was count =
          IsRight-finished key_cmp-IsTotalOrder key_cmp-IsAntisymmetric (on p m q).beyond (on p (apply d m) (apply e q)).beyond (on p m q).value (on p (apply d m) (apply e q)).value x
          (pair-result p (left_of p m q) (right_of p m q) x was) (pair_meaning p (left_of p (apply d m) (apply e q)) (right_of p (apply d m) (apply e q))) (pair-meant p (left_of p (apply d m) (apply e q)) (right_of p (apply d m) (apply e q)))
          noted_keys noted_keys same-elsewhere before noted_all count all-noted
