-- Tallies that are finished into shares.
use Rattle.std.proofs.Common.{◌≡◌, ◌≢◌, ℕ, ◌<◌, ◌≤◌, List, [], ◌∷◌, ◌++◌, length, length-append, map, Option, Some, None, Bool, true, false, cond, refl, sym, subst, ap, ◌∙◌, arith, inl, inr, unwrap_or}
use Rattle.std.specs.Prelude.{slice_get, IsSome, is_some}
use Rattle.std.specs.List.{All, AllPairs}
use Rattle.std.specs.Ordering.{nat_cmp, is_gt}
use Rattle.std.specs.BTreeMap.{BTreeMap, get, is_at, IsLowerBound}
use Rattle.std.specs.Map.{lookup}
use Rattle.std.specs.Cmp.{nat_cmp_is}
use Rattle.std.specs.declared.cmp.Ordering.{Ordering}
use Rattle.std.specs.declared.cmp.Ordering.TheVariants.{Greater}
use Rattle.std.specs.FinMap.{empty, entries, len, len-entries, len-empty, empty_of_len}
use Rattle.std.proofs.lemmas.Bool.{cases_eq, cases_lt, cases_Bool}
use Rattle.std.proofs.lemmas.List.{length-map, get_or_append_left, get_or_push}
use Rattle.std.proofs.lemmas.List.Elements.{All-nil, All-append, All-cons}
use Rattle.std.proofs.lemmas.List.Quantifiers.{all_pairs_push}
use Rattle.std.proofs.lemmas.Option.{slice_get_past}
use Rattle.vtl_values.specs.declared.value.Value.{Value}
use Rattle.vtl_values.specs.Order.{key_cmp}
use Rattle.vtl_values.proofs.Values.{key_cmp-IsTotalOrder, key_cmp-IsAntisymmetric}
use Rattle.data_model.specs.Deltas.{Pair, Leads, apply}
use Rattle.data_model.proofs.DeltaLemmas.{Leads-unique, Leads-empty}
use Rattle.point_sets.specs.DataSets.{DataSet}
use Rattle.point_sets.specs.Changes.{Changes, change_entry}
use Rattle.point_sets.specs.declared.delta.Change.{Change}
use Rattle.revision_judge.specs.declared.ruling.Share.{Share}
use Rattle.revision_judge.specs.declared.tallies.Tallies.{Tallies}
use Rattle.revision_judge.specs.declared.tally.Tally.{Tally}
use Rattle.revision_judge.specs.Rows.{Progress, at_first}
use Rattle.revision_judge.specs.Judging.{Standing, input, progress_at, sets_at}
use Rattle.revision_judge.specs.Shares.{IsShare, AreShares}
use Rattle.revision_judge.specs.Tallies.{IsTally}
use Rattle.revision_judge.specs.Standings.{StandsSo, AreTallies}
use Rattle.revision_judge.proofs.Judgements.{progress-set}
use Rattle.revision_judge.proofs.StandingLemmas.{other-number}

-- the shares of the tallies that were finished so far, and the tallies that are left
pub record AreFinished (inputs : List DataSet) (s : Standing) (shares : List Share) (m : BTreeMap ℕ Tally) : Type 0 where
  pub ascending : AllPairs (λ a b. a.set < b.set) shares
  pub each : All (IsShare inputs (sets_at s)) shares
  pub below : (n : ℕ) → IsSome (get nat_cmp m n) → All (λ share. share.set < n) shares
  pub within : (n : ℕ) → IsSome (get nat_cmp m n) → n < length inputs
  pub left : (n : ℕ) (t : Tally) → get nat_cmp m n ≡ Some t → IsTally (input inputs n) t (progress_at s n)
  pub others : (n : ℕ) → get nat_cmp m n ≡ None → All (λ share. share.set ≢ n) shares → input (sets_at s) n ≡ input inputs n

some-of : {A : Type 0} (found : Option A) (x : A) → found ≡ Some x → IsSome found
some-of found x e = ap is_some e

none-of : {A : Type 0} (found : Option A) → found ≡ None → IsSome found → ⊥
none-of found e some = let bad : false ≡ true = sym (ap is_some e) ∙ some in cc

-- ---- the beginning

past-sets : (xs : List DataSet) (n : ℕ) → length xs ≤ n → input xs n ≡ empty
past-sets xs n l = ap (λ (found : Option DataSet). unwrap_or found empty) (slice_get_past xs n l)

module _ (inputs : List DataSet) (t : Tallies) (s : Standing) (h : AreTallies inputs t s) where
  -- a data set that has no tally is as it was
  unnamed : (n : ℕ) → get nat_cmp t.tallies n ≡ None → input (sets_at s) n ≡ input inputs n
  unnamed n none = elim (cases_lt n (length inputs)) [
    | inl l ↦ sym (progress-set s n) ∙ ap (λ (p : Progress). p.set) (subst (λ (found : Option Tally). StandsSo (input inputs n) found (progress_at s n)) none (h.each n l))
    | inr l ↦ past-sets (sets_at s) n (let e = length-map s.sets (λ (p : Progress). p.set) in let q = h.many in omega (arith, l, e, q)) ∙ sym (past-sets inputs n l)
  ]

  pub finished-none : AreFinished inputs s [] t.tallies
  finished-none = record {
    ascending = λ i j d a b. absurd (omega (arith, a, b));
    each = All-nil (IsShare inputs (sets_at s));
    below = λ n some. All-nil (λ (share : Share). share.set < n);
    within = h.within;
    left = λ n u is. subst (λ (found : Option Tally). StandsSo (input inputs n) found (progress_at s n)) is (h.each n (h.within n (some-of (get nat_cmp t.tallies n) u is)));
    others = λ n none no_share. unnamed n none;
  }

-- ---- a tally more

pub one-more : {A : Type 0} (P : A → Type 0) (xs : List A) (x : A) → All P xs → P x → All P (xs ++ x ∷ [])
one-more P xs x h p = All-append P xs (x ∷ []) h (All-cons P x [] p (All-nil P))

pub front : {A : Type 0} (P : A → Type 0) (xs : List A) (x : A) → All P (xs ++ x ∷ []) → All P xs × P x
front P xs x h =
    let long = length-append xs (x ∷ []) in
    (λ k d l. subst P (get_or_append_left xs (x ∷ []) d k l) (h k d (omega (arith, l, long))), subst P (get_or_push xs x x (length xs) refl) (h (length xs) x (omega (arith, long))))

-- the least number is below the others
above : (k n : ℕ) → is_gt (nat_cmp k n) ≡ false → n ≢ k → k < n
above k n least apart = elim (cases_lt k n) [
  | inl l ↦ l
  | inr l ↦ elim (cases_lt n k) [
    | inl less ↦ let bad : true ≡ false = ap is_gt (nat_cmp_is k n Greater less) ∙ least in cc
    | inr more ↦ absurd (apart (omega (arith, l, more)))
  ]
]

module _ (inputs : List DataSet) (s : Standing) (shares : List Share) (m n : BTreeMap ℕ Tally) (h : AreFinished inputs s shares m) (k : ℕ) (t : Tally)
    (is : get nat_cmp m k ≡ Some t)
    (least : IsLowerBound nat_cmp m k)
    (taken : (q : ℕ) → get nat_cmp n q ≡ cond (is_at (nat_cmp k) q) None (get nat_cmp m q))
    (gone : get nat_cmp n k ≡ None)
  where
    stays : (q : ℕ) → q ≢ k → get nat_cmp n q ≡ get nat_cmp m q
    stays q apart = taken q ∙ ap (λ b. cond b None (get nat_cmp m q)) (other-number k q apart)

    is-left : (q : ℕ) → IsSome (get nat_cmp n q) → (q ≢ k) × IsSome (get nat_cmp m q)
    is-left q some =
        let apart : q ≢ k = λ e. none-of (get nat_cmp n k) gone (subst (λ j. IsSome (get nat_cmp n j)) e some) in
        (apart, ap is_some (sym (stays q apart)) ∙ some)

    left-later : (q : ℕ) (u : Tally) → get nat_cmp n q ≡ Some u → IsTally (input inputs q) u (progress_at s q)
    left-later q u e =
        let l = is-left q (some-of (get nat_cmp n q) u e) in
        h.left q u (sym (stays q l.0) ∙ e)

    tally-here : IsTally (input inputs k) t (progress_at s k)
    tally-here = h.left k t is

    pub here-below : k < length inputs
    here-below = h.within k (some-of (get nat_cmp m k) t is)

    module _ (delta : Changes) (leads : (before : DataSet) (p : Progress) → IsTally before t p → Leads delta before p.set) where
      leads-here : Leads delta (input inputs k) (input (sets_at s) k)
      leads-here = subst (λ (x : DataSet). Leads delta (input inputs k) x) (progress-set s k) (leads (input inputs k) (progress_at s k) tally-here)

      module _ (changes : List Change) (told : map change_entry changes ≡ entries delta) where
        counted : length changes ≡ len delta
        counted = sym (length-map changes change_entry) ∙ ap length told ∙ sym (len-entries delta)

        nothing-leads : (x : DataSet) → Leads empty x x
        nothing-leads x = Leads-empty key_cmp-IsTotalOrder key_cmp-IsAntisymmetric x

        -- where nothing changed there is no share
        pub finished-same : length changes ≡ 0 → AreFinished inputs s shares n
        finished-same short = record {
          ascending = h.ascending;
          each = h.each;
          below = λ q some. h.below q (is-left q some).1;
          within = λ q some. h.within q (is-left q some).1;
          left = left-later;
          others = λ q none no_share. elim (cases_eq q k) [
            | inl same ↦ subst (λ j. input (sets_at s) j ≡ input inputs j) (sym same) here-same
            | inr other ↦ h.others q (sym (stays q other) ∙ none) no_share
          ];
        }
          where
            here-same : input (sets_at s) k ≡ input inputs k
            here-same =
                let nothing : delta ≡ empty = empty_of_len delta (sym counted ∙ short) in
                sym (subst (λ (d : Changes). Leads d (input inputs k) (input (sets_at s) k)) nothing leads-here).ends ∙ (nothing-leads (input inputs k)).ends

        -- else there is one
        pub finished-more : 0 < length changes → AreFinished inputs s (shares ++ (record { set = k; delta = delta }) ∷ []) n
        finished-more long = record {
          ascending = all_pairs_push (λ (a b : Share). a.set < b.set) shares share h.ascending (λ j d l. h.below k (some-of (get nat_cmp m k) t is) j d l);
          each = one-more (IsShare inputs (sets_at s)) shares share h.each (record { below = here-below; changes = differs; leads = leads-here });
          below = λ q some.
              let l = is-left q some in
              one-more (λ (a : Share). a.set < q) shares share (h.below q l.1) (above k q (least q l.1) l.0);
          within = λ q some. h.within q (is-left q some).1;
          left = left-later;
          others = λ q none no_share.
              let parts = front (λ (a : Share). a.set ≢ q) shares share no_share in
              h.others q (sym (stays q (λ e. parts.1 (sym e))) ∙ none) parts.0;
        }
          where
            share : Share
            share = record { set = k; delta = delta }

            differs : input inputs k ≢ input (sets_at s) k
            differs same =
                let nothing : delta ≡ empty = Leads-unique key_cmp-IsTotalOrder key_cmp-IsAntisymmetric delta empty (input inputs k) (input inputs k) (subst (λ (x : DataSet). Leads delta (input inputs k) x) (sym same) leads-here) (nothing-leads (input inputs k)) in
                let none : length changes ≡ 0 = counted ∙ ap len nothing ∙ len-empty key_cmp (Pair (List Value)) in
                omega (arith, none, long)

-- ---- the end

pub finished-all : (inputs : List DataSet) (s : Standing) (shares : List Share) (m : BTreeMap ℕ Tally) → AreFinished inputs s shares m → length m.entries ≡ 0 → AreShares inputs (sets_at s) shares
finished-all inputs s shares m h none = record {
  ascending = h.ascending;
  each = h.each;
  others = λ n no_share. h.others n (absent m.entries none n) no_share;
}
  where
    absent : (es : List (ℕ × Tally)) → length es ≡ 0 → (n : ℕ) → lookup (is_at (nat_cmp n)) es ≡ None
    absent [] e n = refl
    absent (x ∷ xs) e n = absurd (omega (arith, e))
