-- The tally of the rows with one row more.
use Rattle.std.proofs.Common.{◌≡◌, ◌≢◌, ℕ, ◌≤◌, List, [], ◌∷◌, ◌++◌, Option, Some, Bool, true, false, cond, ◌||◌, sym, ◌∙◌, ap, refl, subst, inl, inr, Result, Ok, Err, IfOk}
use Rattle.std.specs.Option.{option_eq}
use Rattle.std.specs.Ordering.{eq_by_cmp}
use Rattle.std.specs.Cmp.{eq_by_cmp_equiv}
use Rattle.std.specs.BTreeSet.{contains}
use Rattle.std.specs.declared.alloc.AllocError.{AllocError}
use Rattle.std.specs.FinMap.{get, insert, len, empty, get-insert, get-empty}
use Rattle.std.proofs.lemmas.Bool.{cases_Bool}
use Rattle.vtl_values.specs.declared.value.Value.{Value}
use Rattle.vtl_values.specs.Order.{key_cmp}
use Rattle.vtl_values.proofs.Values.{key_cmp-IsTotalOrder, key_cmp-IsAntisymmetric}
use Rattle.data_model.specs.Maps.{is_listed}
use Rattle.data_model.specs.Deltas.{Pair, LeadsAt, Leads}
use Rattle.data_model.specs.declared.TheConstants.{POINT_LIMIT}
use Rattle.data_model.proofs.MapLemmas.{tied, neither}
use Rattle.data_model.proofs.DraftLemmas.{is_listed-last}
use Rattle.data_model.proofs.DeltaLemmas.{contradicted, option_eq-decides, Leads-by_key}
use Rattle.point_sets.specs.DataSets.{DataSet}
use Rattle.point_sets.specs.Changes.{Changes, values_eq, with_change}
use Rattle.point_sets.proofs.Changes.{values_eq-IsEqualityTest}
use Rattle.revision_judge.specs.declared.tally.Tally.{Tally}
use Rattle.revision_judge.specs.Rows.{Progress, at_first, grown}
use Rattle.revision_judge.specs.Tallies.{IsTally}

-- what a map has at a key
abbrev Values : Type 0
Values = Option (List Value)

or_cond : (b c : Bool) → cond b true c ≡ (b || c)
or_cond true c = refl
or_cond false c = refl

-- ---- what was noted

module _ (key : List Value) (old new : Values) (n : Changes) where
  -- the changes after a note
  noted-same : option_eq values_eq old new ≡ true → with_change n key old new ≡ n
  noted-same e = rw e refl

  noted-apart : option_eq values_eq old new ≡ false → with_change n key old new ≡ insert n key (old, new)
  noted-apart e = rw e refl

  module _ (was now next : List Value → Values) (here : was key ≡ old) (unnoted : now key ≡ was key) (next_is : (q : List Value) → next q ≡ cond (eq_by_cmp key_cmp q key) new (now q)) (h : (q : List Value) → LeadsAt (get n q) (was q) (now q)) where
    -- where the value stays, all stay
    stays : old ≡ new → (q : List Value) → next q ≡ now q
    stays same q = next_is q ∙ elim (cases_Bool (eq_by_cmp key_cmp q key)) as (λ _. cond (eq_by_cmp key_cmp q key) new (now q) ≡ now q) [
      | inl yes' ↦ ap (λ (b : Bool). cond b new (now q)) yes' ∙ sym (ap now (tied key_cmp-IsTotalOrder key_cmp-IsAntisymmetric q key yes') ∙ unnoted ∙ here ∙ same)
      | inr no' ↦ ap (λ (b : Bool). cond b new (now q)) no'
    ]

    changed : old ≢ new → (e : Changes) → ((q : List Value) → get e q ≡ cond (eq_by_cmp key_cmp q key) (Some (old, new)) (get n q)) → (q : List Value) → LeadsAt (get e q) (was q) (next q)
    changed differs e has q = rw (has q, next_is q) (elim (cases_Bool (eq_by_cmp key_cmp q key)) [
      | inl yes' ↦ rw yes' (ap was (tied key_cmp-IsTotalOrder key_cmp-IsAntisymmetric q key yes') ∙ here, refl, differs)
      | inr no' ↦ rw no' (h q)
    ])

    -- a note of a key that wasn't noted before
    pub leads-noted : (q : List Value) → LeadsAt (get (with_change n key old new) q) (was q) (next q)
    leads-noted q = elim (cases_Bool (option_eq values_eq old new)) [
      | inl yes' ↦ subst (λ (d : Changes). LeadsAt (get d q) (was q) (next q)) (sym (noted-same yes')) (subst (λ (v : Values). LeadsAt (get n q) (was q) v) (sym (stays ((option_eq-decides values_eq values_eq-IsEqualityTest old new).0 yes') q)) (h q))
      | inr no' ↦ subst (λ (d : Changes). LeadsAt (get d q) (was q) (next q)) (sym (noted-apart no')) (changed (λ s. contradicted _ ((option_eq-decides values_eq values_eq-IsEqualityTest old new).1 s) no') (insert n key (old, new)) (get-insert key_cmp-IsTotalOrder n key (old, new)) q)
    ]

-- ---- the tally

module _ (before : DataSet) (t u : Tally) (p : Progress) (h : IsTally before t p) (key : List Value) (old new : Values) (next : DataSet)
    (absent : contains key_cmp t.keys key ≡ false)
    (added : (q : List Value) → contains key_cmp u.keys q ≡ cond (eq_by_cmp key_cmp key q) true (contains key_cmp t.keys q))
    (was : get before key ≡ old)
    (noted : u.notes ≡ with_change t.notes key old new)
    (next_is : (q : List Value) → get next q ≡ cond (eq_by_cmp key_cmp q key) new (get p.set q))
    (points : u.points ≡ len next) (few : len next ≤ POINT_LIMIT)
  where
    unlisted : is_listed key_cmp p.keys key ≡ false
    unlisted = sym (h.keys key) ∙ absent

    keys-grown : (q : List Value) → contains key_cmp u.keys q ≡ is_listed key_cmp (p.keys ++ key ∷ []) q
    keys-grown q =
        added q
        ∙ or_cond (eq_by_cmp key_cmp key q) (contains key_cmp t.keys q)
        ∙ (λ i. (eq_by_cmp_equiv key_cmp-IsTotalOrder).symm key q i || h.keys q i)
        ∙ sym (is_listed-last key_cmp p.keys key q)

    others-grown : (q : List Value) → is_listed key_cmp (p.keys ++ key ∷ []) q ≡ false → get next q ≡ get before q
    others-grown q e =
        let apart = neither _ _ (sym (is_listed-last key_cmp p.keys key q) ∙ e) in
        next_is q ∙ ap (λ (b : Bool). cond b new (get p.set q)) apart.0 ∙ h.others q apart.1

    pub tally-grown : IsTally before u (grown p key next)
    tally-grown = record {
      keys = keys-grown;
      points = points;
      few = few;
      leads = λ q. subst (λ (d : Changes). LeadsAt (get d q) (get before q) (get next q)) (sym noted) (leads-noted key old new t.notes (get before) (get p.set) (get next) was (h.others key unlisted) next_is h.leads q);
      others = others-grown;
    }

-- the tally of no rows
pub tally-first : (before : DataSet) (t : Tally) → t.keys.keys ≡ [] → t.points ≡ len before → len before ≤ POINT_LIMIT → t.notes ≡ empty → IsTally before t (at_first before)
tally-first before t none points few noted = record {
  keys = λ k. ap (λ (ks : List (List Value)). is_listed key_cmp ks k) none;
  points = points;
  few = few;
  leads = λ k. subst (λ (d : Changes). LeadsAt (get d k) (get before k) (get before k)) (sym noted) (subst (λ (c : Option (Pair (List Value))). LeadsAt c (get before k) (get before k)) (sym (get-empty key_cmp k)) refl);
  others = λ k h. refl;
}

-- what was noted leads to the data set after the rows
tally-leads : (before : DataSet) (t : Tally) (p : Progress) → IsTally before t p → Leads t.notes before p.set
tally-leads before t p h = Leads-by_key key_cmp-IsTotalOrder key_cmp-IsAntisymmetric t.notes before p.set h.leads

pub noted-leads : (t : Tally) (r : Result Changes AllocError) → IfOk r (λ d. d ≡ t.notes) → IfOk r (λ d. (before : DataSet) (p : Progress) → IsTally before t p → Leads d before p.set)
noted-leads t (Ok d) e = λ before p h. subst (λ (n : Changes). Leads n before p.set) (sym e) (tally-leads before t p h)
noted-leads t (Err x) e = tt
