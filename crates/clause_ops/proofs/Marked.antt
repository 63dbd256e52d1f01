-- The delta of a clause's result, from the changes of its operand.
use Rattle.std.proofs.Common.{◌≡◌, ◌≢◌, ℕ, ◌+◌, ◌<◌, ◌≤◌, List, [], ◌∷◌, ◌++◌, map, take, length, get_or, Option, Some, None, Result, Bool, true, false, if◌then◌else◌, sym, ◌∙◌, ap, refl, subst, arith, inl, inr, append_assoc}
use Rattle.std.specs.Prelude.{flat_map}
use Rattle.std.specs.Option.{IfSome, is_some}
use Rattle.std.specs.List.{AllZip}
use Rattle.std.specs.Ordering.{eq_by_cmp}
use Rattle.std.proofs.lemmas.Bool.{cases_Bool}
use Rattle.std.proofs.lemmas.List.{take_more, take_all, map-append, length-map, append-nil}
use Rattle.std.proofs.lemmas.List.Folds.{list_any-append}
use Rattle.std.proofs.lemmas.Grind.{flat_map-append}
use Rattle.std.proofs.Math.ListN.{get_or-map}
use Rattle.std.specs.FinMap.{get, get-entries, find, keys, len, entries}
use Rattle.std.proofs.lemmas.Option.{slice_get-get_or}
use Rattle.vtl_values.specs.declared.structure.Component.{Component}
use Rattle.vtl_values.specs.declared.value.Value.{Value}
use Rattle.vtl_values.specs.Order.{key_cmp}
use Rattle.vtl_values.proofs.Values.{key_cmp-IsTotalOrder, key_cmp-IsAntisymmetric}
use Rattle.data_model.specs.Maps.{is_listed}
use Rattle.data_model.specs.Deltas.{Pair, apply, after, BeginsAt, Differs}
use Rattle.data_model.specs.Outcomes.{Made}
use Rattle.data_model.specs.Answers.{IsRight}
use Rattle.data_model.specs.Drafts.{nothing, finished, note_value, note_beyond, IsDraft}
use Rattle.data_model.proofs.MapLemmas.{get-unlisted, tied_to_itself, is_listed-keys}
use Rattle.data_model.proofs.DeltaLemmas.{get-apply, contradicted}
use Rattle.data_model.proofs.DraftLemmas.{IsDraft-nothing, IsDraft-in_range, IsDraft-beyond, IsDraft-value, IsRight-outcome}
use Rattle.point_sets.specs.declared.delta.Change.{Change}
use Rattle.point_sets.specs.DataSets.{DataSet}
use Rattle.point_sets.specs.Changes.{Changes, values_eq, values_of, change_entry, AreChanges}
use Rattle.point_sets.proofs.Changes.{values_eq-IsEqualityTest}
use Rattle.point_sets.proofs.Ordered.{find_at}
use Rattle.structured_sets.specs.Fitting.{identifiers, FitsIdentifier, IsPointOf, IsSetOf}
use Rattle.data_set_trees.specs.declared.clauses.frame.Frame.{Frame}
use Rattle.data_set_trees.specs.declared.clauses.clause.CheckedClause.{CheckedClause}
use Rattle.data_set_trees.specs.clauses.Frames.{frame_of}
use Rattle.clause_meaning.specs.Clauses.{working_of, clause_meaning}
use Rattle.clause_meaning.specs.Ordered.{HasIdentifiersFirst}
use Rattle.clause_meaning.specs.Workings.{Working}
use Rattle.clause_meaning.proofs.Covered.{covered}
use Rattle.clause_meaning.proofs.Lists.{either-right, listed-flat_map}
use Rattle.clause_eval.specs.Points.{keys_from, is_beyond_at, values_at_key}
use Rattle.clause_eval.proofs.Parts.{beyond-at, keys-are, value-at}
use Rattle.held_index.specs.Drafts.{SetDraft}
use Rattle.held_index.specs.Holdings.{Holding}
use Rattle.held_index.specs.Rules.{SetOutcome, answer_of, after_news, AreAsked, IsRightAnswer}
use Rattle.held_index.specs.declared.stop.Stop.{Stop}
use Rattle.held_index.proofs.Rules.{IsRightAnswer-finished}
use Rattle.clause_ops.specs.Noted.{noted_at, noted_change, IsNoted}
use Rattle.operator_meaning.specs.Operators.{clause_on, AreOperands}

-- ---- lists of keys

-- a key that stands among those that some keys make is made by one of them
made-by : (f : List Value → List (List Value)) (ks : List (List Value)) (to : List Value) → is_listed key_cmp (flat_map f ks) to ≡ true → (key : List Value) × (is_listed key_cmp ks key ≡ true) × (is_listed key_cmp (f key) to ≡ true)
made-by f [] to h = cc
made-by f (k ∷ ks) to h = elim (cases_Bool (is_listed key_cmp (f k) to)) [
  | inl own ↦ (k, rw (tied_to_itself key_cmp-IsTotalOrder k) refl, own)
  | inr other ↦
      let later = made-by f ks to (rw other at (sym (list_any-append (eq_by_cmp key_cmp to) (f k) (flat_map f ks)) ∙ h)) in
      (later.0, either-right (eq_by_cmp key_cmp later.0 k) (is_listed key_cmp ks later.0) later.1, later.2)
]

-- notes at keys that begin with what the result had and has are those of a draft
module _ (beyond : List Value → Bool) (old new was comes : List Value → Option (List Value)) (es : List (List Value)) where
  noted-list : (ts ks : List (List Value)) (n : SetDraft) → ((t : List Value) → is_listed key_cmp ts t ≡ true → (old t ≡ was t) × (new t ≡ comes t)) → IsDraft {R = key_cmp} beyond es old new ks n → IsDraft {R = key_cmp} beyond es old new (ks ++ ts) (noted_at was comes ts n)
  noted-list [] ks n are h = subst (λ (qs : List (List Value)). IsDraft {R = key_cmp} beyond es old new qs n) (sym (append-nil ks)) h
  noted-list (t ∷ ts) ks n are h =
      let own = are t (rw (tied_to_itself key_cmp-IsTotalOrder t) refl) in
      let one : IsDraft {R = key_cmp} beyond es old new (ks ++ t ∷ []) (note_value values_eq t (old t) (new t) n) = IsDraft-value key_cmp-IsTotalOrder key_cmp-IsAntisymmetric beyond old new values_eq values_eq-IsEqualityTest es ks t n h in
      let found : IsDraft {R = key_cmp} beyond es old new (ks ++ t ∷ []) (note_value values_eq t (was t) (comes t) n) = subst (λ (o : Option (List Value)). IsDraft {R = key_cmp} beyond es old new (ks ++ t ∷ []) (note_value values_eq t o (comes t) n)) own.0 (subst (λ (o : Option (List Value)). IsDraft {R = key_cmp} beyond es old new (ks ++ t ∷ []) (note_value values_eq t (old t) o n)) own.1 one) in
      subst (λ (qs : List (List Value)). IsDraft {R = key_cmp} beyond es old new qs (noted_at was comes ts (note_value values_eq t (was t) (comes t) n))) (append_assoc ks (t ∷ []) ts)
      (noted-list ts (ks ++ t ∷ []) (note_value values_eq t (was t) (comes t) n) (λ q listed. are q (either-right (eq_by_cmp key_cmp q t) (is_listed key_cmp ts q) listed)) found)

-- ---- one operand, before and after its news

module _ (clause : CheckedClause) (frame : Frame) (first : HasIdentifiersFirst frame) where
  abbrev on : DataSet → Working
  on a = working_of clause frame a

  abbrev from : List Value → List (List Value)
  from = keys_from clause frame

  abbrev Fits : List Value → Type 0
  Fits key = AllZip FitsIdentifier (identifiers frame.components) key

  key-fits : (a : DataSet) (key rest : List Value) → IsSetOf frame.components a → get a key ≡ Some rest → Fits key
  key-fits a key rest fit there = let point : IsPointOf frame.components key rest = subst (λ (o : Option (List Value)). IfSome o (IsPointOf frame.components key)) there (fit key) in point.key_fits

  listed-fits : (a : DataSet) (key : List Value) → IsSetOf frame.components a → is_listed key_cmp (keys a) key ≡ true → Fits key
  listed-fits a key fit listed = by_point (get a key) refl (sym (is_listed-keys key_cmp-IsTotalOrder a key) ∙ listed)
    where
      by_point : (o : Option (List Value)) → get a key ≡ o → is_some o ≡ true → Fits key
      by_point None there h = cc
      by_point (Some rest) there h = key-fits a key rest fit there

  module _ (d : Changes) (a : DataSet) (fit : IsSetOf frame.components a) (fit_after : IsSetOf frame.components (apply d a)) where
    pub noted-nothing : IsNoted clause frame d a [] nothing
    noted-nothing = IsDraft-nothing key_cmp-IsTotalOrder key_cmp-IsAntisymmetric (on (apply d a)).beyond (on a).value (on (apply d a)).value

    -- ---- where nothing changes

    same-point : (k : List Value) → is_listed key_cmp (keys d) k ≡ false → get (apply d a) k ≡ get a k
    same-point k l = get-apply key_cmp-IsTotalOrder key_cmp-IsAntisymmetric d a k ∙ ap (λ (c : Option (Pair (List Value))). after c (get a k)) (get-unlisted key_cmp-IsTotalOrder d k l)

    same-range : (k : List Value) → is_listed key_cmp (keys d) k ≡ false → (on (apply d a)).beyond k ≡ (on a).beyond k
    same-range k l = beyond-at clause frame (apply d a) k ∙ ap (is_beyond_at clause k) (same-point k l) ∙ sym (beyond-at clause frame a k)

    -- a key that an unchanged point comes to
    same-from : (key to : List Value) → Fits key → is_listed key_cmp (from key) to ≡ true → is_listed key_cmp (keys d) key ≡ false → (on (apply d a)).value to ≡ (on a).value to
    same-from key to fits made l =
        value-at clause frame (apply d a) key to first fit_after fits made
        ∙ ap (λ (o : Option (List Value)). values_at_key clause frame key o to) (same-point key l)
        ∙ sym (value-at clause frame a key to first fit fits made)

    unchanged : (key to : List Value) → is_listed key_cmp (flat_map from (keys d)) to ≡ false → is_listed key_cmp (from key) to ≡ true → is_listed key_cmp (keys d) key ≡ false
    unchanged key to none made = elim (cases_Bool (is_listed key_cmp (keys d) key)) [
      | inl there ↦ contradicted (is_listed key_cmp (flat_map from (keys d)) to) (listed-flat_map key_cmp key_cmp key_cmp-IsTotalOrder key_cmp-IsAntisymmetric from key to (keys d) there made) none
      | inr apart ↦ apart
    ]

    no-value : (b : DataSet) (to : List Value) → is_listed key_cmp (flat_map from (keys b)) to ≡ false → (on b).value to ≡ None
    no-value b to none = (covered clause frame b).points to (ap (λ (ks : List (List Value)). is_listed key_cmp ks to) (keys-are clause frame b) ∙ none)

    same-value : (to : List Value) → is_listed key_cmp (flat_map from (keys d)) to ≡ false → (on (apply d a)).value to ≡ (on a).value to
    same-value to none = elim (cases_Bool (is_listed key_cmp (flat_map from (keys a)) to)) [
      | inl before ↦
          let by = made-by from (keys a) to before in
          same-from by.0 to (listed-fits a by.0 fit by.1) by.2 (unchanged by.0 to none by.2)
      | inr never ↦ elim (cases_Bool (is_listed key_cmp (flat_map from (keys (apply d a))) to)) [
        | inl later ↦
            let by = made-by from (keys (apply d a)) to later in
            same-from by.0 to (listed-fits (apply d a) by.0 fit_after by.1) by.2 (unchanged by.0 to none by.2)
        | inr nowhere ↦ no-value (apply d a) to nowhere ∙ sym (no-value a to never)
      ]
    ]

    pub right-answer : (x : DataSet) (before : ℕ) (n : SetDraft) → IsNoted clause frame d a (keys d) n → (let o : SetOutcome = Made x in clause_meaning clause frame a ≡ o) → len x ≡ before → IsRight (clause_meaning clause frame (apply d a)) x (finished before n)
    right-answer x before n h was count =
        subst (λ points. IsRight (clause_meaning clause frame (apply d a)) x (finished points n)) count
        (IsRight-outcome key_cmp-IsTotalOrder key_cmp-IsAntisymmetric (on a).evaluated (on a).beyond (on a).keys (on a).value
        (on (apply d a)).evaluated (on (apply d a)).beyond (on (apply d a)).keys (on (apply d a)).value x (keys d) (flat_map from (keys d)) n
        (covered clause frame a) (covered clause frame (apply d a)) was
        (record { evaluations = same-range; values = λ within. same-value }) h)

    -- ---- one change more

    module _ (begins : BeginsAt d a) (differs : Differs d) where
      -- the key of a change is one of the frame
      changed-fits : (key : List Value) (x y : Option (List Value)) → x ≢ y → get a key ≡ x → get (apply d a) key ≡ y → Fits key
      changed-fits key (Some rest) y apart was comes = key-fits a key rest fit was
      changed-fits key None (Some rest) apart was comes = key-fits (apply d a) key rest fit_after comes
      changed-fits key None None apart was comes = absurd (apart refl)

      abbrev was-of : Change → List Value → Option (List Value)
      was-of c = values_at_key clause frame c.key (values_of c.old)

      abbrev comes-of : Change → List Value → Option (List Value)
      comes-of c = values_at_key clause frame c.key (values_of c.new)

      abbrev IsFound : Change → Type 0
      IsFound c = (t : List Value) → is_listed key_cmp (from c.key) t ≡ true → ((on a).value t ≡ was-of c t) × ((on (apply d a)).value t ≡ comes-of c t)

      found-at : (c : Change) → Fits c.key → get a c.key ≡ values_of c.old → get (apply d a) c.key ≡ values_of c.new → IsFound c
      found-at c fits old new t listed = (
        value-at clause frame a c.key t first fit fits listed ∙ ap (λ (o : Option (List Value)). values_at_key clause frame c.key o t) old,
        value-at clause frame (apply d a) c.key t first fit_after fits listed ∙ ap (λ (o : Option (List Value)). values_at_key clause frame c.key o t) new,
      )

      by-range : (ks : List (List Value)) (c : Change) (n : SetDraft) → IsNoted clause frame d a ks n → IsFound c → (b : Bool) → (on (apply d a)).beyond c.key ≡ b → IsNoted clause frame d a (ks ++ c.key ∷ []) (if b then note_beyond c.key n else noted_at (was-of c) (comes-of c) (from c.key) n)
      by-range ks c n h at true range = IsDraft-beyond key_cmp-IsTotalOrder key_cmp-IsAntisymmetric (on (apply d a)).beyond (on a).value (on (apply d a)).value ks (flat_map from ks) (flat_map from (ks ++ c.key ∷ [])) c.key n range h
      by-range ks c n h at false range =
          let all : flat_map from ks ++ from c.key ≡ flat_map from (ks ++ c.key ∷ []) = ap (λ (qs : List (List Value)). flat_map from ks ++ qs) (sym (append-nil (from c.key))) ∙ sym (flat_map-append from ks (c.key ∷ [])) in
          subst (λ (qs : List (List Value)). IsDraft {R = key_cmp} (on (apply d a)).beyond (ks ++ c.key ∷ []) (on a).value (on (apply d a)).value qs (noted_at (was-of c) (comes-of c) (from c.key) n)) all
          (noted-list (on (apply d a)).beyond (on a).value (on (apply d a)).value (was-of c) (comes-of c) (ks ++ c.key ∷ []) (from c.key) (flat_map from ks) n at
          (IsDraft-in_range key_cmp-IsTotalOrder key_cmp-IsAntisymmetric (on (apply d a)).beyond (on a).value (on (apply d a)).value ks (flat_map from ks) c.key n range h))

      -- a change has the points of the operand before and after
      noted-one : (ks : List (List Value)) (c : Change) (n : SetDraft) → get d c.key ≡ Some (change_entry c).1 → IsNoted clause frame d a ks n → IsNoted clause frame d a (ks ++ c.key ∷ []) (noted_change clause frame c n)
      noted-one ks c n there h =
          let old : get a c.key ≡ values_of c.old = subst (λ (o : Option (Pair (List Value))). IfSome o (λ p. get a c.key ≡ p.0)) there (begins c.key) in
          let new : get (apply d a) c.key ≡ values_of c.new = get-apply key_cmp-IsTotalOrder key_cmp-IsAntisymmetric d a c.key ∙ ap (λ (o : Option (Pair (List Value))). after o (get a c.key)) there in
          let apart : values_of c.old ≢ values_of c.new = subst (λ (o : Option (Pair (List Value))). IfSome o (λ p. p.0 ≢ p.1)) there (differs c.key) in
          let fits : Fits c.key = changed-fits c.key (values_of c.old) (values_of c.new) apart old new in
          let range : (on (apply d a)).beyond c.key ≡ is_beyond_at clause c.key (values_of c.new) = beyond-at clause frame (apply d a) c.key ∙ ap (is_beyond_at clause c.key) new in
          by-range ks c n h (found-at c fits old new) (is_beyond_at clause c.key (values_of c.new)) range

      -- what stands at a place of a delta's list is the change at its key
      change-at : (cs : List Change) (i : ℕ) (c : Change) → map change_entry cs ≡ entries d → AreChanges cs → i < length cs → c ≡ get_or cs i c → get d c.key ≡ Some (change_entry c).1
      change-at cs i c all ordered within at =
          get-entries d c.key ∙ sym (ap (λ (es : List (List Value × Pair (List Value))). find key_cmp c.key es) all)
          ∙ find_at key_cmp-IsTotalOrder key_cmp-IsAntisymmetric change_entry cs i c ordered.ascend (slice_get-get_or cs i c within ∙ ap Some (sym at))

      pub noted-more : (cs : List Change) (i : ℕ) (c : Change) (n m : SetDraft) → map change_entry cs ≡ entries d → AreChanges cs → i < length cs → c ≡ get_or cs i c → m ≡ noted_change clause frame c n
          → IsNoted clause frame d a (map (λ f. f.0) (take i (map change_entry cs))) n → IsNoted clause frame d a (map (λ f. f.0) (take (i + 1) (map change_entry cs))) m
      noted-more cs i c n m all ordered within at is h =
          let es : List (List Value × Pair (List Value)) = map change_entry cs in
          let here : get_or es i (change_entry c) ≡ change_entry c = get_or-map change_entry cs i c ∙ ap change_entry (sym at) in
          let inside : i < length es = omega (arith, within, length-map cs change_entry) in
          let longer : map (λ f. f.0) (take (i + 1) es) ≡ map (λ f. f.0) (take i es) ++ c.key ∷ [] =
          ap (map (λ f. f.0)) (take_more es i (change_entry c) inside) ∙ map-append _ _ _ ∙ ap (λ (f : List Value × Pair (List Value)). map (λ f. f.0) (take i es) ++ f.0 ∷ []) here in
          subst (λ (t : List (List Value)). IsNoted clause frame d a t m) (sym longer)
          (subst (λ (t : SetDraft). IsNoted clause frame d a (map (λ f. f.0) (take i es) ++ c.key ∷ []) t) (sym is) (noted-one (map (λ f. f.0) (take i es)) c n (change-at cs i c all ordered within at) h))

    pub noted-all : (cs : List Change) (i : ℕ) (n : SetDraft) → map change_entry cs ≡ entries d → length cs ≤ i
        → IsNoted clause frame d a (map (λ f. f.0) (take i (map change_entry cs))) n → IsNoted clause frame d a (keys d) n
    noted-all cs i n all done h =
        let long : length (map change_entry cs) ≤ i = omega (arith, done, length-map cs change_entry) in
        subst (λ (es : List (List Value × Pair (List Value))). IsNoted clause frame d a (map (λ f. f.0) es) n) (take_all i (map change_entry cs) long ∙ all) h

-- ---- the answer

module _ (clause : CheckedClause) (operand : List Component) (d : Changes) (before : ℕ) (n : SetDraft) (held : List Holding) (first : HasIdentifiersFirst (frame_of operand))
    (noted : (a : DataSet) → IsSetOf operand a → IsSetOf operand (apply d a) → BeginsAt d a → IsNoted clause (frame_of operand) d a (keys d) n) where
  abbrev admits : List DataSet → Type 0
  admits = AreOperands (operand ∷ [])

  abbrev meaning : List DataSet → SetOutcome
  meaning = clause_on clause (operand ∷ [])

  -- whichever operand the rule is asked for, the finished draft is right where all changes are noted
  asked-right : (xs : List DataSet) (x : DataSet) → AreAsked admits meaning [] held (d ∷ []) before xs x → IsRight (meaning (after_news (d ∷ []) xs)) x (finished before n)
  asked-right [] x asked = absurd asked.admitted
  asked-right (a ∷ b ∷ xs) x asked = absurd asked.admitted.1
  asked-right (a ∷ []) x asked =
      let old = asked.admitted.0.fits in
      let new = asked.admitted_after.0.fits in
      right-answer clause (frame_of operand) first d a old new x before n (noted a old new asked.begins.0) asked.result_is asked.count

  pub right-for-all : (answer : Result Changes Stop) → IfSome (answer_of answer) (λ a. a ≡ finished before n) → IsRightAnswer admits meaning [] held (d ∷ []) before answer
  right-for-all answer ends = IsRightAnswer-finished admits meaning [] held (d ∷ []) before answer n ends asked-right

pub one-in : {X : Type 0} (xs : List X) (p : X) → length xs ≡ 1 → p ≡ get_or xs 0 p → p ∷ [] ≡ xs
one-in [] p l e = absurd (omega arith)
one-in (x ∷ []) p l e = ap (λ y. y ∷ []) e
one-in (x ∷ y ∷ xs) p l e = absurd (omega arith)
