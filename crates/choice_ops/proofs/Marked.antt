-- The delta of a conditional's result, from the changes of its operands.
use Rattle.std.proofs.Common.{◌≡◌, ℕ, zero, suc, ◌+◌, ◌*◌, ◌<◌, ◌≤◌, List, [], ◌∷◌, ◌++◌, map, take, length, get_or, Option, Some, None, Result, Bool, true, false, ◌||◌, sym, ◌∙◌, ap, refl, subst, inl, inr, arith, append_assoc, zero-add}
use Rattle.std.specs.Prelude.{slice_get, unwrap_or, option_map, option_and_then, nat_eq}
use Rattle.std.specs.Option.{IfSome, is_some, option_map_or}
use Rattle.std.specs.List.{AllZip}
use Rattle.std.specs.Ordering.{eq_by_cmp}
use Rattle.std.proofs.lemmas.Bool.{cases_Bool, eqb-true}
use Rattle.std.proofs.lemmas.Bool.Decides.{nat_tests}
use Rattle.std.proofs.lemmas.List.{take_more, take_all, map-append, length-map, append-nil}
use Rattle.std.proofs.lemmas.List.Folds.{list_any-append}
use Rattle.std.proofs.lemmas.List.Sums.{sum_by-cons}
use Rattle.std.proofs.Math.ListN.{get_or-map}
use Rattle.std.specs.FinMap.{get, keys, len, entries, get-empty}
use Rattle.vtl_values.specs.declared.value.Value.{Value}
use Rattle.vtl_values.specs.declared.structure.Component.{Component}
use Rattle.vtl_values.specs.Order.{key_cmp}
use Rattle.vtl_values.proofs.Values.{key_cmp-IsTotalOrder, key_cmp-IsAntisymmetric}
use Rattle.data_model.specs.Maps.{is_listed}
use Rattle.data_model.specs.Deltas.{Pair, after}
use Rattle.data_model.specs.Outcomes.{Made}
use Rattle.data_model.specs.Answers.{IsRight}
use Rattle.data_model.specs.Drafts.{nothing, finished}
use Rattle.data_model.proofs.MapLemmas.{get-unlisted, neither}
use Rattle.data_model.proofs.DeltaLemmas.{get-apply, contradicted}
use Rattle.data_model.proofs.DraftLemmas.{IsDraft-nothing, IsDraft-found, IsRight-outcome}
use Rattle.point_sets.specs.declared.delta.Change.{Change}
use Rattle.point_sets.specs.DataSets.{DataSet}
use Rattle.point_sets.specs.Changes.{Changes, values_eq, change_entry}
use Rattle.point_sets.proofs.Changes.{values_eq-IsEqualityTest}
use Rattle.structured_sets.specs.Fitting as fitting
use Rattle.structured_sets.specs.Fitting.{FitsIdentifier, IsPointOf, IsSetOf, IsBoundedSetOf}
use Rattle.clause_meaning.proofs.ByRole.{of-identifiers}
use Rattle.clause_meaning.proofs.Covered.{point_by_point-covered}
use Rattle.data_set_trees.specs.clauses.Frames.{has_role}
use Rattle.vtl_values.specs.declared.kind.Role.TheVariants.{Identifier}
use Rattle.std.proofs.lemmas.Slice.Zip.{AllZip-long}
use Rattle.std.proofs.Math.Nat.{mul-le-mul_right}
use Rattle.data_set_trees.specs.Components.{identifiers}
use Rattle.data_set_trees.specs.checked.Operators.{Operator, IsTyped}
use Rattle.operator_meaning.specs.Operators.{meaning_of, AreOperands}
use Rattle.held_index.specs.Drafts.{SetDraft}
use Rattle.held_index.specs.Holdings.{AllPlain, Holding, contents}
use Rattle.held_index.specs.Reach.{changes_in}
use Rattle.held_index.specs.Rules.{SetOutcome, answer_of, after_news, AreAsked, IsRightAnswer}
use Rattle.held_index.specs.declared.stop.Stop.{Stop}
use Rattle.held_index.proofs.Rules.{IsRightAnswer-finished}
use Rattle.held_index.proofs.WantLemmas.{all_whole-plain, contents-all_whole}
use Rattle.operator_meaning.proofs.pairs.Names.{picked-all}
use Rattle.operator_meaning.proofs.pairs.Keys.{names, key-picked, names-apart}
use Rattle.operator_meaning.proofs.pairs.Paired.{listed-map}
use Rattle.operator_meaning.specs.choices.Choices.{ChoiceOn, set_at, condition, chosen_number, chosen_point, condition_key, operand_key, point_at, is_true_in, chosen_values, is_beyond, in_range, made_of, choice_working, choice_meaning}
use Rattle.operator_meaning.specs.choices.Typed.{IsTypedChoice}
use Rattle.operator_meaning.proofs.choices.Keys.{key-back, condition-structure}
use Rattle.choice_ops.specs.Noted.{change_at, Sees, noted_at, keys_from, IsNoted}
use Rattle.choice_ops.specs.Plans.{choice_in}
use Rattle.choice_ops.specs.Rules.{wanted_of, IsChoice}
use Rattle.choice_ops.proofs.Chosen.{choice-means, some-branches, typed-choice}
use Rattle.choice_ops.proofs.Places.{chosen-within}

-- ---- what is noted

module _ (c : ChoiceOn) (old new : List DataSet) where
  pub noted-nothing : IsNoted c old new [] nothing
  noted-nothing = IsDraft-nothing key_cmp-IsTotalOrder key_cmp-IsAntisymmetric (choice_working c new).beyond (choice_working c old).value (choice_working c new).value

  pub noted-one : (ks : List (List Value)) (k : List Value) (n m : SetDraft) → m ≡ noted_at c old new k n → IsNoted c old new ks n → IsNoted c old new (ks ++ k ∷ []) m
  noted-one ks k n m is h =
      subst (λ (t : SetDraft). IsNoted c old new (ks ++ k ∷ []) t) (sym is)
      (IsDraft-found key_cmp-IsTotalOrder key_cmp-IsAntisymmetric (choice_working c new).beyond (choice_working c old).value (choice_working c new).value values_eq values_eq-IsEqualityTest ks ks k
      ((choice_working c new).beyond k) ((choice_working c old).value k) ((choice_working c new).value k) n refl (λ within. (refl, refl)) h)

  -- the key of one change more of the operand with this number
  pub noted-more : (number : ℕ) (cs : List Change) (i : ℕ) (one : Change) (ks : List (List Value)) (n m : SetDraft) → i < length cs → one ≡ get_or cs i one → m ≡ noted_at c old new (condition_key c number one.key) n
      → IsNoted c old new (ks ++ map (condition_key c number) (map (λ f. f.0) (take i (map change_entry cs)))) n → IsNoted c old new (ks ++ map (condition_key c number) (map (λ f. f.0) (take (i + 1) (map change_entry cs)))) m
  noted-more number cs i one ks n m within at is h =
      let es : List (List Value × Pair (List Value)) = map change_entry cs in
      let here : get_or es i (change_entry one) ≡ change_entry one = get_or-map change_entry cs i one ∙ ap change_entry (sym at) in
      let inside : i < length es = omega (arith, within, length-map cs change_entry) in
      let its = condition_key c number in
      let longer : map its (map (λ f. f.0) (take (i + 1) es)) ≡ map its (map (λ f. f.0) (take i es)) ++ its one.key ∷ [] =
      ap (map its) (ap (map (λ f. f.0)) (take_more es i (change_entry one) inside) ∙ map-append _ _ _ ∙ ap (λ (f : List Value × Pair (List Value)). map (λ f. f.0) (take i es) ++ f.0 ∷ []) here) ∙ map-append _ _ _ in
      subst (λ (t : List (List Value)). IsNoted c old new t m) (append_assoc ks (map its (map (λ f. f.0) (take i es))) (its one.key ∷ []) ∙ ap (λ (t : List (List Value)). ks ++ t) (sym longer))
      (noted-one (ks ++ map its (map (λ f. f.0) (take i es))) (its one.key) n m is h)

  pub noted-all : (number : ℕ) (d : Changes) (cs : List Change) (i : ℕ) (ks : List (List Value)) (n : SetDraft) → map change_entry cs ≡ entries d → length cs ≤ i
      → IsNoted c old new (ks ++ map (condition_key c number) (map (λ f. f.0) (take i (map change_entry cs)))) n → IsNoted c old new (ks ++ map (condition_key c number) (keys d)) n
  noted-all number d cs i ks n all done h =
      let long : length (map change_entry cs) ≤ i = omega (arith, done, length-map cs change_entry) in
      subst (λ (es : List (List Value × Pair (List Value))). IsNoted c old new (ks ++ map (condition_key c number) (map (λ f. f.0) es)) n) (take_all i (map change_entry cs) long ∙ all) h

-- the keys of one operand's news more
pub keys-more : (c : ChoiceOn) (k : ℕ) (ds : List Changes) (i : ℕ) (d : Changes) → i < length ds → d ≡ get_or ds i d → keys_from c k (take (i + 1) ds) ≡ keys_from c k (take i ds) ++ map (condition_key c (k + i)) (keys d)
keys-more c k [] i d within at = absurd (omega (arith, within))
keys-more c k (e ∷ ds) zero d within at =
    let place : k ≡ k + 0 = omega arith in
    let same : e ≡ d = sym at in
    append-nil (map (condition_key c k) (keys e)) ∙ (λ i. map (condition_key c (place i)) (keys (same i)))
keys-more c k (e ∷ ds) (suc i) d within at =
    let next : suc i + 1 ≡ suc (i + 1) = omega arith in
    let place : (k + 1) + i ≡ k + suc i = omega arith in
    let own = map (condition_key c k) (keys e) in
    ap (λ n. keys_from c k (take n (e ∷ ds))) next
    ∙ ap (λ (ks : List (List Value)). own ++ ks) (keys-more c (k + 1) ds i d (omega (arith, within)) at)
    ∙ sym (append_assoc own (keys_from c (k + 1) (take i ds)) (map (condition_key c ((k + 1) + i)) (keys d)))
    ∙ ap (λ n. (own ++ keys_from c (k + 1) (take i ds)) ++ map (condition_key c n) (keys d)) place

-- and its changes
pub changes-more : (ds : List Changes) (i : ℕ) (d : Changes) → i < length ds → d ≡ get_or ds i d → changes_in (take (i + 1) ds) ≡ changes_in (take i ds) + len d
changes-more [] i d within at = absurd (omega (arith, within))
changes-more (e ∷ ds) zero d within at =
    let one = sum_by-cons len e [] in
    let same : len d ≡ len e = ap len at in
    omega (arith, one, same)
changes-more (e ∷ ds) (suc i) d within at =
    let next : suc i + 1 ≡ suc (i + 1) = omega arith in
    let all = sum_by-cons len e (take (i + 1) ds) in
    let some = sum_by-cons len e (take i ds) in
    let rest = changes-more ds i d (omega (arith, within)) at in
    ap (λ n. changes_in (take n (e ∷ ds))) next ∙ (omega (arith, all, some, rest))

pub changes-within : (ds : List Changes) (i : ℕ) → changes_in (take i ds) ≤ changes_in ds
changes-within [] i = let same : take i ds_nil ≡ ds_nil = take_nil i in subst (λ (es : List Changes). changes_in es ≤ changes_in ds_nil) (sym same) (omega arith)
  where
    ds_nil : List Changes
    ds_nil = []

    take_nil : (n : ℕ) → (let none : List Changes = [] in take n none ≡ none)
    take_nil zero = refl
    take_nil (suc n) = refl
changes-within (e ∷ ds) zero = omega arith
changes-within (e ∷ ds) (suc i) =
    let all = sum_by-cons len e ds in
    let some = sum_by-cons len e (take i ds) in
    let rest = changes-within ds i in
    omega (arith, all, some, rest)

-- ---- where nothing changes

-- the operands after the news, by number
pub set-after : (ds : List Changes) (xs : List DataSet) → length ds ≡ length xs → (n : ℕ) (key : List Value) → get (set_at (after_news ds xs) n) key ≡ after (change_at ds n key) (get (set_at xs n) key)
set-after [] [] long n key = refl
set-after [] (x ∷ xs) long n key = absurd (omega (arith, long))
set-after (d ∷ ds) [] long n key = absurd (omega (arith, long))
set-after (d ∷ ds) (x ∷ xs) long zero key = get-apply key_cmp-IsTotalOrder key_cmp-IsAntisymmetric d x key
set-after (d ∷ ds) (x ∷ xs) long (suc n) key = set-after ds xs (omega (arith, long)) n key

-- a key of an operand that comes to none of the keys has no change
unlisted-change : (c : ChoiceOn) (j : ℕ) (ds : List Changes) (n : ℕ) (k q : List Value) → is_listed key_cmp (keys_from c j ds) k ≡ false → condition_key c (j + n) q ≡ k → change_at ds n q ≡ None
unlisted-change c j [] n k q none comes = refl
unlisted-change c j (d ∷ ds) zero k q none comes = by_test (is_listed key_cmp (keys d) q) refl
  where
    apart : is_listed key_cmp (map (condition_key c j) (keys d)) k ≡ false
    apart = (neither (is_listed key_cmp (map (condition_key c j) (keys d)) k) (is_listed key_cmp (keys_from c (j + 1) ds) k) (sym (list_any-append (eq_by_cmp key_cmp k) (map (condition_key c j) (keys d)) (keys_from c (j + 1) ds)) ∙ none)).0

    its : condition_key c j q ≡ k
    its = let place : j ≡ j + 0 = omega arith in ap (λ n. condition_key c n q) place ∙ comes

    by_test : (b : Bool) → is_listed key_cmp (keys d) q ≡ b → get d q ≡ None
    by_test false e = get-unlisted key_cmp-IsTotalOrder d q e
    by_test true e = contradicted (is_listed key_cmp (map (condition_key c j) (keys d)) k) (subst (λ (r : List Value). is_listed key_cmp (map (condition_key c j) (keys d)) r ≡ true) its (listed-map (condition_key c j) q (keys d) e)) apart
unlisted-change c j (d ∷ ds) (suc n) k q none comes =
    let later = (neither (is_listed key_cmp (map (condition_key c j) (keys d)) k) (is_listed key_cmp (keys_from c (j + 1) ds) k) (sym (list_any-append (eq_by_cmp key_cmp k) (map (condition_key c j) (keys d)) (keys_from c (j + 1) ds)) ∙ none)).1 in
    let place : (j + 1) + n ≡ j + suc n = omega arith in
    unlisted-change c (j + 1) ds n k q later (ap (λ m. condition_key c m q) place ∙ comes)

-- the condition is of its structure
first-fits : (structures : List (List Component)) (sets : List DataSet) → AllZip IsBoundedSetOf structures sets → IsSetOf (unwrap_or (slice_get structures 0) []) (set_at sets 0)
first-fits [] [] fit key = subst (λ (o : Option (List Value)). IfSome o (IsPointOf [] key)) (sym (get-empty key_cmp key)) tt
first-fits [] (a ∷ sets) fit key = absurd fit
first-fits (s ∷ ss) [] fit key = absurd fit
first-fits (s ∷ ss) (a ∷ sets) fit key = fit.0.fits key

module _ (c : ChoiceOn) (typed : IsTypedChoice c) (some : 0 < length c.operands) (ds : List Changes) (xs : List DataSet) (fit : AllZip IsBoundedSetOf c.operands xs) (fit_after : AllZip IsBoundedSetOf c.operands (after_news ds xs)) (same_long : length ds ≡ length xs) where
  abbrev comes : List DataSet
  comes = after_news ds xs

  -- a key without a value for each identifier has no point
  no-point : (sets : List DataSet) → AllZip IsBoundedSetOf c.operands sets → (k : List Value) → (length k ≡ length (identifiers (condition c)) → ⊥) → get (set_at sets 0) k ≡ None
  no-point sets fits k other = by_point (get (set_at sets 0) k) (first-fits c.operands sets fits k)
    where
      by_point : (o : Option (List Value)) → IfSome o (IsPointOf (condition c) k) → o ≡ None
      by_point None h = refl
      by_point (Some rest) h = absurd (other (AllZip-long FitsIdentifier (fitting.identifiers (condition c)) k h.key_fits ∙ ap length (sym (of-identifiers (condition c)))))

  module _ (k : List Value) (none : is_listed key_cmp (keys_from c 0 ds) k ≡ false) where
    module _ (long : length k ≡ length (identifiers (condition c))) where
      same-operand : (n : ℕ) → n < length c.operands → get (set_at comes n) (operand_key c n k) ≡ get (set_at xs n) (operand_key c n k)
      same-operand n within =
          set-after ds xs same_long n (operand_key c n k)
          ∙ ap (λ (o : Option (Pair (List Value))). after o (get (set_at xs n) (operand_key c n k))) (unlisted-change c 0 ds n k (operand_key c n k) none (ap (λ m. condition_key c m (operand_key c n k)) (zero-add n) ∙ key-back c typed n within k long))

      -- the condition's key is its own
      own-key : condition_key c 0 k ≡ k
      own-key =
          let its_names : length k ≡ length (names (identifiers (condition c))) = long ∙ sym (length-map (identifiers (condition c)) (λ (d : Component). d.name)) in
          key-picked (condition c) (condition c) k ∙ picked-all (names (identifiers (condition c))) k (names-apart (has_role Identifier) (condition c) (condition-structure c typed 0 some).names_differ) its_names

      same-condition : get (set_at comes 0) k ≡ get (set_at xs 0) k
      same-condition = set-after ds xs same_long 0 k ∙ ap (λ (o : Option (Pair (List Value))). after o (get (set_at xs 0) k)) (unlisted-change c 0 ds 0 k k none own-key)

      same-chosen : (truth : Bool) → chosen_point c comes truth k ≡ chosen_point c xs truth k
      same-chosen truth = by_number (chosen_number c truth) (chosen-within c truth typed.choice)
        where
          by_number : (o : Option ℕ) → IfSome o (λ n. n < length c.operands) → option_map_or (λ n. point_at c comes n k) o (Some ([], [])) ≡ option_map_or (λ n. point_at c xs n k) o (Some ([], []))
          by_number None h = refl
          by_number (Some n) h = ap (option_map (λ (rest : List Value). (operand_key c n k, rest))) (same-operand n h)

      same-made : (rest : List Value) → made_of c comes k rest ≡ made_of c xs k rest
      same-made rest = let truth = is_true_in c (k ++ rest) in ap (option_map (chosen_values c truth (k ++ rest))) (same-chosen truth)

      same-beyond : (choice_working c comes).beyond k ≡ (choice_working c xs).beyond k
      same-beyond = λ i. option_map_or (λ rest. is_beyond (same-made rest i)) (same-condition i) false

      same-value : (choice_working c comes).value k ≡ (choice_working c xs).value k
      same-value = λ i. option_and_then (λ rest. in_range (same-made rest i)) (same-condition i)

    unchanged : ((choice_working c comes).beyond k ≡ (choice_working c xs).beyond k) × ((choice_working c comes).value k ≡ (choice_working c xs).value k)
    unchanged = elim (cases_Bool (nat_eq (length k) (length (identifiers (condition c))))) [
      | inl yes' ↦ let long = eqb-true (length k) (length (identifiers (condition c))) yes' in (same-beyond long, same-value long)
      | inr no' ↦
          let other : length k ≡ length (identifiers (condition c)) → ⊥ = λ long. absurd (grind (arith, nat_tests, no', long)) in
          let now : get (set_at comes 0) k ≡ None = no-point comes fit_after k other in
          let was : get (set_at xs 0) k ≡ None = no-point xs fit k other in (
            ap (λ (o : Option (List Value)). option_map_or (λ rest. is_beyond (made_of c comes k rest)) o false) now ∙ sym (ap (λ (o : Option (List Value)). option_map_or (λ rest. is_beyond (made_of c xs k rest)) o false) was),
            ap (option_and_then (λ (rest : List Value). in_range (made_of c comes k rest))) now ∙ sym (ap (option_and_then (λ (rest : List Value). in_range (made_of c xs k rest))) was),
          )
    ]

  pub right-noted : (x : DataSet) (before : ℕ) (n : SetDraft) → IsNoted c xs comes (keys_from c 0 ds) n → (let o : SetOutcome = Made x in choice_meaning c xs ≡ o) → len x ≡ before → IsRight (choice_meaning c comes) x (finished before n)
  right-noted x before n h was count =
      let old = choice_working c xs in
      let new = choice_working c comes in
      let covers = λ (sets : List DataSet). point_by_point-covered (λ key rest. is_beyond (made_of c sets key rest)) (λ key rest. in_range (made_of c sets key rest)) (set_at sets 0) in
      subst (λ points. IsRight (choice_meaning c comes) x (finished points n)) count
      (IsRight-outcome key_cmp-IsTotalOrder key_cmp-IsAntisymmetric old.evaluated old.beyond old.keys old.value new.evaluated new.beyond new.keys new.value x (keys_from c 0 ds) (keys_from c 0 ds) n
      (covers xs) (covers comes) was
      (record { evaluations = λ k l. (unchanged k l).0; values = λ within k l. (unchanged k l).1 }) h)

-- ---- what is held

module _ (o : Operator) (typed : IsTyped o) (choice : IsChoice o.operator) (held : List Holding) (news : List Changes) (long : length news ≡ length o.operands) (n : SetDraft) where
  abbrev on : ChoiceOn
  on = choice_in o

  abbrev AllNoted : Type 0
  AllNoted = (sets : List DataSet) → AllPlain held → Sees held news sets → IsNoted on (contents held) sets (keys_from on 0 news) n

  asked-right : AllNoted → (before : ℕ) (xs : List DataSet) (x : DataSet) → AreAsked (AreOperands o.operands) (choice_meaning on) (wanted_of o) held news before xs x → IsRight (choice_meaning on (after_news news xs)) x (finished before n)
  asked-right noted before xs x asked =
      let some = some-branches o typed choice in
      let as_many : length xs ≡ length o.operands = AllZip-long IsBoundedSetOf o.operands xs asked.admitted in
      let are : contents held ≡ xs = ap contents (sym asked.held_is) ∙ contents-all_whole xs (length o.operands) as_many in
      let plain : AllPlain held = subst AllPlain asked.held_is (all_whole-plain xs (length o.operands)) in
      let sees : Sees held news (after_news news xs) = subst (λ (us : List DataSet). (i : ℕ) (key : List Value) → get (set_at (after_news news xs) i) key ≡ after (change_at news i key) (get (set_at us i) key)) (sym are) (set-after news xs (long ∙ sym as_many)) in
      let all : IsNoted on xs (after_news news xs) (keys_from on 0 news) n = subst (λ (us : List DataSet). IsNoted on us (after_news news xs) (keys_from on 0 news) n) are (noted (after_news news xs) plain sees) in
      right-noted on (typed-choice o typed choice) (omega (arith, some)) news xs asked.admitted asked.admitted_after (long ∙ sym as_many) x before n all asked.result_is asked.count

  pub right-answer : AllNoted → (before : ℕ) (answer : Result Changes Stop) → IfSome (answer_of answer) (λ a. a ≡ finished before n) → IsRightAnswer (AreOperands o.operands) (meaning_of o) (wanted_of o) held news before answer
  right-answer noted before answer ends =
      subst (λ (meaning : List DataSet → SetOutcome). IsRightAnswer (AreOperands o.operands) meaning (wanted_of o) held news before answer) (choice-means o choice)
      (IsRightAnswer-finished (AreOperands o.operands) (choice_meaning on) (wanted_of o) held news before answer n ends (asked-right noted before))

-- three looks for each change are within reach
pub within-reach : (n c : ℕ) → 2 ≤ n → 6 * c ≤ (2 * n + 2) * c
within-reach n c h = let more : 6 ≤ 2 * n + 2 = omega (arith, h) in omega (arith, mul-le-mul_right c more)
