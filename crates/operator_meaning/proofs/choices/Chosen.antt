-- The outcome of a conditional in words.
use Rattle.std.proofs.Common.{◌≡◌, ◌≢◌, ◌≤◌, List, [], ◌∷◌, ◌++◌, length, false, Option, Some, None, option_map, refl, sym, ap, subst, ◌∙◌, arith}
use Rattle.std.specs.Prelude.{option_and_then}
use Rattle.std.specs.Option.{option_map_or, is_some}
use Rattle.std.specs.FinMap.{empty, entries, get, keys, len, len-entries, same_map}
use Rattle.std.proofs.lemmas.List.{length-map}
use Rattle.vtl_values.specs.declared.value.Value.{Value}
use Rattle.vtl_values.specs.Order.{key_cmp}
use Rattle.vtl_values.proofs.Values.{key_cmp-IsTotalOrder, key_cmp-IsAntisymmetric}
use Rattle.data_model.specs.Maps.{made_at}
use Rattle.data_model.specs.Outcomes.{Made, TooMany, Outcome, IsOutcome, IsResult, made}
use Rattle.data_model.specs.declared.TheConstants.{POINT_LIMIT}
use Rattle.data_model.proofs.MapLemmas.{keys-empty, get-made_at_all, len-made_at}
use Rattle.data_model.proofs.OutcomeLemmas.{outcome-nothing}
use Rattle.point_sets.specs.DataSets.{DataSet}
use Rattle.clause_meaning.specs.Workings.{Working, outcome_of}
use Rattle.clause_meaning.proofs.Covered.{IsCovered, IsMeant, covered-meant, point_by_point-covered}
use Rattle.clause_meaning.proofs.Kept.{result}
use Rattle.operator_meaning.specs.choices.Choices.{ChoiceOn, set_at, chosen_point, chosen_values, is_true_in, is_beyond, in_range, made_of, choice_working, choice_meaning}

nowhere : (w : Working) → w.evaluated ≡ [] → w.keys ≡ [] → outcome_of w ≡ made empty
nowhere w evaluated listed = rw (evaluated, listed) (outcome-nothing key_cmp-IsTotalOrder key_cmp-IsAntisymmetric w.beyond w.value)

pub nothing-chosen : (c : ChoiceOn) (branches : List DataSet) → choice_meaning c (empty ∷ branches) ≡ made empty
nothing-chosen c branches = nowhere (choice_working c (empty ∷ branches)) (keys-empty key_cmp (List Value)) (keys-empty key_cmp (List Value))

-- what is in range is there where something was made
in-range-there : (o : Option (Option (List Value))) → is_beyond o ≡ false → is_some (in_range o) ≡ is_some o
in-range-there None h = refl
in-range-there (Some None) h = cc
in-range-there (Some (Some vs)) h = refl

map-there : {A B : Type 0} (f : A → B) (o : Option A) → is_some (option_map f o) ≡ is_some o
map-there f None = refl
map-there f (Some x) = refl

module _ (c : ChoiceOn) (sets : List DataSet) where
  covered : IsCovered (choice_working c sets)
  covered = point_by_point-covered (λ key rest. is_beyond (made_of c sets key rest)) (λ key rest. in_range (made_of c sets key rest)) (set_at sets 0)

  pub choice-meant : IsMeant (choice_working c sets)
  choice-meant = covered-meant (choice_working c sets) covered

  pub choice-result : (y : DataSet) → choice_meaning c sets ≡ Made y → IsResult {R = key_cmp} (choice_working c sets).beyond (choice_working c sets).value y
  choice-result y e = result (choice_working c sets) y choice-meant e

  pub values-at : (y : DataSet) → choice_meaning c sets ≡ Made y → (key : List Value) → get y key ≡ option_and_then (λ rest. in_range (made_of c sets key rest)) (get (set_at sets 0) key)
  values-at y e key = (choice-result y e).values key

  pub nothing-else : (y : DataSet) → choice_meaning c sets ≡ Made y → (key : List Value) → get (set_at sets 0) key ≡ None → get y key ≡ None
  nothing-else y e key none = values-at y e key ∙ ap (option_and_then (λ (rest : List Value). in_range (made_of c sets key rest))) none

  pub there-at : (y : DataSet) → choice_meaning c sets ≡ Made y → (key rest : List Value) → get (set_at sets 0) key ≡ Some rest → is_some (get y key) ≡ is_some (chosen_point c sets (is_true_in c (key ++ rest)) key)
  there-at y e key rest there =
      let h = choice-result y e in
      let within : is_beyond (made_of c sets key rest) ≡ false = sym (ap (λ (o : Option (List Value)). option_map_or (λ (r : List Value). is_beyond (made_of c sets key r)) o false) there) ∙ h.in_range key in
      let truth = is_true_in c (key ++ rest) in
      ap is_some (h.values key ∙ ap (option_and_then (λ (r : List Value). in_range (made_of c sets key r))) there)
      ∙ in-range-there (made_of c sets key rest) within
      ∙ map-there (chosen_values c truth (key ++ rest)) (chosen_point c sets truth key)

  -- ---- how many points

  length-keys : length (keys (set_at sets 0)) ≡ len (set_at sets 0)
  length-keys = length-map (entries (set_at sets 0)) (λ (e : List Value × List Value). e.0) ∙ sym (len-entries (set_at sets 0))

  few-points : (m : DataSet) → IsResult {R = key_cmp} (choice_working c sets).beyond (choice_working c sets).value m → len m ≤ len (set_at sets 0)
  few-points m h =
      let w = choice_working c sets in
      let same : m ≡ made_at {R = key_cmp} w.keys w.value = same_map key_cmp-IsTotalOrder key_cmp-IsAntisymmetric m (made_at w.keys w.value) (λ k. h.values k ∙ sym (get-made_at_all key_cmp-IsTotalOrder key_cmp-IsAntisymmetric w.keys w.value covered.points k)) in
      let bound : len m ≤ length w.keys = subst (λ (n : DataSet). len n ≤ length w.keys) (sym same) (len-made_at key_cmp-IsTotalOrder w.keys w.value) in
      let listed = length-keys in
      omega (arith, bound, listed)

  pub no_more : (y : DataSet) → choice_meaning c sets ≡ Made y → len y ≤ len (set_at sets 0)
  no_more y e = few-points y (choice-result y e)

  pub not_too_many : len (set_at sets 0) ≤ POINT_LIMIT → choice_meaning c sets ≢ TooMany
  not_too_many few e =
      let many = subst (λ (o : Outcome key_cmp (List Value)). IsOutcome {R = key_cmp} (choice_working c sets).beyond (choice_working c sets).value o) e choice-meant in
      let bound = few-points many.0 many.1 in
      let above = many.2 in
      omega (arith, bound, few, above)
