-- The outcome of `exists_in` in words.
use Rattle.std.proofs.Common.{◌≡◌, ◌≢◌, ◌≤◌, List, length, Bool, true, false, not, if◌then◌else◌, Option, Some, None, option_map, refl, sym, ap, subst, ◌∙◌, arith}
use Rattle.std.specs.Prelude.{option_and_then}
use Rattle.std.specs.Bool.{then_some}
use Rattle.std.specs.Option.{option_map_or}
use Rattle.std.specs.FinMap.{empty, entries, get, keys, len, len-entries, same_map}
use Rattle.std.proofs.lemmas.List.{length-map}
use Rattle.vtl_values.specs.declared.value.Value.{Value}
use Rattle.vtl_values.specs.Order.{key_cmp}
use Rattle.vtl_values.proofs.Values.{key_cmp-IsTotalOrder, key_cmp-IsAntisymmetric}
use Rattle.vtl_syntax.specs.declared.words.ExistsRows.{ExistsRows}
use Rattle.vtl_syntax.specs.declared.words.ExistsRows.TheVariants as rows
use Rattle.data_model.specs.Maps.{made_at}
use Rattle.data_model.specs.Outcomes.{Made, Range, TooMany, Outcome, IsOutcome, IsResult, made}
use Rattle.data_model.specs.declared.TheConstants.{POINT_LIMIT}
use Rattle.data_model.proofs.DeltaLemmas.{contradicted}
use Rattle.data_model.proofs.MapLemmas.{keys-empty, get-made_at_all, len-made_at}
use Rattle.data_model.proofs.OutcomeLemmas.{outcome-nothing}
use Rattle.point_sets.specs.DataSets.{DataSet}
use Rattle.clause_meaning.proofs.Covered.{IsCovered, IsMeant, covered-meant, point_by_point-covered}
use Rattle.clause_meaning.proofs.Kept.{result}
use Rattle.operator_meaning.specs.exists.Exists.{ExistsOn, is_met, stays, met_values, exists_values, exists_working, exists_meaning}

nowhere : (o : Option (List Value)) → option_map_or (λ (rest : List Value). false) o false ≡ false
nowhere None = refl
nowhere (Some rest) = refl

module _ (e : ExistsOn) (a b : DataSet) where
  pub exists-covered : IsCovered (exists_working e a b)
  exists-covered = point_by_point-covered _ _ a

  pub exists-meant : IsMeant (exists_working e a b)
  exists-meant = covered-meant (exists_working e a b) exists-covered

  pub exists-result : (y : DataSet) → exists_meaning e a b ≡ Made y → IsResult {R = key_cmp} (exists_working e a b).beyond (exists_working e a b).value y
  exists-result y made = result (exists_working e a b) y exists-meant made

  abbrev IsOut : Outcome key_cmp (List Value) → Type 0
  IsOut = IsOutcome {R = key_cmp} (exists_working e a b).beyond (exists_working e a b).value

  pub in_range : (key : List Value) → exists_meaning e a b ≢ Range key
  in_range key is = let least = subst IsOut is exists-meant in contradicted ((exists_working e a b).beyond key) least.passes (nowhere (get a key))

  -- ---- how many points

  length-keys : length (keys a) ≡ len a
  length-keys = length-map (entries a) (λ (p : List Value × List Value). p.0) ∙ sym (len-entries a)

  few-points : (m : DataSet) → IsResult {R = key_cmp} (exists_working e a b).beyond (exists_working e a b).value m → len m ≤ len a
  few-points m h =
      let w = exists_working e a b in
      let same : m ≡ made_at {R = key_cmp} w.keys w.value = same_map key_cmp-IsTotalOrder key_cmp-IsAntisymmetric m (made_at w.keys w.value) (λ k. h.values k ∙ sym (get-made_at_all key_cmp-IsTotalOrder key_cmp-IsAntisymmetric w.keys w.value exists-covered.points k)) in
      let bound : len m ≤ length (keys a) = subst (λ (n : DataSet). len n ≤ length (keys a)) (sym same) (len-made_at key_cmp-IsTotalOrder w.keys w.value) in
      let listed = length-keys in
      omega (arith, bound, listed)

  pub no_more : (y : DataSet) → exists_meaning e a b ≡ Made y → len y ≤ len a
  no_more y made = few-points y (exists-result y made)

  pub not_too_many : len a ≤ POINT_LIMIT → exists_meaning e a b ≢ TooMany
  not_too_many few is =
      let many = subst IsOut is exists-meant in
      let bound = few-points many.0 many.1 in
      let above = many.2 in
      omega (arith, bound, few, above)

  -- ---- what is told of a point

  pub told : (y : DataSet) → exists_meaning e a b ≡ Made y → (key : List Value) → get y key ≡ option_and_then (exists_values e (is_met e b key) key) (get a key)
  told y made key = (exists-result y made).values key

  by_rows : (r : ExistsRows) → e.rows ≡ r → (y : DataSet) → exists_meaning e a b ≡ Made y → (key : List Value) → get y key ≡ option_and_then (λ rest. then_some (stays r (is_met e b key)) (met_values e (is_met e b key) key rest)) (get a key)
  by_rows r is y made key = told y made key ∙ ap (λ q. option_and_then (λ rest. then_some (stays q (is_met e b key)) (met_values e (is_met e b key) key rest)) (get a key)) is

  module _ (y : DataSet) where
    pub told-all : e.rows ≡ rows.All → exists_meaning e a b ≡ Made y → (key : List Value) → get y key ≡ option_map (met_values e (is_met e b key) key) (get a key)
    told-all is made key = by_rows rows.All is y made key ∙ by_point (get a key)
      where
        by_point : (o : Option (List Value)) → option_and_then (λ rest. then_some true (met_values e (is_met e b key) key rest)) o ≡ option_map (met_values e (is_met e b key) key) o
        by_point None = refl
        by_point (Some rest) = refl

    pub told-met : e.rows ≡ rows.True → exists_meaning e a b ≡ Made y → (key : List Value) → get y key ≡ (if is_met e b key then option_map (met_values e true key) (get a key) else None)
    told-met is made key = by_rows rows.True is y made key ∙ by_point (is_met e b key) (get a key)
      where
        by_point : (m : Bool) (o : Option (List Value)) → option_and_then (λ rest. then_some m (met_values e m key rest)) o ≡ (if m then option_map (met_values e true key) o else None)
        by_point true None = refl
        by_point true (Some rest) = refl
        by_point false None = refl
        by_point false (Some rest) = refl

    pub told-unmet : e.rows ≡ rows.False → exists_meaning e a b ≡ Made y → (key : List Value) → get y key ≡ (if is_met e b key then None else option_map (met_values e false key) (get a key))
    told-unmet is made key = by_rows rows.False is y made key ∙ by_point (is_met e b key) (get a key)
      where
        by_point : (m : Bool) (o : Option (List Value)) → option_and_then (λ rest. then_some (not m) (met_values e m key rest)) o ≡ (if m then None else option_map (met_values e false key) o)
        by_point true None = refl
        by_point true (Some rest) = refl
        by_point false None = refl
        by_point false (Some rest) = refl

pub first-empty : (e : ExistsOn) (b : DataSet) → exists_meaning e empty b ≡ made empty
first-empty e b =
    let none = keys-empty key_cmp (List Value) in
    rw none (outcome-nothing key_cmp-IsTotalOrder key_cmp-IsAntisymmetric (exists_working e empty b).beyond (exists_working e empty b).value)
