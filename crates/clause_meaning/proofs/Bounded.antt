-- How many points a clause gives.
use Rattle.std.proofs.Common.{◌≡◌, ◌≢◌, ◌≤◌, suc, List, [], ◌∷◌, length, Bool, true, false, cond, sym, subst, ◌∙◌, arith}
use Rattle.std.specs.Prelude.{filter}
use Rattle.std.specs.FinMap.{entries, keys, len, len-entries, same_map}
use Rattle.std.proofs.lemmas.List.{length-map}
use Rattle.vtl_values.specs.declared.value.Value.{Value}
use Rattle.vtl_values.specs.Order.{key_cmp}
use Rattle.vtl_values.proofs.Values.{key_cmp-IsTotalOrder, key_cmp-IsAntisymmetric}
use Rattle.data_model.specs.Maps.{made_at}
use Rattle.data_model.specs.Outcomes.{Made, TooMany, Outcome, IsOutcome, IsResult}
use Rattle.data_model.specs.declared.TheConstants.{POINT_LIMIT}
use Rattle.data_model.proofs.MapLemmas.{get-made_at_all, len-made_at}
use Rattle.point_sets.specs.DataSets.{DataSet}
use Rattle.data_set_trees.specs.declared.clauses.frame.Frame.{Frame}
use Rattle.data_set_trees.specs.declared.clauses.clause.CheckedClause.{CheckedClause}
use Rattle.data_set_trees.specs.declared.clauses.clause.CheckedClause.TheVariants as clause
use Rattle.clause_meaning.specs.Workings.{Working}
use Rattle.clause_meaning.specs.Clauses.{has_values, key_left, working_of, clause_meaning, makes_more}
use Rattle.clause_meaning.proofs.Covered.{IsCovered, covered, meant}
use Rattle.clause_meaning.proofs.Kept.{result}

length-filter : {A : Type 0} (p : A → Bool) (xs : List A) → length (filter p xs) ≤ length xs
length-filter p [] = omega arith
length-filter p (x ∷ xs) = let rest = length-filter p xs in elim (p x) as (λ b. length (cond b (x ∷ filter p xs) (filter p xs)) ≤ suc (length xs)) [ true ↦ omega (arith, rest) | false ↦ omega (arith, rest) ]

length-keys : (a : DataSet) → length (keys a) ≡ len a
length-keys a = length-map (entries a) (λ (e : List Value × List Value). e.0) ∙ sym (len-entries a)

-- no clause but `unpivot` lists more keys than its operand has
few_keys : (c : CheckedClause) (frame : Frame) (a : DataSet) → makes_more c ≡ false → length (working_of c frame a).keys ≤ len a
few_keys (clause.Filter condition) frame a h = let all = length-keys a in omega (arith, all)
few_keys (clause.Calc items) frame a h = let all = length-keys a in omega (arith, all)
few_keys (clause.Keep numbers) frame a h = let all = length-keys a in omega (arith, all)
few_keys (clause.Drop numbers) frame a h = let all = length-keys a in omega (arith, all)
few_keys (clause.Rename renames) frame a h = let all = length-keys a in omega (arith, all)
few_keys (clause.Sub items) frame a h =
    let all = length-keys a in
    let some = length-filter (has_values items) (keys a) in
    let same = length-map (filter (has_values items) (keys a)) (key_left items frame) in
    omega (arith, all, some, same)
few_keys (clause.Unpivot identifier measure) frame a h = cc
few_keys (clause.Measures items) frame a h = let all = length-keys a in omega (arith, all)

-- a result has no more points than keys are listed
result-few : (w : Working) (m : DataSet) → IsCovered w → IsResult {R = key_cmp} w.beyond w.value m → len m ≤ length w.keys
result-few w m covers h =
    let same : m ≡ made_at {R = key_cmp} w.keys w.value = same_map key_cmp-IsTotalOrder key_cmp-IsAntisymmetric m (made_at w.keys w.value) (λ k. h.values k ∙ sym (get-made_at_all key_cmp-IsTotalOrder key_cmp-IsAntisymmetric w.keys w.value covers.points k)) in
    subst (λ (n : DataSet). len n ≤ length w.keys) (sym same) (len-made_at key_cmp-IsTotalOrder w.keys w.value)

module _ (c : CheckedClause) (frame : Frame) (a : DataSet) where
  pub no_more : (y : DataSet) → makes_more c ≡ false → clause_meaning c frame a ≡ Made y → len y ≤ len a
  no_more y h e =
      let bound = result-few (working_of c frame a) y (covered c frame a) (result (working_of c frame a) y (meant c frame a) e) in
      let listed = few_keys c frame a h in
      omega (arith, bound, listed)

  pub not_too_many : makes_more c ≡ false → len a ≤ POINT_LIMIT → clause_meaning c frame a ≢ TooMany
  not_too_many h few e =
      let many = subst (λ (o : Outcome key_cmp (List Value)). IsOutcome {R = key_cmp} (working_of c frame a).beyond (working_of c frame a).value o) e (meant c frame a) in
      let bound = result-few (working_of c frame a) many.0 (covered c frame a) many.1 in
      let listed = few_keys c frame a h in
      let above = many.2 in
      omega (arith, bound, listed, few, above)
