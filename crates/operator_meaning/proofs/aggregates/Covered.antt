-- The outcome of aggregates in words, and how many points there are.
use Rattle.std.proofs.Common.{◌≡◌, ◌≢◌, ◌≤◌, List, [], map, length, false, sym, ap, subst, ◌∙◌, arith}
use Rattle.std.specs.Prelude.{option_and_then}
use Rattle.std.specs.Option.{option_map_or}
use Rattle.std.specs.FinMap.{empty, entries, get, keys, len, len-entries, same_map}
use Rattle.std.proofs.lemmas.List.{length-map}
use Rattle.vtl_values.specs.declared.structure.Component.{Component}
use Rattle.vtl_values.specs.declared.value.Value.{Value}
use Rattle.vtl_values.specs.Order.{key_cmp}
use Rattle.vtl_values.proofs.Values.{key_cmp-IsTotalOrder, key_cmp-IsAntisymmetric}
use Rattle.data_model.specs.Maps.{made_at}
use Rattle.data_model.specs.Outcomes.{Made, TooMany, Outcome, IsOutcome, IsResult, made}
use Rattle.data_model.specs.declared.TheConstants.{POINT_LIMIT}
use Rattle.data_model.proofs.MapLemmas.{get-made_at_all, keys-empty, len-made_at}
use Rattle.data_model.proofs.OutcomeLemmas.{outcome-nothing}
use Rattle.point_sets.specs.DataSets.{DataSet}
use Rattle.clause_meaning.proofs.Covered.{IsCovered, IsMeant, covered-meant}
use Rattle.clause_meaning.proofs.Kept.{result}
use Rattle.data_set_trees.specs.declared.aggregates.aggregate.CheckedAggregate.{CheckedAggregate}
use Rattle.operator_meaning.specs.aggregates.Aggregates.{is_beyond, point_of, aggregate_working, aggregate_meaning}
use Rattle.operator_meaning.specs.aggregates.Groups.{group_of, group_row}
use Rattle.operator_meaning.proofs.aggregates.Groups.{unlisted-group, same-group}

module _ (a : CheckedAggregate) (components : List Component) where
  pub covered : (x : DataSet) → IsCovered (aggregate_working a components x)
  covered x = record {
    evaluations = λ group l. ap (λ o. option_map_or (λ points. is_beyond a (group_row a.grouping group points)) o false) (unlisted-group a.grouping group x l);
    points = λ group l. ap (option_and_then (point_of a components group)) (unlisted-group a.grouping group x l);
  }

  pub meant : (x : DataSet) → IsMeant (aggregate_working a components x)
  meant x = covered-meant (aggregate_working a components x) (covered x)

  pub meaning-empty : aggregate_meaning a components empty ≡ made empty
  meaning-empty =
      let none : map (group_of a.grouping) (keys (empty {X = List Value} {R = key_cmp})) ≡ [] = ap (map (group_of a.grouping)) (keys-empty key_cmp (List Value)) in
      rw none (outcome-nothing key_cmp-IsTotalOrder key_cmp-IsAntisymmetric (aggregate_working a components empty).beyond (aggregate_working a components empty).value)

  -- ---- how many points

  groups-few : (x : DataSet) → length (aggregate_working a components x).keys ≡ len x
  groups-few x = length-map (keys x) (group_of a.grouping) ∙ length-map (entries x) (λ (e : List Value × List Value). e.0) ∙ sym (len-entries x)

  result-few : (x m : DataSet) → IsResult {R = key_cmp} (aggregate_working a components x).beyond (aggregate_working a components x).value m → len m ≤ len x
  result-few x m h =
      let w = aggregate_working a components x in
      let same : m ≡ made_at {R = key_cmp} w.keys w.value = same_map key_cmp-IsTotalOrder key_cmp-IsAntisymmetric m (made_at w.keys w.value) (λ k. h.values k ∙ sym (get-made_at_all key_cmp-IsTotalOrder key_cmp-IsAntisymmetric w.keys w.value (covered x).points k)) in
      let bound = len-made_at key_cmp-IsTotalOrder w.keys w.value in
      let listed = groups-few x in
      subst (λ (n : DataSet). len n ≤ len x) (sym same) (omega (arith, bound, listed))

  pub no-more : (x y : DataSet) → aggregate_meaning a components x ≡ Made y → len y ≤ len x
  no-more x y e = result-few x y (result (aggregate_working a components x) y (meant x) e)

  pub not-too-many : (x : DataSet) → len x ≤ POINT_LIMIT → aggregate_meaning a components x ≢ TooMany
  not-too-many x few e =
      let w = aggregate_working a components x in
      let many = subst (λ (o : Outcome key_cmp (List Value)). IsOutcome {R = key_cmp} w.beyond w.value o) e (meant x) in
      let less = result-few x many.0 many.1 in
      let above = many.2 in
      omega (arith, less, few, above)

  -- ---- what depends on a group's points alone

  pub same-value : (x y : DataSet) (group : List Value) → ((key : List Value) → group_of a.grouping key ≡ group → get x key ≡ get y key) → (aggregate_working a components x).value group ≡ (aggregate_working a components y).value group
  same-value x y group same = ap (option_and_then (point_of a components group)) (same-group a.grouping group x y same)

  pub same-beyond : (x y : DataSet) (group : List Value) → ((key : List Value) → group_of a.grouping key ≡ group → get x key ≡ get y key) → (aggregate_working a components x).beyond group ≡ (aggregate_working a components y).beyond group
  same-beyond x y group same = ap (λ o. option_map_or (λ points. is_beyond a (group_row a.grouping group points)) o false) (same-group a.grouping group x y same)
