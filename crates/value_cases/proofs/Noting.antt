-- Notes of changes from what a data set has.
use Rattle.std.proofs.Common.{◌≡◌, List, Option, true, false, cond, sym, ap, subst, ◌∙◌, inl, inr}
use Rattle.std.specs.Option.{IfSome, option_eq}
use Rattle.std.specs.Ordering.{eq_by_cmp}
use Rattle.std.specs.FinMap.{empty, get, insert, get-empty, get-insert}
use Rattle.std.proofs.lemmas.Bool.{cases_Bool}
use Rattle.vtl_values.specs.declared.value.Value.{Value}
use Rattle.vtl_values.specs.Order.{key_cmp}
use Rattle.vtl_values.proofs.Values.{key_cmp-IsTotalOrder, key_cmp-IsAntisymmetric}
use Rattle.data_model.specs.Deltas.{Pair, BeginsAt}
use Rattle.data_model.proofs.MapLemmas.{tied}
use Rattle.point_sets.specs.DataSets.{DataSet}
use Rattle.point_sets.specs.Changes.{Changes, values_eq, with_change}

-- a change more, from what the set has at its key
pub begins-noted : (d e : Changes) (m : DataSet) (k : List Value) (x y : Option (List Value)) → get m k ≡ x → e ≡ with_change d k x y → BeginsAt d m → BeginsAt e m
begins-noted d e m k x y was is h = subst (λ (c : Changes). BeginsAt c m) (sym is) (elim (option_eq values_eq x y) as (λ b. BeginsAt (cond b d (insert d k (x, y))) m) [ true ↦ h | false ↦ inserted ])
  where
    inserted : BeginsAt (insert d k (x, y)) m
    inserted q = subst (λ (found : Option (Pair (List Value))). IfSome found (λ c. get m q ≡ c.0)) (sym (get-insert key_cmp-IsTotalOrder d k (x, y) q)) (elim (cases_Bool (eq_by_cmp key_cmp q k)) [
      | inl yes' ↦ rw yes' (ap (get m) (tied key_cmp-IsTotalOrder key_cmp-IsAntisymmetric q k yes') ∙ was)
      | inr no' ↦ rw no' (h q)
    ])

-- before the first change
pub begins-empty : (d : Changes) (m : DataSet) → d ≡ empty → BeginsAt d m
begins-empty d m is = subst (λ (c : Changes). BeginsAt c m) (sym is) (λ k. subst (λ (found : Option (Pair (List Value))). IfSome found (λ c. get m k ≡ c.0)) (sym (get-empty key_cmp k)) tt)
