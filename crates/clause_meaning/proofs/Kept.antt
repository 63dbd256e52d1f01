-- Which points a clause gives.
use Rattle.std.proofs.Common.{◌≡◌, List, [], ◌∷◌, ◌++◌, Bool, true, false, Option, Some, None, option_map, refl, sym, ap, subst, ◌∙◌}
use Rattle.std.specs.Prelude.{ℕ, option_and_then, is_none, find}
use Rattle.std.specs.List.{last_or}
use Rattle.std.specs.Ordering.{eq_by_cmp}
use Rattle.std.specs.Option.{option_map_or, is_some}
use Rattle.std.specs.FinMap.{get, keys, same_map}
use Rattle.vtl_values.specs.declared.value.Value.{Value}
use Rattle.vtl_values.specs.Order.{key_cmp}
use Rattle.vtl_values.proofs.Values.{key_cmp-IsTotalOrder, key_cmp-IsAntisymmetric}
use Rattle.data_model.specs.Maps.{filtered}
use Rattle.data_model.specs.Outcomes.{Made, Outcome, IsOutcome, IsResult}
use Rattle.data_model.proofs.MapLemmas.{get-filtered, tied}
use Rattle.scalar_trees.proofs.typing.Sound.{left, right}
use Rattle.point_sets.specs.DataSets.{DataSet}
use Rattle.scalar_trees.specs.declared.tree.CheckedExpr.{CheckedExpr}
use Rattle.scalar_meaning.specs.Rows.{point_row}
use Rattle.data_set_trees.specs.declared.clauses.frame.Frame.{Frame}
use Rattle.data_set_trees.specs.declared.clauses.clause.CheckedClause.TheVariants as clause
use Rattle.data_set_trees.specs.declared.clauses.clause.CheckedItem.{CheckedItem}
use Rattle.data_set_trees.specs.declared.clauses.clause.CheckedMeasure.{CheckedMeasure}
use Rattle.data_set_trees.specs.declared.clauses.clause.CheckedSubItem.{CheckedSubItem}
use Rattle.clause_meaning.specs.Workings.{Working, outcome_of, point_by_point}
use Rattle.clause_meaning.specs.Clauses.{is_true_at, item_values, calculated_values, worked_values, with_viral_values, has_values, key_left, comes_to, measure_point, without_last, working_of, clause_meaning}
use Rattle.clause_meaning.proofs.Lists.{found, last-pushed, before-pushed}
use Rattle.clause_meaning.proofs.Covered.{IsMeant, meant, covered-meant, point_by_point-covered}

-- a data set that comes of an operator is its result
pub result : (w : Working) (y : DataSet) → IsMeant w → outcome_of w ≡ Made y → IsResult {R = key_cmp} w.beyond w.value y
result w y h e = (subst (λ (o : Outcome key_cmp (List Value)). IsOutcome {R = key_cmp} w.beyond w.value o) e h).0

module _ (beyond : List Value → List Value → Bool) (gives : List Value → List Value → Option (List Value)) (a y : DataSet) where
  pub same_keys : ((key rest : List Value) → beyond key rest ≡ false → is_some (gives key rest) ≡ true) → outcome_of (point_by_point beyond gives a) ≡ Made y → (key : List Value) → is_some (get y key) ≡ is_some (get a key)
  same_keys stays e key =
      let h = result (point_by_point beyond gives a) y (covered-meant (point_by_point beyond gives a) (point_by_point-covered beyond gives a)) e in
      ap is_some (h.values key) ∙ by_point (get a key) (h.in_range key)
    where
      by_point : (o : Option (List Value)) → option_map_or (beyond key) o false ≡ false → is_some (option_and_then (gives key) o) ≡ is_some o
      by_point None i = refl
      by_point (Some rest) i = stays key rest i

worked_out : {A B : Type 0} (o : Option A) (f : A → B) → is_none o ≡ false → is_some (option_map f o) ≡ true
worked_out None f h = cc
worked_out (Some x) f h = refl

module _ (frame : Frame) (a y : DataSet) where
  pub calc-keys : (items : List CheckedItem) → clause_meaning (clause.Calc items) frame a ≡ Made y → (key : List Value) → is_some (get y key) ≡ is_some (get a key)
  calc-keys items = same_keys _ _ a y (λ key rest h. worked_out (item_values (point_row key rest) items) (calculated_values items frame (key ++ rest)) h)

  pub measures-keys : (items : List CheckedMeasure) → clause_meaning (clause.Measures items) frame a ≡ Made y → (key : List Value) → is_some (get y key) ≡ is_some (get a key)
  measures-keys items = same_keys _ _ a y (λ key rest h. worked_out (worked_values (point_row key rest) items) (with_viral_values frame (key ++ rest)) h)

  pub filter-is : (condition : CheckedExpr) → clause_meaning (clause.Filter condition) frame a ≡ Made y → y ≡ filtered (is_true_at condition) a
  filter-is condition e =
      let h = result (working_of (clause.Filter condition) frame a) y (meant (clause.Filter condition) frame a) e in
      same_map key_cmp-IsTotalOrder key_cmp-IsAntisymmetric y (filtered (is_true_at condition) a) (λ key. h.values key ∙ sym (get-filtered key_cmp-IsTotalOrder key_cmp-IsAntisymmetric (is_true_at condition) a key))

  pub sub-is : (items : List CheckedSubItem) → clause_meaning (clause.Sub items) frame a ≡ Made y → (left_key rest : List Value) → get y left_key ≡ Some rest → (key : List Value) × (get a key ≡ Some rest) × (has_values items key ≡ true) × (key_left items frame key ≡ left_key)
  sub-is items e left_key rest there =
      let h = result (working_of (clause.Sub items) frame a) y (meant (clause.Sub items) frame a) e in
      by_key (find (comes_to items frame left_key) (keys a)) refl (sym (h.values left_key) ∙ there)
    where
      by_key : (o : Option (List Value)) → find (comes_to items frame left_key) (keys a) ≡ o → option_and_then (get a) o ≡ Some rest → (key : List Value) × (get a key ≡ Some rest) × (has_values items key ≡ true) × (key_left items frame key ≡ left_key)
      by_key None i g = cc
      by_key (Some key) i g =
          let passes = found (comes_to items frame left_key) (keys a) key i in
          let ties = right (has_values items key) (eq_by_cmp key_cmp left_key (key_left items frame key)) passes in
          (key, g, left (has_values items key) (eq_by_cmp key_cmp left_key (key_left items frame key)) passes, sym (tied key_cmp-IsTotalOrder key_cmp-IsAntisymmetric left_key (key_left items frame key) ties))

  pub unpivot-is : (identifier measure : List ℕ) → clause_meaning (clause.Unpivot identifier measure) frame a ≡ Made y → (key : List Value) (name : Value) → get y (key ++ name ∷ []) ≡ option_and_then (λ rest. measure_point frame (key ++ rest) name) (get a key)
  unpivot-is identifier measure e key name =
      let h = result (working_of (clause.Unpivot identifier measure) frame a) y (meant (clause.Unpivot identifier measure) frame a) e in
      let last : last_or None (key ++ name ∷ []) ≡ Some name = last-pushed None key name in
      let before : without_last (key ++ name ∷ []) ≡ key = before-pushed key name in
      h.values (key ++ name ∷ [])
      ∙ ap (λ o. option_and_then (λ n. option_and_then (λ rest. measure_point frame (without_last (key ++ name ∷ []) ++ rest) n) (get a (without_last (key ++ name ∷ [])))) o) last
      ∙ ap (λ k. option_and_then (λ rest. measure_point frame (k ++ rest) name) (get a k)) before
