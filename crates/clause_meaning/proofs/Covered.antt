-- Where a clause's keys don't list a key it has nothing there.
use Rattle.std.proofs.Common.{◌≡◌, List, [], ◌∷◌, ◌++◌, map, zip, Bool, true, false, cond, ◌&&◌, ◌||◌, Option, Some, None, refl, sym, ap, subst, ◌∙◌}
use Rattle.std.specs.Prelude.{option_and_then, filter, find, flat_map}
use Rattle.std.specs.Option.{option_map_or, is_some}
use Rattle.std.specs.List.{last_or}
use Rattle.std.specs.Ordering.{eq_by_cmp, is_eq}
use Rattle.std.specs.FinMap.{empty, get, keys}
use Rattle.vtl_values.specs.declared.kind.Role.TheVariants.{Measure}
use Rattle.vtl_values.specs.declared.structure.Component.{Component}
use Rattle.vtl_values.specs.declared.value.Value.{Value}
use Rattle.vtl_values.specs.declared.value.Value.TheVariants.{Text}
use Rattle.vtl_values.specs.Order.{value_cmp, key_cmp}
use Rattle.vtl_values.proofs.Values.{value_cmp-IsAntisymmetric, key_cmp-IsTotalOrder, key_cmp-IsAntisymmetric}
use Rattle.data_model.specs.Maps.{is_listed}
use Rattle.data_model.specs.Outcomes.{Covers, IsOutcome, made}
use Rattle.data_model.proofs.MapLemmas.{equal, tied_to_itself, is_listed-keys, get-unlisted, keys-empty}
use Rattle.data_model.proofs.OutcomeLemmas.{outcome-is, outcome-nothing}
use Rattle.data_model.proofs.DeltaLemmas.{contradicted}
use Rattle.point_sets.specs.DataSets.{DataSet}
use Rattle.data_set_trees.specs.declared.clauses.frame.Frame.{Frame}
use Rattle.data_set_trees.specs.declared.clauses.clause.CheckedClause.{CheckedClause}
use Rattle.data_set_trees.specs.declared.clauses.clause.CheckedClause.TheVariants as clause
use Rattle.data_set_trees.specs.declared.clauses.clause.CheckedSubItem.{CheckedSubItem}
use Rattle.data_set_trees.specs.clauses.Frames.{has_role}
use Rattle.clause_meaning.specs.Workings.{Working, outcome_of, point_by_point}
use Rattle.clause_meaning.specs.Clauses.{has_values, key_left, measures, key_with_name, is_measure_called, measure_point, without_last, unpivoted_at, unpivot_working, sub_working, working_of, clause_meaning}
use Rattle.clause_meaning.proofs.Lists.{find-unlisted, listed-flat_map, split-last}

abbrev pub IsCovered : Working → Type 0
IsCovered w = Covers key_cmp w.evaluated w.beyond w.keys w.value

pub point_by_point-covered : (beyond : List Value → List Value → Bool) (gives : List Value → List Value → Option (List Value)) (a : DataSet) → IsCovered (point_by_point beyond gives a)
point_by_point-covered beyond gives a = record {
  evaluations = λ k l. ap (λ o. option_map_or (beyond k) o false) (get-unlisted key_cmp-IsTotalOrder a k l);
  points = λ k l. ap (option_and_then (gives k)) (get-unlisted key_cmp-IsTotalOrder a k l);
}

pub sub-covered : (items : List CheckedSubItem) (frame : Frame) (a : DataSet) → IsCovered (sub_working items frame a)
sub-covered items frame a = record {
  evaluations = λ k l. refl;
  points = λ k l. ap (option_and_then (get a)) (find-unlisted key_cmp (has_values items) (key_left items frame) k (keys a) l);
}

-- ---- unpivot

-- a key with a measure's name is listed
listed-name : (key : List Value) (name : Value) (cs : List Component) (vs : List Value) → is_some (find (λ p. is_measure_called name p.0) (zip cs vs)) ≡ true → is_listed key_cmp (map (key_with_name key) (measures cs)) (key ++ name ∷ []) ≡ true
listed-name key name [] vs h = cc
listed-name key name (c ∷ cs) [] h = cc
listed-name key name (c ∷ cs) (v ∷ vs) h = by_test (has_role Measure c) (is_eq (value_cmp name (Text c.name))) refl (listed-name key name cs vs) h
  where
    by_test : (m e : Bool) → is_eq (value_cmp name (Text c.name)) ≡ e → (is_some (find (λ p. is_measure_called name p.0) (zip cs vs)) ≡ true → is_listed key_cmp (map (key_with_name key) (measures cs)) (key ++ name ∷ []) ≡ true) → is_some (cond (m && e) (Some (c, v)) (find (λ p. is_measure_called name p.0) (zip cs vs))) ≡ true → is_listed key_cmp (map (key_with_name key) (cond m (c ∷ measures cs) (measures cs))) (key ++ name ∷ []) ≡ true
    by_test false e same later i = later i
    by_test true true same later i =
        let called : name ≡ Text c.name = value_cmp-IsAntisymmetric name (Text c.name) (equal (value_cmp name (Text c.name)) same) in
        let first : eq_by_cmp key_cmp (key ++ name ∷ []) (key_with_name key c) ≡ true = subst (λ n. eq_by_cmp key_cmp (key ++ name ∷ []) (key ++ n ∷ []) ≡ true) called (tied_to_itself key_cmp-IsTotalOrder (key ++ name ∷ [])) in
        rw first refl
    by_test true false same later i = elim (eq_by_cmp key_cmp (key ++ name ∷ []) (key_with_name key c)) as (λ b. (b || is_listed key_cmp (map (key_with_name key) (measures cs)) (key ++ name ∷ [])) ≡ true) [ true ↦ refl | false ↦ later i ]

module _ (frame : Frame) (a : DataSet) where
  abbrev names_with : List Value → List (List Value)
  names_with key = map (key_with_name key) (measures frame.components)

  -- a key with a value is listed
  unpivoted-listed : (key : List Value) → is_listed key_cmp (flat_map names_with (keys a)) key ≡ false → unpivoted_at frame a key ≡ None
  unpivoted-listed key h = by_last (last_or None key) refl
    where
      by_last : (o : Option Value) → last_or None key ≡ o → option_and_then (λ name. option_and_then (λ rest. measure_point frame (without_last key ++ rest) name) (get a (without_last key))) o ≡ None
      by_last None e = refl
      by_last (Some name) e = by_point (get a (without_last key)) refl
        where
          by_point : (o : Option (List Value)) → get a (without_last key) ≡ o → option_and_then (λ rest. measure_point frame (without_last key ++ rest) name) o ≡ None
          by_point None there = refl
          by_point (Some rest) there = by_measure (find (λ p. is_measure_called name p.0) (zip frame.components (without_last key ++ rest))) refl
            where
              by_measure : (o : Option (Component × Value)) → find (λ p. is_measure_called name p.0) (zip frame.components (without_last key ++ rest)) ≡ o → measure_point frame (without_last key ++ rest) name ≡ None
              by_measure None m = rw m refl
              by_measure (Some p) m =
                  let own : is_listed key_cmp (names_with (without_last key)) (without_last key ++ name ∷ []) ≡ true = listed-name (without_last key) name frame.components (without_last key ++ rest) (ap is_some m) in
                  let listed : is_listed key_cmp (keys a) (without_last key) ≡ true = is_listed-keys key_cmp-IsTotalOrder a (without_last key) ∙ ap is_some there in
                  let all : is_listed key_cmp (flat_map names_with (keys a)) (without_last key ++ name ∷ []) ≡ true = listed-flat_map key_cmp key_cmp key_cmp-IsTotalOrder key_cmp-IsAntisymmetric names_with (without_last key) (without_last key ++ name ∷ []) (keys a) listed own in
                  contradicted (is_listed key_cmp (flat_map names_with (keys a)) key) (subst (λ q. is_listed key_cmp (flat_map names_with (keys a)) q ≡ true) (sym (split-last key name e)) all) h

  pub unpivot-covered : IsCovered (unpivot_working frame a)
  unpivot-covered = record { evaluations = λ k l. refl; points = unpivoted-listed }

-- ---- all clauses

pub covered : (c : CheckedClause) (frame : Frame) (a : DataSet) → IsCovered (working_of c frame a)
covered (clause.Filter condition) frame a = point_by_point-covered _ _ a
covered (clause.Calc items) frame a = point_by_point-covered _ _ a
covered (clause.Keep numbers) frame a = point_by_point-covered _ _ a
covered (clause.Drop numbers) frame a = point_by_point-covered _ _ a
covered (clause.Rename renames) frame a = point_by_point-covered _ _ a
covered (clause.Sub items) frame a = sub-covered items frame a
covered (clause.Unpivot identifier measure) frame a = unpivot-covered frame a
covered (clause.Measures items) frame a = point_by_point-covered _ _ a

abbrev pub IsMeant : Working → Type 0
IsMeant w = IsOutcome {R = key_cmp} w.beyond w.value (outcome_of w)

pub covered-meant : (w : Working) → IsCovered w → IsMeant w
covered-meant w h = outcome-is key_cmp-IsTotalOrder key_cmp-IsAntisymmetric w.evaluated w.beyond w.keys w.value h

pub meant : (c : CheckedClause) (frame : Frame) (a : DataSet) → IsMeant (working_of c frame a)
meant c frame a = covered-meant (working_of c frame a) (covered c frame a)

-- ---- empty data sets

nowhere : (w : Working) → w.evaluated ≡ [] → w.keys ≡ [] → outcome_of w ≡ made empty
nowhere w evaluated listed = rw (evaluated, listed) (outcome-nothing key_cmp-IsTotalOrder key_cmp-IsAntisymmetric w.beyond w.value)

no_keys : keys (empty {X = List Value} {R = key_cmp}) ≡ []
no_keys = keys-empty key_cmp (List Value)

pub meaning-empty : (c : CheckedClause) (frame : Frame) → clause_meaning c frame empty ≡ made empty
meaning-empty (clause.Filter condition) frame = nowhere (working_of (clause.Filter condition) frame empty) no_keys no_keys
meaning-empty (clause.Calc items) frame = nowhere (working_of (clause.Calc items) frame empty) no_keys no_keys
meaning-empty (clause.Keep numbers) frame = nowhere (working_of (clause.Keep numbers) frame empty) no_keys no_keys
meaning-empty (clause.Drop numbers) frame = nowhere (working_of (clause.Drop numbers) frame empty) no_keys no_keys
meaning-empty (clause.Rename renames) frame = nowhere (working_of (clause.Rename renames) frame empty) no_keys no_keys
meaning-empty (clause.Sub items) frame = nowhere (working_of (clause.Sub items) frame empty) no_keys (ap (λ ks. map (key_left items frame) (filter (has_values items) ks)) no_keys)
meaning-empty (clause.Unpivot identifier measure) frame = nowhere (working_of (clause.Unpivot identifier measure) frame empty) no_keys (ap (flat_map (λ key. map (key_with_name key) (measures frame.components))) no_keys)
meaning-empty (clause.Measures items) frame = nowhere (working_of (clause.Measures items) frame empty) no_keys no_keys
