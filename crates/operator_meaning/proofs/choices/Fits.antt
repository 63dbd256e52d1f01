-- What a well typed conditional gives is of the result's structure.
use Rattle.std.proofs.Common.{◌≡◌, ℕ, zero, suc, List, [], ◌∷◌, ◌++◌, map, get_or, Bool, true, false, ◌&&◌, if◌then◌else◌, Option, Some, None, IfSome, option_map, refl, sym, ap, subst, ◌∙◌}
use Rattle.std.specs.Prelude.{slice_get, unwrap_or}
use Rattle.std.specs.Option.{option_map_or, option_zip}
use Rattle.std.specs.List.{All, AllZip, list_all}
use Rattle.std.specs.FinMap.{get, get-empty}
use Rattle.std.proofs.lemmas.List.Elements.{All-head, All-tail}
use Rattle.vtl_values.specs.Order.{key_cmp}
use Rattle.vtl_values.specs.Texts.{Fits}
use Rattle.vtl_values.specs.declared.kind.Role.TheVariants.{Viral}
use Rattle.vtl_values.specs.declared.structure.Codes.TheVariants.{Any}
use Rattle.vtl_values.specs.declared.structure.Component.{Component}
use Rattle.vtl_values.specs.declared.value.Value.{Value}
use Rattle.vtl_values.specs.Structures.{IsStructure}
use Rattle.data_model.specs.Outcomes.{Made}
use Rattle.point_sets.specs.DataSets.{DataSet}
use Rattle.structured_sets.specs.Fitting as fitting
use Rattle.structured_sets.specs.Fitting.{FitsComponent, FitsIdentifier, IsPointOf, IsSetOf, others}
use Rattle.scalar_trees.specs.WellTyped.{Kinds, is_of_kind}
use Rattle.scalar_trees.specs.typing.Scopes.{column_of}
use Rattle.scalar_trees.proofs.typing.Sound.{both, left, right}
use Rattle.scalar_meaning.specs.Kept.{IsRowOf}
use Rattle.scalar_meaning.specs.Rows.{Row, point_row}
use Rattle.scalar_meaning.specs.Scalars.{meaning}
use Rattle.scalar_meaning.proofs.Kept.{kinds-kept, points-are-rows}
use Rattle.data_set_trees.specs.clauses.Frames.{frame_of, has_role}
use Rattle.data_set_trees.specs.clauses.WellTyped.{kinds_on}
use Rattle.clause_meaning.specs.Clauses.{values_on}
use Rattle.clause_meaning.proofs.ByRole.{of-identifiers}
use Rattle.clause_meaning.proofs.First.{identifiers-first}
use Rattle.clause_meaning.proofs.Fits.{all-fit, fits-by_point}
use Rattle.clause_meaning.proofs.Picked.{AllZip-++, AllZip-weaker}
use Rattle.data_set_trees.specs.declared.tree.ChoiceMeasure.{ChoiceMeasure}
use Rattle.data_set_trees.specs.Components.{identifiers, virals, unlisted}
use Rattle.data_set_trees.specs.checked.Choices.{is_of_branch, branches, all_virals}
use Rattle.operator_meaning.specs.pairs.Pairs.{viral_value, codes_of, one_or_both}
use Rattle.operator_meaning.proofs.pairs.Virals.{map-fits}
use Rattle.operator_meaning.specs.choices.Choices.{ChoiceOn, structure_at, set_at, condition, operand_key, chosen_number, chosen_structure, PointThere, point_at, chosen_point, is_true_in, value_in, viral_values, chosen_values, is_beyond, in_range, made_of, choice_meaning}
use Rattle.operator_meaning.specs.choices.Typed.{IsTypedChoice}
use Rattle.operator_meaning.proofs.choices.Parts.{condition-is, chosen-is, typed_branch, measure_of, chosen-identifiers, chosen-virals, chosen-others}
use Rattle.operator_meaning.proofs.choices.Virals.{Meets, MeetsAll, all-virals-meet, viral-fits, one-fits}

-- ---- points of the operands

-- the operand with a number is of the structure with that number
set-fits : (structures : List (List Component)) (sets : List DataSet) (n : ℕ) → AllZip IsSetOf structures sets → IsSetOf (unwrap_or (slice_get structures n) []) (set_at sets n)
set-fits [] [] n fit key = subst (λ (o : Option (List Value)). IfSome o (IsPointOf [] key)) (sym (get-empty key_cmp key)) tt
set-fits [] (a ∷ sets) n fit key = absurd fit
set-fits (s ∷ ss) [] n fit key = absurd fit
set-fits (s ∷ ss) (a ∷ sets) zero fit key = fit.0 key
set-fits (s ∷ ss) (a ∷ sets) (suc n) fit key = set-fits ss sets n fit.1 key

-- all values of a point fit the components
abbrev AllFit : List Component → List Value × List Value → Type 0
AllFit cs point = AllZip FitsComponent cs (point.0 ++ point.1)

first-at : (structures : List (List Component)) → All IsStructure structures → (n : ℕ) → unwrap_or (slice_get structures n) [] ≡ fitting.identifiers (unwrap_or (slice_get structures n) []) ++ others (unwrap_or (slice_get structures n) [])
first-at [] all n = refl
first-at (s ∷ ss) all zero = identifiers-first s (All-head IsStructure s ss all)
first-at (s ∷ ss) all (suc n) = first-at ss (All-tail IsStructure s ss all) n

module _ (c : ChoiceOn) (sets : List DataSet) (typed : IsTypedChoice c) (fit : AllZip IsSetOf c.operands sets) where
  point-fits : (n : ℕ) (key : List Value) → IfSome (point_at c sets n key) (AllFit (structure_at c n))
  point-fits n key = by_point (get (set_at sets n) (operand_key c n key)) (set-fits c.operands sets n fit (operand_key c n key))
    where
      by_point : (o : Option (List Value)) → IfSome o (IsPointOf (structure_at c n) (operand_key c n key)) → IfSome (option_map (λ rest. (operand_key c n key, rest)) o) (AllFit (structure_at c n))
      by_point None h = tt
      by_point (Some rest) h = all-fit (frame_of (structure_at c n)) (operand_key c n key) rest (first-at c.operands typed.structures n) h

  chosen-fits : (truth : Bool) (key : List Value) → IfSome (chosen_point c sets truth key) (AllFit (chosen_structure c truth))
  chosen-fits truth key = by_number (chosen_number c truth)
    where
      by_number : (o : Option ℕ) → IfSome (option_map_or (λ n. point_at c sets n key) o (Some ([], []))) (AllFit (option_map_or (structure_at c) o []))
      by_number None = tt
      by_number (Some n) = point-fits n key

-- ---- values

AllZip-map : {A B C : Type 0} (F : B → C → Type 0) (f : A → B) (xs : List A) (ys : List C) → AllZip (λ x y. F (f x) y) xs ys → AllZip F (map f xs) ys
AllZip-map F f [] [] h = h
AllZip-map F f [] (y ∷ ys) h = absurd h
AllZip-map F f (x ∷ xs) [] h = absurd h
AllZip-map F f (x ∷ xs) (y ∷ ys) h = (h.0, AllZip-map F f xs ys h.1)

row-of : (cs : List Component) (key rest : List Value) → AllFit cs (key, rest) → IsRowOf (kinds_on (frame_of cs)) (point_row key rest)
row-of cs key rest h =
    points-are-rows (map column_of cs) key rest
    (AllZip-map (λ c v. Fits c.kind v) column_of cs (key ++ rest) (AllZip-weaker FitsComponent (λ c v. Fits c.kind v) (λ c v i. i.kind) cs (key ++ rest) h))

module _ (truth : Bool) (kinds : Kinds) (row : Row) (is : IsRowOf kinds row) where
  measures-worked : (ms : List ChoiceMeasure) → list_all (λ m. is_of_kind kinds (value_in truth m) m.kind) ms ≡ true → (vs : List Value) → values_on row (map (value_in truth) ms) ≡ Some vs → AllZip FitsComponent (map measure_of ms) vs
  measures-worked [] typed [] h = tt
  measures-worked [] typed (v ∷ vs) h = cc
  measures-worked (m ∷ ms) typed vs h =
      let own = is_of_kind kinds (value_in truth m) m.kind in
      let rest = list_all (λ n. is_of_kind kinds (value_in truth n) n.kind) ms in
      by_values (meaning row (value_in truth m)) (kinds-kept (value_in truth m) kinds row m.kind (left own rest typed) is) (values_on row (map (value_in truth) ms)) (measures-worked ms (right own rest typed)) h
    where
      by_values : (o : Option Value) → IfSome o (Fits m.kind) → (p : Option (List Value)) → ((us : List Value) → p ≡ Some us → AllZip FitsComponent (map measure_of ms) us) → option_map (λ q. q.0 ∷ q.1) (option_zip o p) ≡ Some vs → AllZip FitsComponent (measure_of m ∷ map measure_of ms) vs
      by_values None fit p later i = cc
      by_values (Some v) fit None later i = cc
      by_values (Some v) fit (Some us) later i = let same : v ∷ us ≡ vs = cc in subst (λ (ws : List Value). AllZip FitsComponent (measure_of m ∷ map measure_of ms) ws) same (record { kind = fit; codes = refl }, later us refl)

-- what both branches have, each has
of-both : (p q : ChoiceMeasure → Bool) (ms : List ChoiceMeasure) → list_all (λ m. p m && q m) ms ≡ true → (list_all p ms ≡ true) × (list_all q ms ≡ true)
of-both p q [] h = (refl, refl)
of-both p q (m ∷ ms) h =
    let own = left (p m && q m) (list_all (λ n. p n && q n) ms) h in
    let rest = of-both p q ms (right (p m && q m) (list_all (λ n. p n && q n) ms) h) in
    (both (p m) (list_all p ms) (left (p m) (q m) own) rest.0, both (q m) (list_all q ms) (right (p m) (q m) own) rest.1)

-- ---- a point of the result

unlisted-fits : (d : Component) (v : Value) → FitsIdentifier d v → FitsIdentifier (unlisted d) v
unlisted-fits d v fit = by_role (has_role Viral d)
  where
    by_role : (b : Bool) → FitsIdentifier (if b then d else record d { codes = Any }) v
    by_role true = fit
    by_role false = record { fits = record { kind = fit.fits.kind; codes = refl }; some = fit.some }

module _ (c : ChoiceOn) (typed : IsTypedChoice c) where
  abbrev own_condition : List Component
  own_condition = typed.choice.condition

  abbrev both_branches : List (List Component)
  both_branches = branches typed.choice.when_holds typed.choice.when_fails

  abbrev all_of : List Component
  all_of = all_virals [] (own_condition ∷ both_branches)

  structures : All IsStructure (own_condition ∷ both_branches)
  structures = subst (All IsStructure) typed.choice.operands_are typed.structures

  -- a key of the condition is one of the result
  pub key-fits : (key : List Value) → AllZip FitsIdentifier (fitting.identifiers (condition c)) key → AllZip FitsIdentifier (fitting.identifiers c.structure) key
  key-fits key h =
      let own : AllZip FitsIdentifier (identifiers own_condition) key = subst (λ (cs : List Component). AllZip FitsIdentifier cs key) (ap fitting.identifiers (condition-is c typed.choice) ∙ sym (of-identifiers own_condition)) h in
      let is : fitting.identifiers c.structure ≡ map unlisted (identifiers own_condition) =
      sym (of-identifiers c.structure) ∙ ap identifiers typed.choice.choice.is_chosen ∙ chosen-identifiers c.measures own_condition both_branches in
      subst (λ (cs : List Component). AllZip FitsIdentifier cs key) (sym is)
      (AllZip-map FitsIdentifier unlisted (identifiers own_condition) key (AllZip-weaker FitsIdentifier (λ d v. FitsIdentifier (unlisted d) v) unlisted-fits (identifiers own_condition) key own))

  of-kind : (truth : Bool) → list_all (λ m. is_of_branch (typed_branch c typed.choice truth) m.kind (value_in truth m)) c.measures ≡ true
  of-kind true = (of-both (λ m. is_of_branch typed.choice.when_holds m.kind m.holds) (λ m. is_of_branch typed.choice.when_fails m.kind m.fails) c.measures typed.choice.choice.of_kind).0
  of-kind false = (of-both (λ m. is_of_branch typed.choice.when_holds m.kind m.holds) (λ m. is_of_branch typed.choice.when_fails m.kind m.fails) c.measures typed.choice.choice.of_kind).1

  abbrev branch_is : Bool → List Component
  branch_is truth = unwrap_or (typed_branch c typed.choice truth) []

  virals-meet : All (MeetsAll own_condition (branch_is true) (branch_is false)) all_of
  virals-meet =
      all-virals-meet own_condition (All-head IsStructure own_condition both_branches structures) typed.choice.when_holds typed.choice.when_fails
      (All-tail IsStructure own_condition both_branches structures) typed.choice.choice.belong typed.choice.choice.alike

  -- of the condition and of the branch that is chosen
  meets-chosen : (truth : Bool) (v : Component) → MeetsAll own_condition (branch_is true) (branch_is false) v → All (Meets v) own_condition × All (Meets v) (branch_is truth)
  meets-chosen true v h = (h.0, h.1)
  meets-chosen false v h = (h.0, h.2)

  module _ (truth : Bool) (own : List Value) (point : List Value × List Value) (fit : AllZip FitsComponent (condition c) own) (fits : AllFit (chosen_structure c truth) point) where
    abbrev value_of : List Component → List Component → Component → Value
    value_of first branch v = one_or_both (codes_of v.codes) (viral_value v.name first own) (viral_value v.name branch (point.0 ++ point.1))

    in_condition : AllZip FitsComponent own_condition own
    in_condition = subst (λ (cs : List Component). AllZip FitsComponent cs own) (condition-is c typed.choice) fit

    in_branch : AllFit (branch_is truth) point
    in_branch = subst (λ (cs : List Component). AllFit cs point) (chosen-is c typed.choice truth) fits

    one-viral : (v : Component) → MeetsAll own_condition (branch_is true) (branch_is false) v → FitsComponent v (value_of own_condition (branch_is truth) v)
    one-viral v h =
        let meets = meets-chosen truth v h in
        one-fits v (viral_value v.name own_condition own) (viral_value v.name (branch_is truth) (point.0 ++ point.1)) (viral-fits v own_condition own in_condition meets.0) (viral-fits v (branch_is truth) (point.0 ++ point.1) in_branch meets.1)

    virals-are : virals c.structure ≡ all_of
    virals-are = ap virals typed.choice.choice.is_chosen ∙ chosen-virals c.measures own_condition both_branches

    -- the values of viral attributes fit them
    virals-fit : AllZip FitsComponent all_of (viral_values c truth own (point.0 ++ point.1))
    virals-fit =
        let first = condition-is c typed.choice in
        let branch = chosen-is c typed.choice truth in
        let same : viral_values c truth own (point.0 ++ point.1) ≡ map (value_of own_condition (branch_is truth)) all_of = λ i. map (value_of (first i) (branch i)) (virals-are i) in
        subst (λ (vs : List Value). AllZip FitsComponent all_of vs) (sym same)
        (map-fits (value_of own_condition (branch_is truth)) all_of (λ k v within. one-viral (get_or all_of k v) (virals-meet k v within)))

    row : IsRowOf (kinds_on (frame_of (branch_is truth))) (point_row point.0 point.1)
    row = row-of (branch_is truth) point.0 point.1 in_branch

    -- and so do all values
    pub values-fit : (vs : List Value) → chosen_values c truth own point ≡ Some vs → AllZip FitsComponent (others c.structure) vs
    values-fit vs h =
        let ms = map measure_of c.measures in
        let is : others c.structure ≡ ms ++ all_of = ap others typed.choice.choice.is_chosen ∙ chosen-others c.measures own_condition both_branches in
        subst (λ (cs : List Component). AllZip FitsComponent cs vs) (sym is) (by_values (values_on (point_row point.0 point.1) (map (value_in truth) c.measures)) refl h)
      where
        by_values : (o : Option (List Value)) → values_on (point_row point.0 point.1) (map (value_in truth) c.measures) ≡ o → option_map (λ us. us ++ viral_values c truth own (point.0 ++ point.1)) o ≡ Some vs → AllZip FitsComponent (map measure_of c.measures ++ all_of) vs
        by_values None e i = cc
        by_values (Some us) e i =
            let same : us ++ viral_values c truth own (point.0 ++ point.1) ≡ vs = cc in
            subst (λ (ws : List Value). AllZip FitsComponent (map measure_of c.measures ++ all_of) ws) same
            (AllZip-++ FitsComponent (map measure_of c.measures) all_of us (viral_values c truth own (point.0 ++ point.1)) (measures-worked truth (kinds_on (frame_of (branch_is truth))) (point_row point.0 point.1) row c.measures (of-kind truth) us e) virals-fit)

-- ---- the result

module _ (c : ChoiceOn) (sets : List DataSet) (typed : IsTypedChoice c) (fit : AllZip IsSetOf c.operands sets) where
  abbrev Point : List Value → List Value → Type 0
  Point = IsPointOf c.structure

  made-fits : (truth : Bool) (own key : List Value) → AllZip FitsIdentifier (fitting.identifiers (condition c)) key → AllZip FitsComponent (condition c) own → IfSome (in_range (option_map (chosen_values c truth own) (chosen_point c sets truth key))) (Point key)
  made-fits truth own key fits all = by_point (chosen_point c sets truth key) (chosen-fits c sets typed fit truth key)
    where
      by_values : (point : List Value × List Value) → AllFit (chosen_structure c truth) point → (o : Option (List Value)) → chosen_values c truth own point ≡ o → IfSome o (Point key)
      by_values point h None e = tt
      by_values point h (Some vs) e = record { key_fits = key-fits c typed key fits; rest_fits = values-fit c typed truth own point all h vs e }

      by_point : (o : PointThere) → IfSome o (AllFit (chosen_structure c truth)) → IfSome (in_range (option_map (chosen_values c truth own) o)) (Point key)
      by_point None h = tt
      by_point (Some point) h = by_values point h (chosen_values c truth own point) refl

  pub choice-fits : (y : DataSet) → choice_meaning c sets ≡ Made y → IsSetOf c.structure y
  choice-fits y e =
      fits-by_point (λ key rest. is_beyond (made_of c sets key rest)) (λ key rest. in_range (made_of c sets key rest)) (condition c) c.structure (set_at sets 0) y
      (λ key rest h. made-fits (is_true_in c (key ++ rest)) (key ++ rest) key h.key_fits (all-fit (frame_of (condition c)) key rest (first-at c.operands typed.structures 0) h))
      (set-fits c.operands sets 0 fit) e
