-- What aggregates give is of the components that they leave.
use Rattle.std.proofs.Common.{◌≡◌, ◌≤◌, ℕ, zero, suc, T, Bool, true, false, cond, not, ◌&&◌, ◌||◌, if◌then◌else◌, List, [], ◌∷◌, ◌++◌, map, length, Option, Some, None, option_map, option_and_then, refl, sym, ap, subst, ◌∙◌, arith, inl, inr}
use Rattle.std.specs.Prelude.{filter, filter_map, slice_get}
use Rattle.std.specs.Bool.{then_some}
use Rattle.std.specs.Option.{IfSome, option_map_or, option_zip}
use Rattle.std.specs.List.{All, AllByRecursion, AllZip, cons_option, list_all}
use Rattle.std.specs.FinMap.{entries, entries_sorted, find, get-entries, is_sorted, len-entries}
use Rattle.std.specs.Ordering.{eq_by_cmp}
use Rattle.std.proofs.lemmas.List.{append-nil, length-map}
use Rattle.std.proofs.lemmas.List.Elements.{All-nil, All-cons, All-contains, All-from_recursion, All-weaker, filter-append, filter_map-append}
use Rattle.std.proofs.lemmas.List.Sums.{length-filter, count_by-le-length}
use Rattle.vtl_values.specs.declared.kind.Role.{Role}
use Rattle.vtl_values.specs.declared.kind.Role.TheVariants.{Identifier, Measure, Attribute, Viral}
use Rattle.vtl_values.specs.declared.structure.Codes.{Codes}
use Rattle.vtl_values.specs.declared.structure.Codes.TheVariants.{Any, Listed}
use Rattle.vtl_values.specs.declared.structure.Component.{Component}
use Rattle.vtl_values.specs.declared.value.Value.{Value}
use Rattle.vtl_values.specs.declared.value.Value.TheVariants.{Null}
use Rattle.vtl_values.specs.Order.{key_cmp}
use Rattle.vtl_values.specs.Structures.{IsStructure}
use Rattle.vtl_values.specs.Texts.{Fits}
use Rattle.vtl_values.proofs.Values.{key_cmp-IsTotalOrder, key_cmp-IsAntisymmetric}
use Rattle.viral_attributes.specs.Combination.{combined}
use Rattle.viral_attributes.proofs.Highest.{combined-IsTheHighest}
use Rattle.data_model.specs.Outcomes.{Made, Outcome, IsOutcome}
use Rattle.data_model.specs.declared.TheConstants.{POINT_LIMIT}
use Rattle.data_model.proofs.DeltaLemmas.{contradicted}
use Rattle.data_model.proofs.EntryLemmas.{find-later, is_sorted-rest}
use Rattle.data_model.proofs.MapLemmas.{tied, tied_to_itself}
use Rattle.point_sets.specs.DataSets.{DataSet}
use Rattle.structured_sets.specs.Fitting.{is_identifier, identifiers, others, is_in_codes, FitsComponent, FitsIdentifier, IsPointOf, IsBoundedSetOf}
use Rattle.scalar_trees.specs.WellTyped.{Kinds, is_of_kind}
use Rattle.scalar_trees.proofs.typing.Sound.{left, right}
use Rattle.scalar_meaning.specs.Kept.{IsRowOf}
use Rattle.scalar_meaning.specs.Rows.{Row}
use Rattle.scalar_meaning.specs.Scalars.{meaning}
use Rattle.scalar_meaning.proofs.Kept.{kinds-kept}
use Rattle.data_set_trees.specs.clauses.Frames.{frame_of, has_role, is_role, numbers_of}
use Rattle.data_set_trees.specs.clauses.Clauses.{passes_at}
use Rattle.data_set_trees.specs.clauses.WellTyped.{may_be_made}
use Rattle.clause_meaning.proofs.Picked.{AllZip-picked, AllZip-++, picked-filter}
use Rattle.clause_meaning.proofs.Fits.{all-fit, same_test}
use Rattle.clause_meaning.proofs.ByRole.{filter-pass, filter-none, of, of-own, of-other, other-role, by_role-fits}
use Rattle.clause_meaning.proofs.First.{identifiers-first}
use Rattle.data_set_trees.specs.declared.aggregates.aggregate.AggregateItem.{AggregateItem}
use Rattle.data_set_trees.specs.declared.aggregates.aggregate.CheckedAggregate.{CheckedAggregate}
use Rattle.data_set_trees.specs.aggregates.Groups.{kinds_on_groups}
use Rattle.data_set_trees.specs.aggregates.Results.{grouped, made_by, unordered, with_numbers}
use Rattle.data_set_trees.specs.aggregates.WellTyped.{is_condition, is_item, is_well_typed}
use Rattle.operator_meaning.specs.aggregates.Aggregates.{aggregate_meaning, aggregate_working, codes_of, combined_at, item_values, of_role, point_of, stays, values_of_group, viral_values}
use Rattle.operator_meaning.specs.aggregates.Groups.{column, group_at, group_of, group_row, if_any, is_in}
use Rattle.operator_meaning.proofs.aggregates.Covered.{meant}
use Rattle.operator_meaning.proofs.aggregates.Reduced.{null-fits}
use Rattle.operator_meaning.proofs.aggregates.Rows.{AllPoints, column-fits, are_there, group-is_row}

-- ---- lists

at-has : {A : Type 0} (P : A → Type 0) (xs : List A) (n : ℕ) (x : A) → AllByRecursion P xs → slice_get xs n ≡ Some x → P x
at-has P [] n x h there = cc
at-has P (y ∷ ys) zero x h there = let same : y ≡ x = cc in subst P same h.0
at-has P (y ∷ ys) (suc n) x h there = at-has P ys n x h.1 there

filter-has : {A : Type 0} (P : A → Type 0) (p : A → Bool) (xs : List A) → AllByRecursion P xs → AllByRecursion (λ x. P x × (p x ≡ true)) (filter p xs)
filter-has P p [] h = tt
filter-has {A = A} P p (x ∷ xs) h = by_test (p x) refl (filter-has P p xs h.1)
  where
    by_test : (b : Bool) → p x ≡ b → AllByRecursion (λ y. P y × (p y ≡ true)) (filter p xs) → AllByRecursion (λ y. P y × (p y ≡ true)) (cond b (x ∷ filter p xs) (filter p xs))
    by_test true e later = ((h.0, e), later)
    by_test false e later = later

abbrev Points : Type 0
Points = List (List Value × List Value)

-- what holds of the point at each key holds of each entry
entries-have : (P : List Value → List Value → Type 0) (es : Points) → T (is_sorted key_cmp es) → ((q : List Value) → IfSome (find key_cmp q es) (P q)) → AllByRecursion (λ (e : List Value × List Value). P e.0 e.1) es
entries-have P [] s h = tt
entries-have P (e ∷ es) s h = (own, entries-have P es (is_sorted-rest key_cmp e es s) (λ q. later q (eq_by_cmp key_cmp q e.0) refl))
  where
    own : P e.0 e.1
    own = subst (λ b. IfSome (cond b (Some e.1) (find key_cmp e.0 es)) (P e.0)) (tied_to_itself key_cmp-IsTotalOrder e.0) (h e.0)

    later : (q : List Value) (b : Bool) → eq_by_cmp key_cmp q e.0 ≡ b → IfSome (find key_cmp q es) (P q)
    later q true t = subst (λ (o : Option (List Value)). IfSome o (P q)) (sym (find-later key_cmp-IsTotalOrder q e es s t)) tt
    later q false t = subst (λ b. IfSome (cond b (Some e.1) (find key_cmp q es)) (P q)) t (h q)

-- ---- the key of a group

-- among components whose identifiers stand first an identifier has the same number as among those
same-place : (is os : List Component) (n : ℕ) (c : Component) → AllByRecursion (λ d. is_identifier d ≡ false) os → slice_get (is ++ os) n ≡ Some c → is_identifier c ≡ true → slice_get is n ≡ Some c
same-place [] os n c none there passes = contradicted (is_identifier c) passes (at-has (λ d. is_identifier d ≡ false) os n c none there)
same-place (i ∷ is) os zero c none there passes = there
same-place (i ∷ is) os (suc n) c none there passes = same-place is os n c none there passes

false_of : (b : Bool) → not b ≡ true → b ≡ false
false_of true h = cc
false_of false h = refl

no-identifiers : (cs : List Component) → AllByRecursion (λ d. is_identifier d ≡ false) (others cs)
no-identifiers [] = tt
no-identifiers (c ∷ cs) = by_test (is_identifier c) refl (no-identifiers cs)
  where
    by_test : (b : Bool) → is_identifier c ≡ b → AllByRecursion (λ d. is_identifier d ≡ false) (others cs) → AllByRecursion (λ d. is_identifier d ≡ false) (cond (not b) (c ∷ others cs) (others cs))
    by_test true e later = later
    by_test false e later = (e, later)

module _ (cs : List Component) where
  numbered : (ns : List ℕ) → are_there cs ns ≡ true → All (λ c. has_role Identifier c ≡ true) (with_numbers cs ns)
  numbered [] are = All-nil (λ c. has_role Identifier c ≡ true)
  numbered (n ∷ ns) are = by_component (slice_get cs n) (left (passes_at (has_role Identifier) (frame_of cs) n) (are_there cs ns) are) (numbered ns (right (passes_at (has_role Identifier) (frame_of cs) n) (are_there cs ns) are))
    where
      by_component : (o : Option Component) → option_map_or (has_role Identifier) o false ≡ true → All (λ c. has_role Identifier c ≡ true) (with_numbers cs ns) → All (λ c. has_role Identifier c ≡ true) (cons_option o (with_numbers cs ns))
      by_component None passes later = later
      by_component (Some c) passes later = All-cons (λ d. has_role Identifier d ≡ true) c (with_numbers cs ns) passes later

  module _ (first : cs ≡ identifiers cs ++ others cs) where
    same-numbers : (ns : List ℕ) → are_there cs ns ≡ true → with_numbers cs ns ≡ with_numbers (identifiers cs) ns
    same-numbers [] are = refl
    same-numbers (n ∷ ns) are =
        by_component (slice_get cs n) refl (left (passes_at (has_role Identifier) (frame_of cs) n) (are_there cs ns) are) (same-numbers ns (right (passes_at (has_role Identifier) (frame_of cs) n) (are_there cs ns) are))
      where
        by_component : (o : Option Component) → slice_get cs n ≡ o → option_map_or (has_role Identifier) o false ≡ true → with_numbers cs ns ≡ with_numbers (identifiers cs) ns → cons_option o (with_numbers cs ns) ≡ cons_option (slice_get (identifiers cs) n) (with_numbers (identifiers cs) ns)
        by_component None at passes later = cc
        by_component (Some c) at passes later =
            let is : is_identifier c ≡ true = same_test c c.role ∙ passes in
            let there : slice_get (identifiers cs) n ≡ Some c = same-place (identifiers cs) (others cs) n c (no-identifiers cs) (ap (λ (ds : List Component). slice_get ds n) (sym first) ∙ at) is in
            rw there (ap (λ (ds : List Component). c ∷ ds) later)

    key-fits : (ns : List ℕ) → are_there cs ns ≡ true → (key : List Value) → AllZip FitsIdentifier (identifiers cs) key → AllZip FitsIdentifier (with_numbers cs ns) (group_of ns key)
    key-fits ns are key h = subst (λ (ds : List Component). AllZip FitsIdentifier ds (group_of ns key)) (sym (same-numbers ns are)) (AllZip-picked FitsIdentifier ns (identifiers cs) key h)

-- ---- groups

-- a key and points of a group of a data set of these components
pub record IsGroupOf (cs : List Component) (grouping : List ℕ) (group : List Value) (points : List (List Value)) : Type 0 where
  pub own : AllZip FitsIdentifier (with_numbers cs grouping) group
  pub fit : AllPoints cs points
  pub few : length points ≤ POINT_LIMIT

module _ (cs : List Component) (grouping : List ℕ) (first : cs ≡ identifiers cs ++ others cs) (are : are_there cs grouping ≡ true) (group : List Value) where
  abbrev InGroup : Points → Type 0
  InGroup ps = AllByRecursion (λ (p : List Value × List Value). IsPointOf cs p.0 p.1 × (is_in grouping group p ≡ true)) ps

  points-fit : (ps : Points) → InGroup ps → AllPoints cs (map (λ (p : List Value × List Value). p.0 ++ p.1) ps)
  points-fit [] h = tt
  points-fit (p ∷ ps) h = (all-fit (frame_of cs) p.0 p.1 first h.0.0, points-fit ps h.1)

  if-group : (ps : Points) → InGroup ps → length ps ≤ POINT_LIMIT → IfSome (if_any (map (λ (p : List Value × List Value). p.0 ++ p.1) ps)) (IsGroupOf cs grouping group)
  if-group [] h few = tt
  if-group (p ∷ ps) h few = record {
    own = subst (λ (g : List Value). AllZip FitsIdentifier (with_numbers cs grouping) g) (sym (tied key_cmp-IsTotalOrder key_cmp-IsAntisymmetric group (group_of grouping p.0) h.0.1)) (key-fits cs first grouping are p.0 h.0.0.key_fits);
    fit = points-fit (p ∷ ps) h;
    few = let long = length-map (p ∷ ps) (λ (q : List Value × List Value). q.0 ++ q.1) in omega (arith, few, long);
  }

  pub group-there : (x : DataSet) → IsBoundedSetOf cs x → IfSome (group_at grouping x group) (IsGroupOf cs grouping group)
  group-there x is =
      let all = entries-have (IsPointOf cs) (entries x) (entries_sorted x) (λ q. subst (λ (o : Option (List Value)). IfSome o (IsPointOf cs q)) (get-entries x q) (is.fits q)) in
      let same = length-filter (is_in grouping group) (entries x) in
      let less = count_by-le-length (is_in grouping group) (entries x) in
      let long = len-entries x in
      if-group (filter (is_in grouping group) (entries x)) (filter-has (λ (p : List Value × List Value). IsPointOf cs p.0 p.1) (is_in grouping group) (entries x) all) (omega (arith, is.few, same, less, long))

-- ---- the items

module _ (kinds : Kinds) (row : Row) (is : IsRowOf kinds row) where
  worked-fit : (items : List AggregateItem) → list_all (is_item kinds) items ≡ true → (vs : List Value) → item_values row items ≡ Some vs → AllZip (λ i v. Fits i.kind v) items vs
  worked-fit [] typed [] h = tt
  worked-fit [] typed (v ∷ vs) h = cc
  worked-fit (i ∷ items) typed vs h =
      let own = right (may_be_made i.role) (is_of_kind kinds i.value i.kind) (left (is_item kinds i) (list_all (is_item kinds) items) typed) in
      by_values (meaning row i.value) (kinds-kept i.value kinds row i.kind own is) (item_values row items) (worked-fit items (right (is_item kinds i) (list_all (is_item kinds) items) typed)) h
    where
      by_values : (o : Option Value) → IfSome o (Fits i.kind) → (p : Option (List Value)) → ((us : List Value) → p ≡ Some us → AllZip (λ j v. Fits j.kind v) items us) → option_map (λ q. q.0 ∷ q.1) (option_zip o p) ≡ Some vs → AllZip (λ j v. Fits j.kind v) (i ∷ items) vs
      by_values None fit p later e = cc
      by_values (Some v) fit None later e = cc
      by_values (Some v) fit (Some us) later e = let same : v ∷ us ≡ vs = cc in subst (λ (ws : List Value). AllZip (λ j w. Fits j.kind w) (i ∷ items) ws) same (fit, later us refl)

role-fit : (r : Role) (items : List AggregateItem) (vs : List Value) → AllZip (λ i v. Fits i.kind v) items vs → AllZip FitsComponent (of r (map made_by items)) (of_role r items vs)
role-fit r [] [] h = tt
role-fit r [] (v ∷ vs) h = absurd h
role-fit r (i ∷ items) [] h = absurd h
role-fit r (i ∷ items) (v ∷ vs) h = by_test (is_role r i.role) (role-fit r items vs h.1)
  where
    by_test : (b : Bool) → AllZip FitsComponent (of r (map made_by items)) (of_role r items vs) → AllZip FitsComponent (cond b (made_by i ∷ of r (map made_by items)) (of r (map made_by items))) (cons_option (then_some b v) (of_role r items vs))
    by_test true later = (record { kind = h.0; codes = refl }, later)
    by_test false later = later

no-identifier : (a b : Bool) → not (a || b) ≡ true → a ≡ false
no-identifier true b h = cc
no-identifier false b h = refl

no-viral : (a b : Bool) → not (a || b) ≡ true → b ≡ false
no-viral true b h = cc
no-viral false b h = false_of b h

-- none of the items has a role that may not be made
none-made : (r : Role) → ((q : Role) → may_be_made q ≡ true → is_role r q ≡ false) → (kinds : Kinds) (items : List AggregateItem) → list_all (is_item kinds) items ≡ true → of r (map made_by items) ≡ []
none-made r apart kinds [] typed = refl
none-made r apart kinds (i ∷ items) typed =
    let other : is_role r i.role ≡ false = apart i.role (left (may_be_made i.role) (is_of_kind kinds i.value i.kind) (left (is_item kinds i) (list_all (is_item kinds) items) typed)) in
    rw other (none-made r apart kinds items (right (is_item kinds i) (list_all (is_item kinds) items) typed))

-- ---- viral attributes

null-component : (c : Component) → FitsComponent c Null
null-component c = record { kind = null-fits c.kind; codes = by_codes c.codes }
  where
    by_codes : (codes : Codes) → is_in_codes codes Null ≡ true
    by_codes Any = refl
    by_codes (Listed codes) = refl

combined-fits : (c : Component) (codes : List (List ℕ)) (vs : List Value) → AllByRecursion (FitsComponent c) vs → FitsComponent c (combined codes vs)
combined-fits c codes vs h = elim (combined-IsTheHighest codes vs).among [
  | inl null ↦ subst (FitsComponent c) (sym null) (null-component c)
  | inr among ↦ All-contains (FitsComponent c) vs (combined codes vs) (All-from_recursion (FitsComponent c) vs h) among
]

module _ (cs : List Component) (points : List (List Value)) (fit : AllPoints cs points) where
  combined-all : (ns : List ℕ) → AllZip FitsComponent (with_numbers cs ns) (filter_map (combined_at cs points) ns)
  combined-all [] = tt
  combined-all (n ∷ ns) = by_component (slice_get cs n) refl (combined-all ns)
    where
      by_component : (o : Option Component) → slice_get cs n ≡ o → AllZip FitsComponent (with_numbers cs ns) (filter_map (combined_at cs points) ns) → AllZip FitsComponent (cons_option o (with_numbers cs ns)) (cons_option (option_map (λ c. combined (codes_of c.codes) (column n points)) o) (filter_map (combined_at cs points) ns))
      by_component None there later = later
      by_component (Some c) there later = (combined-fits c (codes_of c.codes) (column n points) (column-fits cs n c points there fit), later)

  virals-are : with_numbers cs (numbers_of Viral cs) ≡ of Viral cs
  virals-are = picked-filter cs (has_role Viral) 0 cs refl

  virals-fit : AllZip FitsComponent (of Viral cs) (viral_values cs points)
  virals-fit = subst (λ (ds : List Component). AllZip FitsComponent ds (viral_values cs points)) virals-are (combined-all (numbers_of Viral cs))

-- ---- the point of a group

module _ (a : CheckedAggregate) (cs : List Component) (are : are_there cs a.grouping ≡ true) (typed : list_all (is_item (kinds_on_groups a.grouping cs)) a.items ≡ true) where
  abbrev own_key : List Component
  own_key = with_numbers cs a.grouping

  abbrev new : List Component
  new = map made_by a.items

  unordered-is : unordered a cs ≡ (own_key ++ of Viral cs) ++ new
  unordered-is = ap (λ (q : List Component). q ++ new) (filter_map-append (slice_get cs) a.grouping (numbers_of Viral cs) ∙ ap (λ (q : List Component). own_key ++ q) (picked-filter cs (has_role Viral) 0 cs refl))

  parts : (r : Role) → of r (unordered a cs) ≡ (of r own_key ++ of r (of Viral cs)) ++ of r new
  parts r = ap (of r) unordered-is ∙ filter-append (has_role r) (own_key ++ of Viral cs) new ∙ ap (λ (q : List Component). q ++ of r new) (filter-append (has_role r) own_key (of Viral cs))

  -- the key has none of another role
  key-other : (r : Role) → is_role r Identifier ≡ false → of r own_key ≡ []
  key-other r apart = filter-none (has_role r) own_key (All-weaker (λ c. has_role Identifier c ≡ true) (λ c. has_role r c ≡ false) (other-role r Identifier apart) own_key (numbered cs a.grouping are))

  identifiers-are : of Identifier (unordered a cs) ≡ own_key
  identifiers-are =
      parts Identifier
      ∙ (λ q. (filter-pass (has_role Identifier) own_key (numbered cs a.grouping are) q ++ of-other Identifier Viral refl cs q) ++ none-made Identifier (λ r h. no-identifier (is_role Identifier r) (is_role Viral r) h) (kinds_on_groups a.grouping cs) a.items typed q)
      ∙ append-nil (own_key ++ []) ∙ append-nil own_key

  made-are : (r : Role) → is_role r Identifier ≡ false → is_role r Viral ≡ false → of r (unordered a cs) ≡ of r new
  made-are r apart plain = parts r ∙ (λ q. (key-other r apart q ++ of-other r Viral plain cs q) ++ of r new)

  virals-left : of Viral (unordered a cs) ≡ of Viral cs
  virals-left =
      parts Viral
      ∙ (λ q. (key-other Viral refl q ++ of-own Viral cs q) ++ none-made Viral (λ r h. no-viral (is_role Identifier r) (is_role Viral r) h) (kinds_on_groups a.grouping cs) a.items typed q)
      ∙ append-nil (of Viral cs)

  point-fits : (group : List Value) (points : List (List Value)) (vs : List Value) → IsGroupOf cs a.grouping group points → item_values (group_row a.grouping group points) a.items ≡ Some vs → IsPointOf (grouped a cs) group (values_of_group a cs points vs)
  point-fits group points vs is e =
      let u = unordered a cs in
      let row = group-is_row cs a.grouping group points are is.own is.fit is.few in
      let worked = worked-fit (kinds_on_groups a.grouping cs) (group_row a.grouping group points) row a.items typed vs e in
      let same : (of Measure u ++ of Attribute u) ++ of Viral u ≡ (of Measure new ++ of Attribute new) ++ of Viral cs = λ q. (made-are Measure refl refl q ++ made-are Attribute refl refl q) ++ virals-left q in
      by_role-fits (frame_of u) group (values_of_group a cs points vs)
      (subst (λ (ds : List Component). AllZip FitsIdentifier ds group) (sym identifiers-are) is.own)
      (subst (λ (ds : List Component). AllZip FitsComponent ds (values_of_group a cs points vs)) (sym same)
      (AllZip-++ FitsComponent (of Measure new ++ of Attribute new) (of Viral cs) (of_role Measure a.items vs ++ of_role Attribute a.items vs) (viral_values cs points)
      (AllZip-++ FitsComponent (of Measure new) (of Attribute new) (of_role Measure a.items vs) (of_role Attribute a.items vs) (role-fit Measure a.items vs worked) (role-fit Attribute a.items vs worked))
      (virals-fit cs points is.fit)))

  if-point : (group : List Value) (points : List (List Value)) → IsGroupOf cs a.grouping group points → IfSome (point_of a cs group points) (IsPointOf (grouped a cs) group)
  if-point group points is = by_stay (stays (group_row a.grouping group points) a.having) (item_values (group_row a.grouping group points) a.items) refl
    where
      by_stay : (b : Bool) (o : Option (List Value)) → item_values (group_row a.grouping group points) a.items ≡ o → IfSome (if b then option_map (values_of_group a cs points) o else None) (IsPointOf (grouped a cs) group)
      by_stay false o e = tt
      by_stay true None e = tt
      by_stay true (Some vs) e = point-fits group points vs is e

-- ---- the result

pub aggregate-fits : (a : CheckedAggregate) (cs : List Component) (x y : DataSet) → IsStructure cs → is_well_typed cs a ≡ true → IsBoundedSetOf cs x → aggregate_meaning a cs x ≡ Made y → IsBoundedSetOf (grouped a cs) y
aggregate-fits a cs x y structure typed is e =
    let kinds = kinds_on_groups a.grouping cs in
    let items : Bool = list_all (is_item kinds) a.items in
    let rest : Bool = items && is_condition kinds a.having in
    let are : are_there cs a.grouping ≡ true = left (are_there cs a.grouping) rest typed in
    let of_kind : items ≡ true = left items (is_condition kinds a.having) (right (are_there cs a.grouping) rest typed) in
    let out = subst (λ (o : Outcome key_cmp (List Value)). IsOutcome {R = key_cmp} (aggregate_working a cs x).beyond (aggregate_working a cs x).value o) e (meant a cs x) in
    record {
      fits = λ key. subst (λ (o : Option (List Value)). IfSome o (IsPointOf (grouped a cs) key)) (sym (out.0.values key))
          (by_group key (if-point a cs are of_kind key) (group_at a.grouping x key) (group-there cs a.grouping (identifiers-first cs structure) are key x is));
      few = out.1;
    }
  where
    by_group : (key : List Value) → ((points : List (List Value)) → IsGroupOf cs a.grouping key points → IfSome (point_of a cs key points) (IsPointOf (grouped a cs) key)) → (o : Option (List (List Value))) → IfSome o (IsGroupOf cs a.grouping key) → IfSome (option_and_then (point_of a cs key) o) (IsPointOf (grouped a cs) key)
    by_group key each None h = tt
    by_group key each (Some points) h = each points h
