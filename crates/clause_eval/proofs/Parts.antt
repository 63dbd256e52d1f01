-- What a clause makes of a data set is made of what it makes of its points.
use Rattle.std.proofs.Common.{◌≡◌, List, [], ◌∷◌, ◌++◌, map, Bool, true, false, cond, ◌||◌, if◌then◌else◌, Option, Some, None, refl, sym, ap, subst, ◌∙◌, inl, inr}
use Rattle.std.specs.Prelude.{option_and_then, filter, find, flat_map}
use Rattle.std.specs.Option.{IfSome, option_map_or, is_some}
use Rattle.std.specs.List.{AllZip, last_or}
use Rattle.std.specs.Ordering.{eq_by_cmp}
use Rattle.std.specs.FinMap.{get, keys}
use Rattle.std.proofs.lemmas.Bool.{cases_Bool}
use Rattle.vtl_values.specs.declared.structure.Component.{Component}
use Rattle.vtl_values.specs.declared.value.Value.{Value}
use Rattle.vtl_values.specs.declared.value.Value.TheVariants.{Text}
use Rattle.vtl_values.specs.Order.{key_cmp}
use Rattle.vtl_values.proofs.Values.{key_cmp-IsTotalOrder, key_cmp-IsAntisymmetric}
use Rattle.data_model.specs.Maps.{is_listed}
use Rattle.data_model.proofs.MapLemmas.{tied, tied_to_itself, is_listed-keys, get-unlisted}
use Rattle.data_model.proofs.DeltaLemmas.{contradicted}
use Rattle.scalar_trees.proofs.typing.Sound.{left, right}
use Rattle.point_sets.specs.DataSets.{DataSet}
use Rattle.structured_sets.specs.Fitting.{identifiers, FitsIdentifier, IsPointOf, IsSetOf}
use Rattle.data_set_trees.specs.declared.clauses.frame.Frame.{Frame}
use Rattle.data_set_trees.specs.declared.clauses.clause.CheckedClause.{CheckedClause}
use Rattle.data_set_trees.specs.declared.clauses.clause.CheckedClause.TheVariants as clause
use Rattle.data_set_trees.specs.declared.clauses.clause.CheckedSubItem.{CheckedSubItem}
use Rattle.clause_meaning.specs.Ordered.{HasIdentifiersFirst}
use Rattle.clause_meaning.specs.Clauses.{has_values, key_left, comes_to, measures, key_with_name, measure_point, without_last, unpivoted_at, working_of}
use Rattle.clause_meaning.proofs.Lists.{found, last-pushed, before-pushed}
use Rattle.clause_meaning.proofs.SubKeys.{sub-keys}
use Rattle.clause_eval.specs.Points.{keys_from, is_beyond_at, values_from, values_at_key}

-- ---- ranges

pub never-beyond : {A : Type 0} (o : Option A) → option_map_or (λ x. false) o false ≡ false
never-beyond None = refl
never-beyond (Some x) = refl

pub beyond-at : (c : CheckedClause) (frame : Frame) (a : DataSet) (key : List Value) → (working_of c frame a).beyond key ≡ is_beyond_at c key (get a key)
beyond-at (clause.Filter condition) frame a key = refl
beyond-at (clause.Calc items) frame a key = refl
beyond-at (clause.Keep numbers) frame a key = refl
beyond-at (clause.Drop numbers) frame a key = refl
beyond-at (clause.Rename renames) frame a key = refl
beyond-at (clause.Sub items) frame a key = sym (never-beyond (get a key))
beyond-at (clause.Unpivot identifier measure) frame a key = sym (never-beyond (get a key))
beyond-at (clause.Measures items) frame a key = refl

-- ---- keys

singles : {A : Type 0} (xs : List A) → xs ≡ flat_map (λ x. x ∷ []) xs
singles [] = refl
singles (x ∷ xs) = ap (λ ys. x ∷ ys) (singles xs)

chosen : {A B : Type 0} (p : A → Bool) (f : A → B) (xs : List A) → map f (filter p xs) ≡ flat_map (λ x. if p x then f x ∷ [] else []) xs
chosen p f [] = refl
chosen {A = A} {B = B} p f (x ∷ xs) = elim (p x) as (λ b. map f (cond b (x ∷ filter p xs) (filter p xs)) ≡ (if b then f x ∷ [] else []) ++ flat_map (λ y. if p y then f y ∷ [] else []) xs) [
  | true ↦ ap (λ (ys : List B). f x ∷ ys) (chosen p f xs)
  | false ↦ chosen p f xs
]

-- the keys of the result are those at which the points count
pub keys-are : (c : CheckedClause) (frame : Frame) (a : DataSet) → (working_of c frame a).keys ≡ flat_map (keys_from c frame) (keys a)
keys-are (clause.Filter condition) frame a = singles (keys a)
keys-are (clause.Calc items) frame a = singles (keys a)
keys-are (clause.Keep numbers) frame a = singles (keys a)
keys-are (clause.Drop numbers) frame a = singles (keys a)
keys-are (clause.Rename renames) frame a = singles (keys a)
keys-are (clause.Sub items) frame a = chosen (has_values items) (key_left items frame) (keys a)
keys-are (clause.Unpivot identifier measure) frame a = refl
keys-are (clause.Measures items) frame a = singles (keys a)

-- ---- values of points that keep their keys

one_listed : (key to : List Value) → is_listed key_cmp (key ∷ []) to ≡ true → to ≡ key
one_listed key to h = elim (cases_Bool (eq_by_cmp key_cmp to key)) [
  | inl ties ↦ tied key_cmp-IsTotalOrder key_cmp-IsAntisymmetric to key ties
  | inr apart ↦ cc (rw apart at h)
]

in_place : (gives : List Value → List Value → Option (List Value)) (a : DataSet) (key to : List Value) → is_listed key_cmp (key ∷ []) to ≡ true → option_and_then (gives to) (get a to) ≡ option_and_then (gives key) (get a key)
in_place gives a key to h = ap (λ (k : List Value). option_and_then (gives k) (get a k)) (one_listed key to h)

-- ---- of `sub`

pub itself : {A : Type 0} (o : Option A) → option_and_then (λ x. Some x) o ≡ o
itself None = refl
itself (Some x) = refl

-- what is found is listed
found-listed : (p : List Value → Bool) (ks : List (List Value)) (k : List Value) → find p ks ≡ Some k → is_listed key_cmp ks k ≡ true
found-listed p [] k h = cc
found-listed p (j ∷ js) k h = elim (cases_Bool (p j)) [
  | inl passes ↦
      let same : j ≡ k = cc (rw passes at h) in
      let ties : eq_by_cmp key_cmp k j ≡ true = subst (λ q. eq_by_cmp key_cmp q j ≡ true) same (tied_to_itself key_cmp-IsTotalOrder j) in
      rw ties refl
  | inr fails ↦ elim (eq_by_cmp key_cmp k j) as (λ b. (b || is_listed key_cmp js k) ≡ true) [ true ↦ refl | false ↦ found-listed p js k (rw fails at h) ]
]

-- where nothing is found no listed key passes
none-found : (p : List Value → Bool) (ks : List (List Value)) (k : List Value) → find p ks ≡ None → p k ≡ true → is_listed key_cmp ks k ≡ false
none-found p [] k h passes = refl
none-found p (j ∷ js) k h passes = elim (cases_Bool (p j)) [
  | inl one ↦ cc (rw one at h)
  | inr none ↦ elim (cases_Bool (eq_by_cmp key_cmp k j)) [
    | inl ties ↦ contradicted (p k) passes (subst (λ q. p q ≡ false) (sym (tied key_cmp-IsTotalOrder key_cmp-IsAntisymmetric k j ties)) none)
    | inr apart ↦ rw apart (none-found p js k (rw none at h) passes)
  ]
]

module _ (items : List CheckedSubItem) (frame : Frame) (first : HasIdentifiersFirst frame) (a : DataSet) (fit : IsSetOf frame.components a) (key : List Value) (fits : AllZip FitsIdentifier (identifiers frame.components) key) where
  -- the one key that comes to where this one does is this one
  sub-value : (to : List Value) → has_values items key ≡ true → to ≡ key_left items frame key → option_and_then (get a) (find (comes_to items frame to) (keys a)) ≡ get a key
  sub-value to has is = by_key (find (comes_to items frame to) (keys a)) refl
    where
      passes : comes_to items frame to key ≡ true
      passes = rw has (subst (λ q. eq_by_cmp key_cmp to q ≡ true) is (tied_to_itself key_cmp-IsTotalOrder to))

      by_key : (o : Option (List Value)) → find (comes_to items frame to) (keys a) ≡ o → option_and_then (get a) o ≡ get a key
      by_key None none = sym (get-unlisted key_cmp-IsTotalOrder a key (none-found (comes_to items frame to) (keys a) key none passes))
      by_key (Some other) there =
          let comes : comes_to items frame to other ≡ true = found (comes_to items frame to) (keys a) other there in
          let listed : is_some (get a other) ≡ true = sym (is_listed-keys key_cmp-IsTotalOrder a other) ∙ found-listed (comes_to items frame to) (keys a) other there in
          let ties : to ≡ key_left items frame other = tied key_cmp-IsTotalOrder key_cmp-IsAntisymmetric to (key_left items frame other) (right (has_values items other) (eq_by_cmp key_cmp to (key_left items frame other)) comes) in
          let same : other ≡ key = sub-keys items frame other key first (of_point (get a other) listed (fit other)) fits (left (has_values items other) (eq_by_cmp key_cmp to (key_left items frame other)) comes) has (sym ties ∙ is) in
          ap (get a) same
        where
          of_point : (o : Option (List Value)) → is_some o ≡ true → IfSome o (IsPointOf frame.components other) → AllZip FitsIdentifier (identifiers frame.components) other
          of_point None h i = cc
          of_point (Some rest) h i = i.key_fits

  sub-at : (to : List Value) → is_listed key_cmp (if has_values items key then key_left items frame key ∷ [] else []) to ≡ true → option_and_then (get a) (find (comes_to items frame to) (keys a)) ≡ option_and_then (λ (rest : List Value). Some rest) (get a key)
  sub-at to listed = elim (cases_Bool (has_values items key)) [
    | inl has ↦ sub-value to has (one_listed (key_left items frame key) to (rw has at listed)) ∙ sym (itself (get a key))
    | inr has_not ↦ cc (rw has_not at listed)
  ]

-- ---- of `unpivot`

-- a listed key is one with a component's name
name-listed : (key to : List Value) (cs : List Component) → is_listed key_cmp (map (key_with_name key) cs) to ≡ true → (c : Component) × (to ≡ key_with_name key c)
name-listed key to [] h = cc
name-listed key to (c ∷ cs) h = elim (cases_Bool (eq_by_cmp key_cmp to (key_with_name key c))) [
  | inl ties ↦ (c, tied key_cmp-IsTotalOrder key_cmp-IsAntisymmetric to (key_with_name key c) ties)
  | inr apart ↦ name-listed key to cs (rw apart at h)
]

unpivot-at : (frame : Frame) (a : DataSet) (key to : List Value) → is_listed key_cmp (map (key_with_name key) (measures frame.components)) to ≡ true → unpivoted_at frame a to ≡ option_and_then (λ rest. option_and_then (measure_point frame (key ++ rest)) (last_or None to)) (get a key)
unpivot-at frame a key to listed = let named = name-listed key to (measures frame.components) listed in subst (λ (t : List Value). unpivoted_at frame a t ≡ option_and_then (λ rest. option_and_then (measure_point frame (key ++ rest)) (last_or None t)) (get a key)) (sym named.1) (with_name named.0)
  where
    with_name : (c : Component) → unpivoted_at frame a (key_with_name key c) ≡ option_and_then (λ rest. option_and_then (measure_point frame (key ++ rest)) (last_or None (key_with_name key c))) (get a key)
    with_name c =
        let name : Value = Text c.name in
        let last : last_or None (key ++ name ∷ []) ≡ Some name = last-pushed None key name in
        let before : without_last (key ++ name ∷ []) ≡ key = before-pushed key name in
        ap (λ (o : Option Value). option_and_then (λ n. option_and_then (λ rest. measure_point frame (without_last (key ++ name ∷ []) ++ rest) n) (get a (without_last (key ++ name ∷ [])))) o) last
        ∙ ap (λ (k : List Value). option_and_then (λ rest. measure_point frame (k ++ rest) name) (get a k)) before
        ∙ sym (ap (λ (o : Option Value). option_and_then (λ rest. option_and_then (measure_point frame (key ++ rest)) o) (get a key)) last)

-- ---- all clauses

abbrev own : CheckedClause → Frame → List Value → List Value → Option (List Value)
own c frame key rest = values_from c frame key rest key

-- at a key at which a point counts the result has what comes of that point
pub value-at : (c : CheckedClause) (frame : Frame) (a : DataSet) (key to : List Value) → HasIdentifiersFirst frame → IsSetOf frame.components a → AllZip FitsIdentifier (identifiers frame.components) key → is_listed key_cmp (keys_from c frame key) to ≡ true → (working_of c frame a).value to ≡ values_at_key c frame key (get a key) to
value-at (clause.Filter condition) frame a key to first fit fits listed = in_place (own (clause.Filter condition) frame) a key to listed
value-at (clause.Calc items) frame a key to first fit fits listed = in_place (own (clause.Calc items) frame) a key to listed
value-at (clause.Keep numbers) frame a key to first fit fits listed = in_place (own (clause.Keep numbers) frame) a key to listed
value-at (clause.Drop numbers) frame a key to first fit fits listed = in_place (own (clause.Drop numbers) frame) a key to listed
value-at (clause.Rename renames) frame a key to first fit fits listed = in_place (own (clause.Rename renames) frame) a key to listed
value-at (clause.Sub items) frame a key to first fit fits listed = sub-at items frame first a fit key fits to listed
value-at (clause.Unpivot identifier measure) frame a key to first fit fits listed = unpivot-at frame a key to listed
value-at (clause.Measures items) frame a key to first fit fits listed = in_place (own (clause.Measures items) frame) a key to listed
