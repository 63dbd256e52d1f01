-- What a well typed set operator gives is of the result's structure.
use Rattle.std.proofs.Common.{◌≡◌, List, [], ◌∷◌, map, zip, Bool, true, false, not, ◌||◌, cond, if◌then◌else◌, Option, Some, None, IfSome, option_map, refl, sym, ap, subst, ◌∙◌}
use Rattle.std.specs.Prelude.{filter_map}
use Rattle.std.specs.Option.{option_or, is_some}
use Rattle.std.specs.List.{All, AllZip, cons_option, list_all, list_any}
use Rattle.std.specs.FinMap.{get}
use Rattle.std.proofs.lemmas.List.Elements.{All-head, All-tail}
use Rattle.vtl_values.specs.Texts.{Fits, same_text}
use Rattle.vtl_values.specs.declared.kind.Kind.{Kind}
use Rattle.vtl_values.specs.declared.kind.Role.TheVariants.{Viral}
use Rattle.vtl_values.specs.declared.structure.Codes.{Codes}
use Rattle.vtl_values.specs.declared.structure.Codes.TheVariants.{Any}
use Rattle.vtl_values.specs.declared.structure.Component.{Component}
use Rattle.vtl_values.specs.declared.value.Value.{Value}
use Rattle.vtl_values.specs.Structures.{IsStructure}
use Rattle.vtl_values.proofs.Values.{key_cmp-IsTotalOrder, key_cmp-IsAntisymmetric}
use Rattle.data_model.specs.Maps.{leftmost}
use Rattle.data_model.specs.Outcomes.{Made}
use Rattle.data_model.proofs.DeltaLemmas.{contradicted}
use Rattle.data_model.proofs.MapLemmas.{tied}
use Rattle.point_sets.specs.DataSets.{DataSet}
use Rattle.structured_sets.specs.Fitting as fitting
use Rattle.structured_sets.specs.Fitting.{FitsComponent, FitsIdentifier, IsPointOf, IsSetOf, IsBoundedSetOf, is_identifier, is_in_codes, others}
use Rattle.scalar_trees.proofs.typing.Sound.{is_kind-same, left, right}
use Rattle.data_set_trees.specs.clauses.Frames.{has_role}
use Rattle.clause_meaning.proofs.ByRole.{of-identifiers}
use Rattle.data_set_trees.specs.Components.{identifiers, unlisted, has_name, is_alike, are_alike}
use Rattle.data_set_trees.specs.declared.tree.SetOperation.{SetOperation}
use Rattle.operator_meaning.specs.pairs.Pairs.{key_between, value_where}
use Rattle.operator_meaning.proofs.pairs.Names.{same-true, named, picked, is_in, Apart}
use Rattle.operator_meaning.proofs.pairs.Keys.{names, names-apart, names-unlisted, value-named, key-picked}
use Rattle.operator_meaning.specs.sets.Sets.{SetOn, rest_between, read_at, is_key_between, point_at, points_at, stays, chosen, set_meaning}
use Rattle.operator_meaning.specs.sets.Typed.{IsTypedSet}
use Rattle.operator_meaning.proofs.pairs.Virals.{same-codes}
use Rattle.operator_meaning.proofs.sets.Alike.{Found, alike-named, alike-kind, alike-codes, found-named, passing-same, ids, rest, ids-found, rest-found, unlisted-identifier, unlisted-other}
use Rattle.operator_meaning.proofs.sets.Covered.{set-result, few}
use Rattle.operator_meaning.proofs.sets.Read.{IsSetLike, like-first}

-- ---- values of components that are alike

alike-fits : (c d : Component) (v : Value) → is_alike c d ≡ true → FitsComponent d v → FitsComponent (unlisted c) v
alike-fits c d v alike fit = by_role (has_role Viral c) refl
  where
    own : Fits c.kind v
    own = subst (λ (k : Kind). Fits k v) (sym (is_kind-same c.kind d.kind (alike-kind c d alike))) fit.kind

    by_role : (b : Bool) → has_role Viral c ≡ b → FitsComponent (if b then c else record c { codes = Any }) v
    by_role true e = record { kind = own; codes = subst (λ (codes : Codes). is_in_codes codes v ≡ true) (sym (same-codes c.codes d.codes (alike-codes c d alike e))) fit.codes }
    by_role false e = record { kind = own; codes = refl }

alike-identifies : (c d : Component) (v : Value) → is_alike c d ≡ true → FitsIdentifier d v → FitsIdentifier (unlisted c) v
alike-identifies c d v alike fit = record { fits = alike-fits c d v alike fit.fits; some = fit.some }

module _ (F : Component → Value → Type 0) (moves : (c d : Component) (v : Value) → is_alike c d ≡ true → F d v → F (unlisted c) v) where
  -- the value of a component that is alike one of those
  value-of : (c : Component) (ds : List Component) (vs : List Value) → Apart (names ds) → AllZip F ds vs → list_any (is_alike c) ds ≡ true → (v : Value) × (named (names ds) vs c.name ≡ Some v) × F (unlisted c) v
  value-of c [] vs apart fit there = cc
  value-of c (d ∷ ds) [] apart fit there = absurd fit
  value-of c (d ∷ ds) (v ∷ vs) apart fit there = by_name (value-of c ds vs apart.1 fit.1) (same_text c.name d.name) refl (is_alike c d) refl there
    where
      by_name : (list_any (is_alike c) ds ≡ true → (u : Value) × (named (names ds) vs c.name ≡ Some u) × F (unlisted c) u) → (b : Bool) → same_text c.name d.name ≡ b → (e : Bool) → is_alike c d ≡ e → (e || list_any (is_alike c) ds) ≡ true → (u : Value) × (cond b (Some v) (named (names ds) vs c.name) ≡ Some u) × F (unlisted c) u
      by_name later true same true alike i = (v, refl, moves c d v alike fit.0)
      by_name later true same false alike i = contradicted (is_in (names ds) d.name) (subst (λ n. is_in (names ds) n ≡ true) (same-true c.name d.name same) (found-named c ds i)) apart.0
      by_name later false same true alike i = contradicted (same_text c.name d.name) (alike-named c d alike) same
      by_name later false same false alike i = later i

  values-of : (ds : List Component) (vs : List Value) → Apart (names ds) → AllZip F ds vs → (cs : List Component) → Found cs ds → AllZip F (map unlisted cs) (picked (names ds) (names cs) vs)
  values-of ds vs apart fit [] there = tt
  values-of ds vs apart fit (c ∷ cs) there =
      let own = list_any (is_alike c) ds in
      let all = list_all (λ b. list_any (is_alike b) ds) cs in
      let found = value-of c ds vs apart fit (left own all there) in
      subst (λ (o : Option Value). AllZip F (unlisted c ∷ map unlisted cs) (cons_option o (picked (names ds) (names cs) vs))) (sym found.1)
      (found.2, values-of ds vs apart fit cs (right own all there))

all-picked : (fs ts : List Component) (vs : List Value) → filter_map (λ c. value_where (has_name c.name) fs vs) ts ≡ picked (names fs) (names ts) vs
all-picked fs [] vs = refl
all-picked fs (c ∷ cs) vs = λ i. cons_option (value-named c.name fs vs i) (all-picked fs cs vs i)

-- ---- points

module _ (first from to : List Component) (bare : to ≡ map unlisted first) (first_is : IsStructure first) (from_is : IsStructure from) (alike : are_alike first from ≡ true) where
  key-fits : (key : List Value) → AllZip FitsIdentifier (fitting.identifiers from) key → AllZip FitsIdentifier (fitting.identifiers to) (key_between from to key)
  key-fits key fit =
      let made : AllZip FitsIdentifier (map unlisted (ids first)) (picked (names (ids from)) (names (ids first)) key) = values-of FitsIdentifier alike-identifies (ids from) key (names-apart is_identifier from from_is.names_differ) fit (ids first) (ids-found first from alike first_is from_is) in
      let is : fitting.identifiers to ≡ map unlisted (ids first) = ap ids bare ∙ passing-same is_identifier unlisted-identifier first in
      let its_names : names (identifiers to) ≡ names (ids first) = ap names (of-identifiers to ∙ is) ∙ names-unlisted (ids first) in
      let same : key_between from to key ≡ picked (names (ids from)) (names (ids first)) key = key-picked from to key ∙ (λ i. picked (names (of-identifiers from i)) (its_names i) key) in
      subst (λ (cs : List Component). AllZip FitsIdentifier cs (key_between from to key)) (sym is) (subst (λ (k : List Value). AllZip FitsIdentifier (map unlisted (ids first)) k) (sym same) made)

  rest-fits : (values : List Value) → AllZip FitsComponent (others from) values → AllZip FitsComponent (others to) (rest_between from to values)
  rest-fits values fit =
      let other : Component → Bool = λ c. not (is_identifier c) in
      let made : AllZip FitsComponent (map unlisted (rest first)) (picked (names (rest from)) (names (rest first)) values) = values-of FitsComponent alike-fits (rest from) values (names-apart other from from_is.names_differ) fit (rest first) (rest-found first from alike first_is from_is) in
      let is : others to ≡ map unlisted (rest first) = ap rest bare ∙ passing-same other unlisted-other first in
      let its_names : names (others to) ≡ names (rest first) = ap names is ∙ names-unlisted (rest first) in
      let same : rest_between from to values ≡ picked (names (rest from)) (names (rest first)) values = all-picked (others from) (others to) values ∙ ap (λ ns. picked (names (rest from)) ns values) its_names in
      subst (λ (cs : List Component). AllZip FitsComponent cs (rest_between from to values)) (sym is) (subst (λ (vs : List Value). AllZip FitsComponent (map unlisted (rest first)) vs) (sym same) made)

  point-fits : (a : DataSet) → IsSetOf from a → (key : List Value) → IfSome (point_at from to a key) (IsPointOf to key)
  point-fits a fit key = by_test (is_key_between from to key) refl
    where
      own : List Value
      own = key_between to from key

      by_point : key ≡ key_between from to own → (o : Option (List Value)) → IfSome o (IsPointOf from own) → IfSome (option_map (rest_between from to) o) (IsPointOf to key)
      by_point back None h = tt
      by_point back (Some values) h = record {
        key_fits = subst (λ (k : List Value). AllZip FitsIdentifier (fitting.identifiers to) k) (sym back) (key-fits own h.key_fits);
        rest_fits = rest-fits values h.rest_fits;
      }

      by_test : (b : Bool) → is_key_between from to key ≡ b → IfSome (if b then read_at from to a key else None) (IsPointOf to key)
      by_test true e = by_point (tied key_cmp-IsTotalOrder key_cmp-IsAntisymmetric key (key_between from to own) e) (get a own) (fit own)
      by_test false e = tt

-- ---- the result

module _ (first to : List Component) (bare : to ≡ map unlisted first) (first_is : IsStructure first) (key : List Value) where
  either-fits : (o p : Option (List Value)) → IfSome o (IsPointOf to key) → IfSome p (IsPointOf to key) → IfSome (option_or o p) (IsPointOf to key)
  either-fits None p h i = i
  either-fits (Some x) p h i = h

  leftmost-fits : (ss : List (List Component)) → All IsStructure ss → All (λ from. are_alike first from ≡ true) ss → (sets : List DataSet) → AllZip IsSetOf ss sets → IfSome (leftmost (map (λ (q : List Component × DataSet). point_at q.0 to q.1 key) (zip ss sets))) (IsPointOf to key)
  leftmost-fits [] all alike sets fit = tt
  leftmost-fits (s ∷ ss) all alike [] fit = absurd fit
  leftmost-fits (s ∷ ss) all alike (a ∷ sets) fit =
      either-fits (point_at s to a key) (leftmost (map (λ (q : List Component × DataSet). point_at q.0 to q.1 key) (zip ss sets)))
      (point-fits first s to bare first_is (All-head IsStructure s ss all) (All-head (λ from. are_alike first from ≡ true) s ss alike) a fit.0 key)
      (leftmost-fits ss (All-tail IsStructure s ss all) (All-tail (λ from. are_alike first from ≡ true) s ss alike) sets fit.1)

  chosen-fits : (o : SetOperation) (points : List (Option (List Value))) → IfSome (leftmost points) (IsPointOf to key) → IfSome (chosen o points) (IsPointOf to key)
  chosen-fits o points h = elim (stays o (map is_some points)) as (λ b. IfSome (if b then leftmost points else None) (IsPointOf to key)) [ true ↦ h | false ↦ tt ]

pub set-fits : (s : SetOn) (sets : List DataSet) (y : DataSet) → IsTypedSet s → AllZip IsSetOf s.operands sets → set_meaning s sets ≡ Made y → IsBoundedSetOf s.structure y
set-fits s sets y typed fit made =
    let first = typed.set.first in
    let like : IsSetLike s first = like-first s typed in
    record {
      fits = λ key. subst (λ (o : Option (List Value)). IfSome o (IsPointOf s.structure key)) (sym ((set-result s sets y made).values key)) (chosen-fits first s.structure like.bare like.first_is key s.operation (points_at s sets key) (leftmost-fits first s.structure like.bare like.first_is key s.operands typed.structures like.alike sets fit));
      few = few s sets y made;
    }
