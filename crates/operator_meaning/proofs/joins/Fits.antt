-- What a well typed join gives is of the result's structure.
use Rattle.std.proofs.Common.{◌≡◌, ◌≢◌, ℕ, suc, ◌+◌, List, [], ◌∷◌, ◌++◌, map, zip, length, Bool, true, false, not, ◌&&◌, ◌||◌, cond, if◌then◌else◌, Option, Some, None, IfSome, refl, sym, ap, subst, ◌∙◌, arith}
use Rattle.std.specs.Prelude.{filter, flat_map}
use Rattle.std.specs.Bool.{then_some}
use Rattle.std.specs.Option.{is_some}
use Rattle.std.specs.List.{All, AllZip, Contains, cons_option, list_all, list_any}
use Rattle.std.specs.FinMap.{get}
use Rattle.std.proofs.lemmas.List.{length-map}
use Rattle.std.proofs.lemmas.List.Elements.{All-nil, All-cons, All-head, All-tail, All-contains, All-contains_itself}
use Rattle.std.proofs.lemmas.List.Folds.{list_all-map}
use Rattle.std.proofs.lemmas.Slice.Zip.{AllZip-long}
use Rattle.vtl_values.specs.Structures.{IsStructure}
use Rattle.vtl_values.specs.Texts.{Fits, same_text}
use Rattle.vtl_values.specs.declared.kind.Kind.{Kind}
use Rattle.vtl_values.specs.declared.kind.Role.TheVariants.{Identifier, Measure, Viral}
use Rattle.vtl_values.specs.declared.structure.Codes.TheVariants.{Any}
use Rattle.vtl_values.specs.declared.structure.Component.{Component}
use Rattle.vtl_values.specs.declared.value.Value.{Value}
use Rattle.vtl_values.specs.declared.value.Value.TheVariants.{Null}
use Rattle.vtl_syntax.specs.declared.words.JoinFunction.{JoinFunction}
use Rattle.vtl_syntax.specs.declared.words.JoinFunction.TheVariants.{Inner, Left, Full, Cross}
use Rattle.data_model.specs.Outcomes.{Made}
use Rattle.data_model.proofs.DeltaLemmas.{contradicted}
use Rattle.point_sets.specs.DataSets.{DataSet}
use Rattle.structured_sets.specs.Fitting.{FitsComponent, FitsIdentifier, IsPointOf, IsSetOf, IsBoundedSetOf, is_identifier, others}
use Rattle.scalar_trees.specs.WellTyped.{is_kind}
use Rattle.scalar_trees.proofs.typing.Sound.{is_kind-same, left, right}
use Rattle.data_set_trees.specs.clauses.Frames.{has_role, numbers_from, numbers_of}
use Rattle.clause_meaning.specs.Clauses.{values_at}
use Rattle.clause_meaning.proofs.ByRole.{of-identifiers, other-role}
use Rattle.clause_meaning.proofs.Fits.{same_test}
use Rattle.clause_meaning.proofs.Picked.{AllZip-picked, AllZip-++, picked-filter}
use Rattle.data_set_trees.specs.Components.{identifiers, is_same, unlisted}
use Rattle.data_set_trees.specs.Joins.{all_virals_agree, identifiers_fit, join_components}
use Rattle.operator_meaning.proofs.pairs.Names.{same-true, named, picked, is_in, Apart}
use Rattle.operator_meaning.proofs.pairs.Joined.{Has}
use Rattle.operator_meaning.proofs.pairs.Keys.{names, names-apart, same-in}
use Rattle.operator_meaning.specs.joins.Joins.{JoinOn, join_on, key_components, runs, places_of, own_places, is_whole, points_at, stays, measure_values, combined_values, joined_values, join_meaning, AreKeysOf, all_points}
use Rattle.operator_meaning.specs.joins.Typed.{IsTypedJoinOn}
use Rattle.operator_meaning.proofs.joins.Typed.{AreIn, some-contained, has-all, key-picked, key-forth, own-long}
use Rattle.operator_meaning.proofs.joins.Crossed.{flat, split}
use Rattle.operator_meaning.proofs.joins.Covered.{Operand, zip-all, is_there, whole_there, one-there, cross-points, value-is, point-long, few}
use Rattle.operator_meaning.proofs.joins.Structure.{but-names, all-identify, measures_of, virals_of, join-identifiers, join-others}
use Rattle.operator_meaning.proofs.joins.Virals.{ArePoints, null-fits, combined-fit}

-- ---- keys

-- the value is of the component's kind, whatever its codes, and not null
abbrev OfKind : Component → Value → Type 0
OfKind d v = Fits d.kind v × (v ≢ Null)

-- the value of a name, where there is one of it and of this kind among the identifiers
identifier-named : (d : Component) (cs : List Component) (vs : List Value) → Apart (names cs) → AllZip FitsIdentifier cs vs → list_any (is_same d) cs ≡ true → (v : Value) × (named (names cs) vs d.name ≡ Some v) × OfKind d v
identifier-named d [] vs apart fit there = cc
identifier-named d (c ∷ cs) [] apart fit there = absurd fit
identifier-named d (c ∷ cs) (v ∷ vs) apart fit there = by_name (identifier-named d cs vs apart.1 fit.1) (same_text d.name c.name) refl there
  where
    by_kind : same_text d.name c.name ≡ true → (k : Bool) → is_kind d.kind c.kind ≡ k → (k || list_any (is_same d) cs) ≡ true → Fits d.kind v
    by_kind e true is i = subst (λ (kind : Kind). Fits kind v) (sym (is_kind-same d.kind c.kind is)) fit.0.fits.kind
    by_kind e false is i = contradicted (is_in (names cs) c.name) (subst (λ (n : List ℕ). is_in (names cs) n ≡ true) (same-true d.name c.name e) (same-in d cs i)) apart.0

    by_name : (list_any (is_same d) cs ≡ true → (u : Value) × (named (names cs) vs d.name ≡ Some u) × OfKind d u) → (b : Bool) → same_text d.name c.name ≡ b → ((b && is_kind d.kind c.kind) || list_any (is_same d) cs) ≡ true → (u : Value) × (cond b (Some v) (named (names cs) vs d.name) ≡ Some u) × OfKind d u
    by_name later true e i = (v, refl, (by_kind e (is_kind d.kind c.kind) refl i, fit.0.some))
    by_name later false e i = later i

picked-fit : (cs : List Component) (vs : List Value) (ds : List Component) → Apart (names cs) → AllZip FitsIdentifier cs vs → AreIn cs ds → AllZip OfKind ds (picked (names cs) (names ds) vs)
picked-fit cs vs [] apart fit there = tt
picked-fit cs vs (d ∷ ds) apart fit there =
    let found = identifier-named d cs vs apart fit (All-head (λ e. list_any (is_same e) cs ≡ true) d ds there) in
    subst (λ (o : Option Value). AllZip OfKind (d ∷ ds) (cons_option o (picked (names cs) (names ds) vs))) (sym found.1)
    (found.2, picked-fit cs vs ds apart fit (All-tail (λ e. list_any (is_same e) cs ≡ true) d ds there))

-- an identifier of a result has no code list
without-codes : (cs : List Component) (vs : List Value) → All (Has Identifier) cs → AllZip OfKind cs vs → AllZip FitsIdentifier (map unlisted cs) vs
without-codes [] [] all fit = fit
without-codes [] (v ∷ vs) all fit = absurd fit
without-codes (c ∷ cs) [] all fit = absurd fit
without-codes (c ∷ cs) (v ∷ vs) all fit = (by_role (has_role Viral c) (other-role Viral Identifier refl c (All-head (Has Identifier) c cs all)), without-codes cs vs (All-tail (Has Identifier) c cs all) fit.1)
  where
    by_role : (b : Bool) → b ≡ false → FitsIdentifier (if b then c else record c { codes = Any }) v
    by_role true e = cc
    by_role false e = record { fits = record { kind = fit.0.0; codes = refl }; some = fit.0.1 }

of-kinds : (cs : List Component) (vs : List Value) → AllZip FitsIdentifier cs vs → AllZip OfKind cs vs
of-kinds [] [] fit = fit
of-kinds [] (v ∷ vs) fit = absurd fit
of-kinds (c ∷ cs) [] fit = absurd fit
of-kinds (c ∷ cs) (v ∷ vs) fit = ((fit.0.fits.kind, fit.0.some), of-kinds cs vs fit.1)

-- a key that an operand has
pub key-there : (s : List Component) (a : DataSet) (own : List Value) → IsSetOf s a → is_some (get a own) ≡ true → AllZip FitsIdentifier (identifiers s) own
key-there s a own fit there = by_point (get a own) (fit own) there
  where
    by_point : (o : Option (List Value)) → IfSome o (IsPointOf s own) → is_some o ≡ true → AllZip FitsIdentifier (identifiers s) own
    by_point None h i = cc
    by_point (Some rest) h i = subst (λ (cs : List Component). AllZip FitsIdentifier cs own) (sym (of-identifiers s)) h.key_fits

zip-both : {A B : Type 0} (R : A → B → Type 0) (xs : List A) (ys : List B) → AllZip R xs ys → All (λ (q : A × B). R q.0 q.1) (zip xs ys)
zip-both {A = A} {B = B} R [] ys fit = All-nil (λ (q : A × B). R q.0 q.1)
zip-both {A = A} {B = B} R (x ∷ xs) [] fit = All-nil (λ (q : A × B). R q.0 q.1)
zip-both {A = A} {B = B} R (x ∷ xs) (y ∷ ys) fit = All-cons (λ (q : A × B). R q.0 q.1) (x, y) (zip xs ys) fit.0 (zip-both R xs ys fit.1)

-- keys of all operands one after the other
flat-fits : (ss : List (List Component)) (sets : List DataSet) (own : List (List Value)) → AllZip IsSetOf ss sets → AreKeysOf ss own → list_all is_some (all_points sets own) ≡ true → AllZip OfKind (flat_map identifiers ss) (flat own)
flat-fits [] sets [] fit long there = tt
flat-fits [] sets (k ∷ ks) fit long there = absurd long
flat-fits (s ∷ ss) sets [] fit long there = absurd long
flat-fits (s ∷ ss) [] (k ∷ ks) fit long there = absurd fit
flat-fits (s ∷ ss) (a ∷ sets) (k ∷ ks) fit long there =
    let own = is_some (get a k) in
    let rest = list_all is_some (all_points sets ks) in
    AllZip-++ OfKind (identifiers s) (flat_map identifiers ss) k (flat ks)
    (of-kinds (identifiers s) k (key-there s a k fit.0 (left own rest there)))
    (flat-fits ss sets ks fit.1 long.1 (right own rest there))

cross-fits : (ss : List (List Component)) (t : List Component) (sets : List DataSet) → AllZip IsSetOf ss sets → (key : List Value) → length key ≡ length (key_components (join_on Cross ss t)) → stays Cross (map is_some (points_at (join_on Cross ss t) sets key)) ≡ true → AllZip OfKind (key_components (join_on Cross ss t)) key
cross-fits ss t sets fit key long h =
    let j : JoinOn = join_on Cross ss t in
    let parts = split ss key long in
    let same : points_at j sets key ≡ all_points sets parts.0 = ap (points_at j sets) (sym parts.2) ∙ cross-points ss t sets parts.0 parts.1 in
    let all : list_all is_some (all_points sets parts.0) ≡ true = sym (list_all-map (λ b. b) is_some (all_points sets parts.0)) ∙ ap (λ (os : List (Option (List Value))). list_all (λ b. b) (map is_some os)) (sym same) ∙ h in
    subst (AllZip OfKind (flat_map identifiers ss)) parts.2 (flat-fits ss sets parts.0 fit parts.1 all)

module _ (j : JoinOn) (typed : IsTypedJoinOn j) (sets : List DataSet) (fit : AllZip IsSetOf j.operands sets) where
  pub many : length sets ≡ length j.operands
  many = AllZip-long IsSetOf j.operands sets fit

  module _ (key : List Value) (long : length key ≡ length (key_components j)) (h : stays j.function (map is_some (points_at j sets key)) ≡ true) where
    whole-fits : j.function ≢ Cross → AllZip OfKind (key_components j) key
    whole-fits apart =
        let zs : List Operand = zip j.operands sets in
        let one = some-contained (whole_there j key) zs (one-there j typed apart sets many key h) in
        let q = one.0 in
        let whole : is_whole j q.0 ≡ true = left (is_whole j q.0) (is_there j key q) one.2 in
        let there : is_there j key q ≡ true = right (is_whole j q.0) (is_there j key q) one.2 in
        let its : Contains j.operands q.0 = All-contains (λ z. Contains j.operands z.0) zs q (zip-all (Contains j.operands) j.operands sets (All-contains_itself j.operands)) one.1 in
        let own_fit : IsSetOf q.0 q.1 = All-contains (λ z. IsSetOf z.0 z.1) zs q (zip-both IsSetOf j.operands sets fit) one.1 in
        let own : List Value = values_at (places_of j q.0) key in
        let is : IsStructure q.0 = All-contains IsStructure j.operands q.0 typed.structures its in
        let made : AllZip OfKind (key_components j) (picked (names (identifiers q.0)) (names (key_components j)) own) =
        picked-fit (identifiers q.0) own (key_components j) (names-apart (has_role Identifier) q.0 is.names_differ) (key-there q.0 q.1 own own_fit there) (has-all j typed apart q.0 whole) in
        subst (AllZip OfKind (key_components j)) (sym (key-picked j typed apart q.0 its whole own (own-long j typed apart q.0 its whole key long)) ∙ key-forth j typed apart q.0 its whole key long) made

    kinds-fit : AllZip OfKind (key_components j) key
    kinds-fit = by_function j.function refl
      where
        of_cross : (f : JoinFunction) → f ≡ Cross → length key ≡ length (key_components (join_on f j.operands j.structure)) → stays f (map is_some (points_at (join_on f j.operands j.structure) sets key)) ≡ true → AllZip OfKind (key_components (join_on f j.operands j.structure)) key
        of_cross Inner e = cc
        of_cross Left e = cc
        of_cross Full e = cc
        of_cross Cross e = cross-fits j.operands j.structure sets fit key

        by_function : (f : JoinFunction) → j.function ≡ f → AllZip OfKind (key_components j) key
        by_function Inner e = whole-fits (λ c. let never : Inner ≡ Cross = sym e ∙ c in cc)
        by_function Left e = whole-fits (λ c. let never : Left ≡ Cross = sym e ∙ c in cc)
        by_function Full e = whole-fits (λ c. let never : Full ≡ Cross = sym e ∙ c in cc)
        by_function Cross e = of_cross j.function e long h

-- ---- measures

measures-of-others : (s : List Component) → filter (has_role Measure) (others s) ≡ filter (has_role Measure) s
measures-of-others [] = refl
measures-of-others (c ∷ cs) = by_role (is_identifier c) refl (has_role Measure c) refl (measures-of-others cs)
  where
    by_role : (b : Bool) → is_identifier c ≡ b → (m : Bool) → has_role Measure c ≡ m → filter (has_role Measure) (others cs) ≡ filter (has_role Measure) cs → filter (has_role Measure) (cond (not b) (c ∷ others cs) (others cs)) ≡ cond m (c ∷ filter (has_role Measure) cs) (filter (has_role Measure) cs)
    by_role true e true m later = let never : false ≡ true = sym (other-role Identifier Measure refl c m) ∙ sym (same_test c c.role) ∙ e in cc
    by_role true e false m later = later
    by_role false e true m later = rw m (ap (λ (ds : List Component). c ∷ ds) later)
    by_role false e false m later = rw m later

as-many-numbers : (q : Component → Bool) (n : ℕ) (cs : List Component) → length (numbers_from (λ number. q) n cs) ≡ length (filter q cs)
as-many-numbers q n [] = refl
as-many-numbers q n (c ∷ cs) = by_test (q c) (as-many-numbers q (n + 1) cs)
  where
    by_test : (b : Bool) → length (numbers_from (λ number. q) (n + 1) cs) ≡ length (filter q cs) → length (if b then n ∷ numbers_from (λ number. q) (n + 1) cs else numbers_from (λ number. q) (n + 1) cs) ≡ length (cond b (c ∷ filter q cs) (filter q cs))
    by_test true later = ap suc later
    by_test false later = later

nulls-fit : (cs : List Component) (numbers : List ℕ) → length numbers ≡ length cs → AllZip FitsComponent cs (map (λ number. Null) numbers)
nulls-fit [] [] long = tt
nulls-fit [] (n ∷ ns) long = absurd (omega (arith, long))
nulls-fit (c ∷ cs) [] long = absurd (omega (arith, long))
nulls-fit (c ∷ cs) (n ∷ ns) long = (null-fits c, nulls-fit cs ns (omega (arith, long)))

measure-fits : (s : List Component) (o : Option (List Value)) → IfSome o (AllZip FitsComponent (others s)) → AllZip FitsComponent (filter (has_role Measure) s) (measure_values s o)
measure-fits s (Some rest) fit =
    subst (λ (cs : List Component). AllZip FitsComponent cs (values_at (numbers_of Measure (others s)) rest))
    (picked-filter (others s) (has_role Measure) 0 (others s) refl ∙ measures-of-others s)
    (AllZip-picked FitsComponent (numbers_of Measure (others s)) (others s) rest fit)
measure-fits s None fit = nulls-fit (filter (has_role Measure) s) (numbers_of Measure (others s)) (as-many-numbers (has_role Measure) 0 (others s) ∙ ap length (measures-of-others s))

measures-fit : (ss : List (List Component)) (points : List (Option (List Value))) → ArePoints ss points → AllZip FitsComponent (measures_of ss) (flat_map (λ q. measure_values q.0 q.1) (zip ss points))
measures-fit [] points fit = tt
measures-fit (s ∷ ss) [] fit = absurd fit
measures-fit (s ∷ ss) (o ∷ points) fit =
    AllZip-++ FitsComponent (filter (has_role Measure) s) (measures_of ss) (measure_values s o) (flat_map (λ q. measure_values q.0 q.1) (zip ss points))
    (measure-fits s o fit.0) (measures-fit ss points fit.1)

-- a component of a result has no code list, but for viral attributes
unlisted-fit : (cs : List Component) (vs : List Value) → AllZip FitsComponent cs vs → AllZip FitsComponent (map unlisted cs) vs
unlisted-fit [] [] fit = fit
unlisted-fit [] (v ∷ vs) fit = absurd fit
unlisted-fit (c ∷ cs) [] fit = absurd fit
unlisted-fit (c ∷ cs) (v ∷ vs) fit = (by_role (has_role Viral c), unlisted-fit cs vs fit.1)
  where
    by_role : (b : Bool) → FitsComponent (if b then c else record c { codes = Any }) v
    by_role true = fit.0
    by_role false = record { kind = fit.0.kind; codes = refl }

-- ---- the result

points-fit : (numbers : List (List ℕ)) (ss : List (List Component)) (sets : List DataSet) (key : List Value) → length numbers ≡ length ss → AllZip IsSetOf ss sets → ArePoints ss (map (λ (q : List ℕ × DataSet). get q.1 (values_at q.0 key)) (zip numbers sets))
points-fit [] [] sets key long fit = tt
points-fit [] (s ∷ ss) sets key long fit = absurd (omega (arith, long))
points-fit (ns ∷ numbers) [] sets key long fit = absurd (omega (arith, long))
points-fit (ns ∷ numbers) (s ∷ ss) [] key long fit = absurd fit
points-fit (ns ∷ numbers) (s ∷ ss) (a ∷ sets) key long fit = (by_point (get a (values_at ns key)) (fit.0 (values_at ns key)), points-fit numbers ss sets key (omega (arith, long)) fit.1)
  where
    by_point : (o : Option (List Value)) → IfSome o (IsPointOf s (values_at ns key)) → IfSome o (AllZip FitsComponent (others s))
    by_point None h = tt
    by_point (Some rest) h = h.rest_fits

runs-many : (n : ℕ) (ss : List (List Component)) → length (runs n ss) ≡ length ss
runs-many n [] = refl
runs-many n (s ∷ ss) = ap suc (runs-many (n + length (identifiers s)) ss)

places-many : (f : JoinFunction) (ss : List (List Component)) (t : List Component) → length (own_places (join_on f ss t)) ≡ length ss
places-many Inner ss t = length-map ss (places_of (join_on Inner ss t))
places-many Left ss t = length-map ss (places_of (join_on Left ss t))
places-many Full ss t = length-map ss (places_of (join_on Full ss t))
places-many Cross ss t = runs-many 0 ss

module _ (j : JoinOn) (typed : IsTypedJoinOn j) (sets : List DataSet) (fit : AllZip IsSetOf j.operands sets) where
  values-fit : (key : List Value) → AllZip FitsComponent (measures_of j.operands ++ virals_of j.operands) (joined_values j.operands (points_at j sets key))
  values-fit key =
      let points = points_at j sets key in
      let all : ArePoints j.operands points = points-fit (own_places j) j.operands sets key (places-many j.function j.operands j.structure) fit in
      AllZip-++ FitsComponent (measures_of j.operands) (virals_of j.operands) (flat_map (λ q. measure_values q.0 q.1) (zip j.operands points)) (combined_values j.operands points)
      (measures-fit j.operands points all)
      (combined-fit j.operands points typed.structures (right (identifiers_fit j.function j.operands) (all_virals_agree j.operands) typed.join.may) all)

  point-fits : (key : List Value) → length key ≡ length (key_components j) → (b : Bool) → stays j.function (map is_some (points_at j sets key)) ≡ b → IfSome (then_some b (joined_values j.operands (points_at j sets key))) (IsPointOf j.structure key)
  point-fits key long false there = tt
  point-fits key long true there =
      let cs : List Component = map unlisted (join_components j.function j.operands) in
      but-names j.structure cs key (joined_values j.operands (points_at j sets key)) typed.join.gives (record {
        key_fits = subst (λ (ds : List Component). AllZip FitsIdentifier ds key) (sym (join-identifiers j.function j.operands))
            (without-codes (key_components j) key (all-identify j.function j.operands) (kinds-fit j typed sets fit key long there));
        rest_fits = subst (λ (ds : List Component). AllZip FitsComponent ds (joined_values j.operands (points_at j sets key))) (sym (join-others j.function j.operands))
            (unlisted-fit (measures_of j.operands ++ virals_of j.operands) (joined_values j.operands (points_at j sets key)) (values-fit key));
      })

  pub join-fits : (y : DataSet) → join_meaning j sets ≡ Made y → IsBoundedSetOf j.structure y
  join-fits y e = record {
    fits = λ key. by_point key (get y key) refl;
    few = few j sets typed (many j typed sets fit) y e;
  }
    where
      by_point : (key : List Value) (o : Option (List Value)) → get y key ≡ o → IfSome o (IsPointOf j.structure key)
      by_point key None there = tt
      by_point key (Some rest) there =
          let all = many j typed sets fit in
          let long = point-long j sets typed all y e key (ap is_some there) in
          subst (λ (o : Option (List Value)). IfSome o (IsPointOf j.structure key)) (sym (value-is j sets typed all y e key long) ∙ there)
          (point-fits key long (stays j.function (map is_some (points_at j sets key))) refl)
