-- How many points joins have.
use Rattle.std.proofs.Common.{◌≡◌, ◌≢◌, ◌<◌, ◌≤◌, ◌*◌, List, [], ◌∷◌, ◌++◌, map, zip, length, Bool, true, false, if◌then◌else◌, Option, None, refl, sym, ap, subst, ◌∙◌, arith}
use Rattle.std.specs.Bool.{then_some}
use Rattle.std.specs.Option.{is_some}
use Rattle.std.specs.List.{AllZip, Contains, list_all}
use Rattle.std.specs.FinMap.{get, keys, len}
use Rattle.std.proofs.lemmas.Bool.{eqb-true}
use Rattle.std.proofs.lemmas.List.{length-map}
use Rattle.std.proofs.lemmas.List.Elements.{All-contains, All-contains_itself, Contains-get_or}
use Rattle.std.proofs.lemmas.List.Folds.{list_all-map}
use Rattle.std.proofs.lemmas.List.Sums.{AllPass-from_list_all}
use Rattle.std.proofs.lemmas.Slice.Zip.{AllZip-long}
use Rattle.vtl_values.specs.Order.{key_cmp}
use Rattle.vtl_values.specs.declared.structure.Component.{Component}
use Rattle.vtl_values.specs.declared.value.Value.{Value}
use Rattle.vtl_values.proofs.Values.{key_cmp-IsTotalOrder}
use Rattle.vtl_syntax.specs.declared.words.JoinFunction.{JoinFunction}
use Rattle.vtl_syntax.specs.declared.words.JoinFunction.TheVariants.{Inner, Left, Full, Cross}
use Rattle.data_model.specs.Maps.{is_listed}
use Rattle.data_model.specs.Outcomes.{Made, Range, TooMany, Outcome, IsOutcome, IsResult}
use Rattle.data_model.specs.declared.TheConstants.{POINT_LIMIT}
use Rattle.data_model.proofs.DeltaLemmas.{contradicted}
use Rattle.data_model.proofs.MapLemmas.{is_listed-keys, none_there}
use Rattle.point_sets.specs.DataSets.{DataSet}
use Rattle.structured_sets.specs.Fitting.{IsSetOf}
use Rattle.scalar_trees.proofs.typing.Sound.{both}
use Rattle.clause_meaning.specs.Clauses.{values_at}
use Rattle.data_set_trees.specs.Components.{identifiers}
use Rattle.operator_meaning.specs.joins.Joins.{JoinOn, join_on, key_components, is_key, places_of, is_whole, join_key, combinations, join_keys, points_at, stays, joined_values, joined_point, join_working, join_meaning, AreKeysOf, all_points, points_product}
use Rattle.operator_meaning.specs.joins.Typed.{IsTypedJoinOn}
use Rattle.operator_meaning.proofs.joins.Typed.{key-long, key-back}
use Rattle.operator_meaning.proofs.joins.Crossed.{flat, listed-map}
use Rattle.operator_meaning.proofs.joins.Covered.{Operand, zip-all, point_of, is_there, points-are, one-listed, none-unlisted, join-meant, join-result}
use Rattle.operator_meaning.proofs.joins.Fits.{key-there}
use Rattle.operator_meaning.proofs.joins.Words.{left-whole, first-stays, where-first, each-at}
use Rattle.operator_meaning.proofs.joins.Distinct.{Distinct, keys-many, few-keys, as-many-keys, keys-apart, from-map, from-flat, distinct-all, product-many}

not-cross : (f : JoinFunction) → f ≢ Cross → (g : JoinFunction) → g ≡ f → g ≢ Cross
not-cross f other g is c = other (sym is ∙ c)

inner-not : Inner ≢ Cross
inner-not c = cc

left-not : Left ≢ Cross
left-not c = cc

-- ---- no more than one operand

-- where a join has points only where this operand, which has all identifiers, has one
module _ (j : JoinOn) (typed : IsTypedJoinOn j) (apart : j.function ≢ Cross) (sets : List DataSet) (q : Operand) (there : Contains j.operands q.0) (whole : is_whole j q.0 ≡ true)
    (follows : (key : List Value) → stays j.function (map is_some (points_at j sets key)) ≡ true → is_there j key q ≡ true) where
  fewer : (m : DataSet) → IsResult {R = key_cmp} (join_working j sets).beyond (join_working j sets).value m → len m ≤ len q.1
  fewer m h =
      let ks = map (join_key j q.0) (keys q.1) in
      let bound = few-keys m ks (λ k l. h.values k ∙ none k l) in
      let long : length ks ≡ len q.1 = length-map (keys q.1) (join_key j q.0) ∙ keys-many q.1 in
      omega (arith, bound, long)
    where
      none : (k : List Value) → is_listed key_cmp (map (join_key j q.0) (keys q.1)) k ≡ false → (join_working j sets).value k ≡ None
      none k l = by_key (is_key j k) refl
        where
          by_stay : length k ≡ length (key_components j) → (b : Bool) → stays j.function (map is_some (points_at j sets k)) ≡ b → then_some b (joined_values j.operands (points_at j sets k)) ≡ None
          by_stay long true e = contradicted (is_listed key_cmp (map (join_key j q.0) (keys q.1)) k) (one-listed j typed apart q there whole k long (follows k e)) l
          by_stay long false e = refl

          by_key : (b : Bool) → is_key j k ≡ b → (if b then joined_point j (points_at j sets k) else None) ≡ None
          by_key true e = by_stay (eqb-true (length k) (length (key_components j)) e) (stays j.function (map is_some (points_at j sets k))) refl
          by_key false e = refl

  module _ (many : length sets ≡ length j.operands) where
    pub no-more : (y : DataSet) → join_meaning j sets ≡ Made y → len y ≤ len q.1
    no-more y e = fewer y (join-result j sets typed many y e)

    pub not-too-many : len q.1 ≤ POINT_LIMIT → join_meaning j sets ≢ TooMany
    not-too-many bound e =
        let out = subst (λ (o : Outcome key_cmp (List Value)). IsOutcome {R = key_cmp} (join_working j sets).beyond (join_working j sets).value o) e (join-meant j sets typed many) in
        let less = fewer out.0 out.1 in
        let above = out.2 in
        omega (arith, less, bound, above)

-- ---- an inner join

module _ (j : JoinOn) (sets : List DataSet) (typed : IsTypedJoinOn j) (is : j.function ≡ Inner) (s : List Component) (a : DataSet) (there : Contains (zip j.operands sets) (s, a)) where
  its : Contains j.operands s
  its = All-contains (λ (z : Operand). Contains j.operands z.0) (zip j.operands sets) (s, a) (zip-all (Contains j.operands) j.operands sets (All-contains_itself j.operands)) there

  all-there : (key : List Value) → stays j.function (map is_some (points_at j sets key)) ≡ true → is_there j key (s, a) ≡ true
  all-there key h =
      let flags : list_all (λ b. b) (map is_some (map (point_of j key) (zip j.operands sets))) ≡ true =
      ap (λ (os : List (Option (List Value))). list_all (λ b. b) (map is_some os)) (sym (points-are j typed (not-cross Inner inner-not j.function is) sets key)) ∙ ap (λ (f : JoinFunction). stays f (map is_some (points_at j sets key))) (sym is) ∙ h in
      let all : list_all (is_there j key) (zip j.operands sets) ≡ true = sym (list_all-map is_some (point_of j key) (zip j.operands sets)) ∙ sym (list_all-map (λ b. b) is_some (map (point_of j key) (zip j.operands sets))) ∙ flags in
      All-contains (λ (z : Operand). is_there j key z ≡ true) (zip j.operands sets) (s, a) (AllPass-from_list_all (is_there j key) (zip j.operands sets) all) there

pub inner-no-more : (j : JoinOn) (sets : List DataSet) (y : DataSet) → IsTypedJoinOn j → length sets ≡ length j.operands → j.function ≡ Inner → join_meaning j sets ≡ Made y → (s : List Component) (a : DataSet) → Contains (zip j.operands sets) (s, a) → is_whole j s ≡ true → len y ≤ len a
inner-no-more j sets y typed many is e s a there whole =
    no-more j typed (not-cross Inner inner-not j.function is) sets (s, a) (its j sets typed is s a there) whole (all-there j sets typed is s a there) many y e

pub inner-never : (j : JoinOn) (sets : List DataSet) → IsTypedJoinOn j → length sets ≡ length j.operands → j.function ≡ Inner → (s : List Component) (a : DataSet) → Contains (zip j.operands sets) (s, a) → is_whole j s ≡ true → len a ≤ POINT_LIMIT → join_meaning j sets ≢ TooMany
inner-never j sets typed many is s a there whole =
    not-too-many j typed (not-cross Inner inner-not j.function is) sets (s, a) (its j sets typed is s a there) whole (all-there j sets typed is s a there) many

-- ---- a left join

module _ (j : JoinOn) (a : DataSet) (sets : List DataSet) (typed : IsTypedJoinOn j) (is : j.function ≡ Left) where
  abbrev first : List Component
  first = typed.join.first

  first-there : Contains j.operands first
  first-there = subst (λ (ss : List (List Component)). Contains ss first) (sym typed.join.some) (Contains-get_or (first ∷ typed.join.others) 0 first (omega arith))

  first-whole : is_whole j first ≡ true
  first-whole = left-whole j first typed is first-there

  first-follows : (key : List Value) → stays j.function (map is_some (points_at j (a ∷ sets) key)) ≡ true → is_there j key (first, a) ≡ true
  first-follows key h =
      sym (first-stays j typed is a sets first typed.join.others typed.join.some key)
      ∙ ap (λ (f : JoinFunction). stays f (map is_some (points_at j (a ∷ sets) key))) (sym is) ∙ h

  pub left-never : length (a ∷ sets) ≡ length j.operands → len a ≤ POINT_LIMIT → join_meaning j (a ∷ sets) ≢ TooMany
  left-never many = not-too-many j typed (not-cross Left left-not j.function is) (a ∷ sets) (first, a) first-there first-whole first-follows many

  module _ (fit : AllZip IsSetOf j.operands (a ∷ sets)) (y : DataSet) (e : join_meaning j (a ∷ sets) ≡ Made y) where
    many : length (a ∷ sets) ≡ length j.operands
    many = AllZip-long IsSetOf j.operands (a ∷ sets) fit

    own-fit : IsSetOf first a
    own-fit = (subst (λ (ss : List (List Component)). AllZip IsSetOf ss (a ∷ sets)) typed.join.some fit).0

    -- each key of the first operand is that of a point of the result
    each-there : (own : List Value) → is_some (get a own) ≡ true → is_listed key_cmp (map (values_at (places_of j first)) (keys y)) own ≡ true
    each-there own h =
        let apart = not-cross Left left-not j.function is in
        let long : length own ≡ length (identifiers first) = AllZip-long _ (identifiers first) own (key-there first a own own-fit h) in
        let key : List Value = join_key j first own in
        let back : values_at (places_of j first) key ≡ own = key-back j typed apart first first-there first-whole own long in
        let has = where-first j a sets y typed many is e first typed.join.others typed.join.some key (key-long j typed apart first first-there first-whole own long) (ap (λ (k : List Value). is_some (get a k)) back ∙ h) in
        subst (λ (k : List Value). is_listed key_cmp (map (values_at (places_of j first)) (keys y)) k ≡ true) back
        (listed-map (values_at (places_of j first)) key (keys y) (is_listed-keys key_cmp-IsTotalOrder y key ∙ ap is_some has))

    none-there : (own : List Value) → is_listed key_cmp (map (values_at (places_of j first)) (keys y)) own ≡ false → get a own ≡ None
    none-there own h = by_test (is_some (get a own)) refl
      where
        by_test : (b : Bool) → is_some (get a own) ≡ b → get a own ≡ None
        by_test true i = contradicted (is_listed key_cmp (map (values_at (places_of j first)) (keys y)) own) (each-there own i) h
        by_test false i = none_there (get a own) i

    pub left-as-many : len y ≡ len a
    left-as-many =
        let less = no-more j typed (not-cross Left left-not j.function is) (a ∷ sets) (first, a) first-there first-whole first-follows many y e in
        let more = few-keys a (map (values_at (places_of j first)) (keys y)) none-there in
        let long : length (map (values_at (places_of j first)) (keys y)) ≡ len y = length-map (keys y) (values_at (places_of j first)) ∙ keys-many y in
        omega (arith, less, more, long)

-- ---- a cross join

combinations-many : (sets : List DataSet) → length (combinations sets) ≡ points_product sets
combinations-many [] = refl
combinations-many (a ∷ sets) = product-many (keys a) (combinations sets) ∙ (λ i. keys-many a i * combinations-many sets i)

key-listed : (s : List Component) (a : DataSet) → IsSetOf s a → (k : List Value) → is_listed key_cmp (keys a) k ≡ true → length k ≡ length (identifiers s)
key-listed s a fit k h = AllZip-long _ (identifiers s) k (key-there s a k fit (sym (is_listed-keys key_cmp-IsTotalOrder a k) ∙ h))

combinations-apart : (ss : List (List Component)) (sets : List DataSet) → AllZip IsSetOf ss sets → Distinct (combinations sets)
combinations-apart [] [] fit = (refl, tt)
combinations-apart [] (a ∷ sets) fit = absurd fit
combinations-apart (s ∷ ss) [] fit = absurd fit
combinations-apart (s ∷ ss) (a ∷ sets) fit = distinct-all (length (identifiers s)) (keys a) (combinations sets) (key-listed s a fit.0) (keys-apart a) (combinations-apart ss sets fit.1)

-- a combination is that of keys which all operands have
from-combination : (ss : List (List Component)) (sets : List DataSet) → AllZip IsSetOf ss sets → (key : List Value) → is_listed key_cmp (combinations sets) key ≡ true → (own : List (List Value)) × AreKeysOf ss own × (list_all is_some (all_points sets own) ≡ true) × (key ≡ flat own)
from-combination [] [] fit [] h = ([], tt, refl, refl)
from-combination [] [] fit (v ∷ vs) h = cc
from-combination [] (a ∷ sets) fit key h = absurd fit
from-combination (s ∷ ss) [] fit key h = absurd fit
from-combination (s ∷ ss) (a ∷ sets) fit key h =
    let one = from-flat (λ own. map (λ key. own ++ key) (combinations sets)) (keys a) key h in
    let two = from-map (λ key. one.0 ++ key) (combinations sets) key one.2 in
    let later = from-combination ss sets fit.1 two.0 two.1 in
    let own : is_some (get a one.0) ≡ true = sym (is_listed-keys key_cmp-IsTotalOrder a one.0) ∙ one.1 in
    (one.0 ∷ later.0, (key-listed s a fit.0 one.0 one.1, later.1), both (is_some (get a one.0)) (list_all is_some (all_points sets later.0)) own later.2, two.2 ∙ ap (λ (rest : List Value). one.0 ++ rest) later.3)

crossed-keys : (f : JoinFunction) (ss : List (List Component)) (t : List Component) (sets : List DataSet) → f ≡ Cross → join_keys (join_on f ss t) sets ≡ combinations sets
crossed-keys Inner ss t sets is = cc
crossed-keys Left ss t sets is = cc
crossed-keys Full ss t sets is = cc
crossed-keys Cross ss t sets is = refl

module _ (j : JoinOn) (sets : List DataSet) (typed : IsTypedJoinOn j) (fit : AllZip IsSetOf j.operands sets) (is : j.function ≡ Cross) where
  as_many_sets : length sets ≡ length j.operands
  as_many_sets = AllZip-long IsSetOf j.operands sets fit

  counted : (m : DataSet) → IsResult {R = key_cmp} (join_working j sets).beyond (join_working j sets).value m → len m ≡ points_product sets
  counted m h =
      let keys_are : join_keys j sets ≡ combinations sets = crossed-keys j.function j.operands j.structure sets is in
      as-many-keys m (combinations sets) (combinations-apart j.operands sets fit)
      (λ k l. h.values k ∙ none-unlisted j sets typed as_many_sets k (ap (λ (ks : List (List Value)). is_listed key_cmp ks k) keys_are ∙ l))
      (λ k l.
      let found = from-combination j.operands sets fit k l in
      ap (λ (key : List Value). is_some (get m key)) found.3 ∙ ap is_some (h.values (flat found.0) ∙ each-at j sets is found.0 found.1 true found.2))
      ∙ combinations-many sets

  pub cross-product : (y : DataSet) → join_meaning j sets ≡ Made y → len y ≡ points_product sets
  cross-product y e = counted y (join-result j sets typed as_many_sets y e)

  abbrev Meant : Outcome key_cmp (List Value) → Type 0
  Meant o = IsOutcome {R = key_cmp} (join_working j sets).beyond (join_working j sets).value o

  pub too-many : POINT_LIMIT < points_product sets → join_meaning j sets ≡ TooMany
  too-many above = by_outcome (join_meaning j sets) (join-meant j sets typed as_many_sets)
    where
      by_outcome : (o : Outcome key_cmp (List Value)) → Meant o → o ≡ TooMany
      by_outcome (Made y) out = let few = out.1 in let as_many = counted y out.0 in absurd (omega (arith, few, as_many, above))
      by_outcome (Range key) out = let never : false ≡ true = out.passes in cc
      by_outcome TooMany out = refl

  pub not-so-many : points_product sets ≤ POINT_LIMIT → join_meaning j sets ≢ TooMany
  not-so-many few e =
      let out = subst Meant e (join-meant j sets typed as_many_sets) in
      let as_many = counted out.0 out.1 in
      let above = out.2 in
      omega (arith, few, as_many, above)
