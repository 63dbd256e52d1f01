-- Where the results of joins have points, in words.
use Rattle.std.proofs.Common.{◌≡◌, List, [], ◌∷◌, map, zip, length, Bool, true, false, Option, Some, None, refl, sym, ap, ◌∙◌, arith}
use Rattle.std.specs.Prelude.{flat_map}
use Rattle.std.specs.Bool.{then_some}
use Rattle.std.specs.Option.{is_some}
use Rattle.std.specs.List.{Contains, list_any, list_all}
use Rattle.std.specs.FinMap.{get}
use Rattle.std.proofs.lemmas.List.{length-append}
use Rattle.std.proofs.lemmas.List.Elements.{All-contains}
use Rattle.std.proofs.lemmas.List.Folds.{list_all-map}
use Rattle.std.proofs.lemmas.List.Sums.{AllPass-from_list_all}
use Rattle.vtl_values.specs.declared.structure.Component.{Component}
use Rattle.vtl_values.specs.declared.value.Value.{Value}
use Rattle.vtl_syntax.specs.declared.words.JoinFunction.{JoinFunction}
use Rattle.vtl_syntax.specs.declared.words.JoinFunction.TheVariants.{Inner, Left, Full, Cross}
use Rattle.data_model.specs.Outcomes.{Made}
use Rattle.point_sets.specs.DataSets.{DataSet}
use Rattle.clause_meaning.specs.Clauses.{values_at}
use Rattle.data_set_trees.specs.Components.{identifiers}
use Rattle.data_set_trees.specs.Joins.{join_identifiers}
use Rattle.operator_meaning.specs.joins.Joins.{JoinOn, join_on, key_components, places_of, own_places, is_whole, points_at, stays, joined_values, join_working, join_meaning, AreKeysOf, all_points}
use Rattle.operator_meaning.specs.joins.Typed.{IsTypedJoinOn}
use Rattle.operator_meaning.proofs.joins.Typed.{list_any-map, some-contained}
use Rattle.operator_meaning.proofs.joins.Crossed.{flat, keys-own}
use Rattle.operator_meaning.proofs.joins.Covered.{point_of, fits, points-are, cross-points, working-at, join-result}

-- ---- operands with all identifiers

pub some-whole : (j : JoinOn) → IsTypedJoinOn j → j.function ≡ Inner → (s : List Component) × Contains j.operands s × (is_whole j s ≡ true)
some-whole j typed is = some-contained (is_whole j) j.operands (fits j typed Inner is)

pub left-whole : (j : JoinOn) (s : List Component) → IsTypedJoinOn j → j.function ≡ Left → Contains j.operands s → is_whole j s ≡ true
left-whole j s typed is there = All-contains (λ t. is_whole j t ≡ true) j.operands s (AllPass-from_list_all (is_whole j) j.operands (fits j typed Left is)) there

pub full-whole : (j : JoinOn) (s : List Component) → IsTypedJoinOn j → j.function ≡ Full → Contains j.operands s → is_whole j s ≡ true
full-whole j s typed is there = All-contains (λ t. is_whole j t ≡ true) j.operands s (AllPass-from_list_all (is_whole j) j.operands (fits j typed Full is)) there

-- ---- by which operands have a point

stay-at : (j : JoinOn) (sets : List DataSet) (key : List Value) → length key ≡ length (key_components j) → (f : JoinFunction) → j.function ≡ f → (b : Bool) → stays f (map is_some (points_at j sets key)) ≡ b → (join_working j sets).value key ≡ then_some b (joined_values j.operands (points_at j sets key))
stay-at j sets key long f is b h =
    working-at j sets key long
    ∙ ap (λ (g : JoinFunction). then_some (stays g (map is_some (points_at j sets key))) (joined_values j.operands (points_at j sets key))) is
    ∙ ap (λ c. then_some c (joined_values j.operands (points_at j sets key))) h

module _ (j : JoinOn) (sets : List DataSet) (y : DataSet) (typed : IsTypedJoinOn j) (many : length sets ≡ length j.operands) (e : join_meaning j sets ≡ Made y) (key : List Value) (long : length key ≡ length (key_components j)) where
  abbrev points : List (Option (List Value))
  points = points_at j sets key

  by_stay : (f : JoinFunction) → j.function ≡ f → (b : Bool) → stays f (map is_some points) ≡ b → get y key ≡ then_some b (joined_values j.operands points)
  by_stay f is b h = (join-result j sets typed many y e).values key ∙ stay-at j sets key long f is b h

  pub where-all : (b : Bool) → j.function ≡ Inner → list_all is_some points ≡ b → get y key ≡ then_some b (joined_values j.operands points)
  where-all b is h = by_stay Inner is b (list_all-map (λ c. c) is_some points ∙ h)

  pub where-any : (b : Bool) → j.function ≡ Full → list_any is_some points ≡ b → get y key ≡ then_some b (joined_values j.operands points)
  where-any b is h = by_stay Full is b (list_any-map (λ c. c) is_some points ∙ h)

-- the first operand's point is the first of all
pub first-stays : (j : JoinOn) → IsTypedJoinOn j → j.function ≡ Left → (a : DataSet) (sets : List DataSet) (first : List Component) (others : List (List Component)) → j.operands ≡ first ∷ others → (key : List Value) → stays Left (map is_some (points_at j (a ∷ sets) key)) ≡ is_some (get a (values_at (places_of j first) key))
first-stays j typed is a sets first others are key =
    ap (λ (os : List (Option (List Value))). stays Left (map is_some os)) (points-are j typed (λ c. let never : Left ≡ Cross = sym is ∙ c in cc) (a ∷ sets) key)
    ∙ ap (λ (ss : List (List Component)). stays Left (map is_some (map (point_of j key) (zip ss (a ∷ sets))))) are

module _ (j : JoinOn) (a : DataSet) (sets : List DataSet) (y : DataSet) (typed : IsTypedJoinOn j) (many : length (a ∷ sets) ≡ length j.operands) (is : j.function ≡ Left) (e : join_meaning j (a ∷ sets) ≡ Made y) (first : List Component) (others : List (List Component)) (are : j.operands ≡ first ∷ others) (key : List Value) (long : length key ≡ length (key_components j)) where
  pub where-first : is_some (get a (values_at (places_of j first) key)) ≡ true → get y key ≡ Some (joined_values j.operands (points_at j (a ∷ sets) key))
  where-first h = by_stay j (a ∷ sets) y typed many e key long Left is true (first-stays j typed is a sets first others are key ∙ h)

  pub where-not-first : get a (values_at (places_of j first) key) ≡ None → get y key ≡ None
  where-not-first h = by_stay j (a ∷ sets) y typed many e key long Left is false (first-stays j typed is a sets first others are key ∙ ap is_some h)

-- ---- a cross join

crossed-keys : (f : JoinFunction) (ss : List (List Component)) (t : List Component) (key : List Value) → f ≡ Cross → length key ≡ length (key_components (join_on f ss t)) → flat_map (λ numbers. values_at numbers key) (own_places (join_on f ss t)) ≡ key
crossed-keys Inner ss t key is = cc
crossed-keys Left ss t key is = cc
crossed-keys Full ss t key is = cc
crossed-keys Cross ss t key is = keys-own ss key

crossed-own : (f : JoinFunction) (ss : List (List Component)) (t : List Component) (sets : List DataSet) (own : List (List Value)) → f ≡ Cross → AreKeysOf ss own → points_at (join_on f ss t) sets (flat own) ≡ all_points sets own
crossed-own Inner ss t sets own is = cc
crossed-own Left ss t sets own is = cc
crossed-own Full ss t sets own is = cc
crossed-own Cross ss t sets own is = cross-points ss t sets own

flat-long : (ss : List (List Component)) (own : List (List Value)) → AreKeysOf ss own → length (flat own) ≡ length (flat_map identifiers ss)
flat-long [] [] long = refl
flat-long [] (k ∷ ks) long = absurd long
flat-long (s ∷ ss) [] long = absurd long
flat-long (s ∷ ss) (k ∷ ks) long =
    let later = flat-long ss ks long.1 in
    let its = long.0 in
    let one = length-append k (flat ks) in
    let two = length-append (identifiers s) (flat_map identifiers ss) in
    omega (arith, later, its, one, two)

crossed-long : (f : JoinFunction) (ss : List (List Component)) (own : List (List Value)) → f ≡ Cross → AreKeysOf ss own → length (flat own) ≡ length (join_identifiers f ss)
crossed-long Inner ss own is = cc
crossed-long Left ss own is = cc
crossed-long Full ss own is = cc
crossed-long Cross ss own is = flat-long ss own

pub cross-keys : (j : JoinOn) (key : List Value) → j.function ≡ Cross → length key ≡ length (key_components j) → flat_map (λ numbers. values_at numbers key) (own_places j) ≡ key
cross-keys j key is = crossed-keys j.function j.operands j.structure key is

pub cross-own : (j : JoinOn) (sets : List DataSet) (own : List (List Value)) → j.function ≡ Cross → AreKeysOf j.operands own → points_at j sets (flat own) ≡ all_points sets own
cross-own j sets own is = crossed-own j.function j.operands j.structure sets own is

module _ (j : JoinOn) (sets : List DataSet) (is : j.function ≡ Cross) (own : List (List Value)) (long : AreKeysOf j.operands own) where
  pub each-at : (b : Bool) → list_all is_some (all_points sets own) ≡ b → (join_working j sets).value (flat own) ≡ then_some b (joined_values j.operands (all_points sets own))
  each-at b h =
      let same : points_at j sets (flat own) ≡ all_points sets own = cross-own j sets own is long in
      stay-at j sets (flat own) (crossed-long j.function j.operands own is long) Cross is b (ap (λ (os : List (Option (List Value))). list_all (λ c. c) (map is_some os)) same ∙ list_all-map (λ c. c) is_some (all_points sets own) ∙ h)
      ∙ ap (λ (os : List (Option (List Value))). then_some b (joined_values j.operands os)) same

  pub where-each : (y : DataSet) → IsTypedJoinOn j → length sets ≡ length j.operands → join_meaning j sets ≡ Made y → (b : Bool) → list_all is_some (all_points sets own) ≡ b → get y (flat own) ≡ then_some b (joined_values j.operands (all_points sets own))
  where-each y typed many e b h = (join-result j sets typed many y e).values (flat own) ∙ each-at b h
