-- The outcome of a join in words.
use Rattle.std.proofs.Common.{◌≡◌, ◌≢◌, ◌≤◌, ℕ, List, [], ◌∷◌, map, zip, length, Bool, true, false, ◌&&◌, ◌||◌, cond, if◌then◌else◌, Option, None, refl, sym, ap, subst, ◌∙◌, arith}
use Rattle.std.specs.Prelude.{filter, flat_map, nat_le}
use Rattle.std.specs.Bool.{then_some}
use Rattle.std.specs.Option.{is_some}
use Rattle.std.specs.Ordering.{eq_by_cmp}
use Rattle.std.specs.List.{All, Contains, list_any, list_all}
use Rattle.std.specs.FinMap.{empty, get, keys, len}
use Rattle.std.proofs.lemmas.Bool.{eqb-true, eq-eqb}
use Rattle.std.proofs.lemmas.List.Elements.{All-nil, All-cons, All-head, All-tail, All-contains_itself}
use Rattle.std.proofs.lemmas.List.Folds.{list_any-append, list_all-map}
use Rattle.std.proofs.lemmas.Slice.Zip.{AllZip-long}
use Rattle.vtl_values.specs.Order.{key_cmp}
use Rattle.vtl_values.specs.declared.structure.Component.{Component}
use Rattle.vtl_values.specs.declared.value.Value.{Value}
use Rattle.vtl_values.proofs.Values.{key_cmp-IsTotalOrder, key_cmp-IsAntisymmetric}
use Rattle.vtl_syntax.specs.declared.words.JoinFunction.{JoinFunction}
use Rattle.vtl_syntax.specs.declared.words.JoinFunction.TheVariants.{Inner, Left, Full, Cross}
use Rattle.data_model.specs.Maps.{is_listed, made_at}
use Rattle.data_model.specs.Outcomes.{Made, Range, TooMany, Outcome, IsOutcome, IsResult, made, outcome}
use Rattle.data_model.specs.declared.TheConstants.{POINT_LIMIT}
use Rattle.data_model.proofs.DeltaLemmas.{contradicted}
use Rattle.data_model.proofs.MapLemmas.{is_listed-keys, keys-empty}
use Rattle.data_model.proofs.OutcomeLemmas.{outcome-nothing}
use Rattle.point_sets.specs.DataSets.{DataSet}
use Rattle.scalar_trees.proofs.typing.Sound.{left, right}
use Rattle.clause_meaning.specs.Clauses.{values_at}
use Rattle.clause_meaning.proofs.Covered.{IsCovered, IsMeant, covered-meant}
use Rattle.clause_meaning.proofs.Kept.{result}
use Rattle.data_set_trees.specs.Components.{identifiers}
use Rattle.data_set_trees.specs.Joins.{identifiers_fit, all_virals_agree}
use Rattle.operator_meaning.proofs.pairs.Names.{either-left, either-right}
use Rattle.operator_meaning.specs.joins.Joins.{JoinOn, join_on, key_components, is_key, places_of, is_whole, join_key, combinations, join_keys, points_at, stays, joined_values, joined_point, join_working, join_meaning, AreKeysOf, all_points}
use Rattle.operator_meaning.specs.joins.Typed.{IsTypedJoinOn}
use Rattle.operator_meaning.proofs.joins.Typed.{list_any-map, places-are, keys-are, key-forth}
use Rattle.operator_meaning.proofs.joins.Crossed.{flat, listed-map, split, points-own, combination-listed}

-- an operand with its data set
abbrev pub Operand : Type 0
Operand = List Component × DataSet

-- ---- lists

pub zip-all : {A B : Type 0} (P : A → Type 0) (xs : List A) (ys : List B) → All P xs → All (λ (q : A × B). P q.0) (zip xs ys)
zip-all {A = A} {B = B} P [] ys all = All-nil (λ (q : A × B). P q.0)
zip-all {A = A} {B = B} P (x ∷ xs) [] all = All-nil (λ (q : A × B). P q.0)
zip-all {A = A} {B = B} P (x ∷ xs) (y ∷ ys) all = All-cons (λ (q : A × B). P q.0) (x, y) (zip xs ys) (All-head P x xs all) (zip-all P xs ys (All-tail P x xs all))

module _ {A B : Type 0} (w : A → Bool) (t : A × B → Bool) where
  abbrev both_of : A × B → Bool
  both_of q = w q.0 && t q

  -- one that passes the one test, where all pass the other
  any-with : (xs : List A) (ys : List B) → length ys ≡ length xs → list_any w xs ≡ true → list_all t (zip xs ys) ≡ true → list_any both_of (zip xs ys) ≡ true
  any-with [] ys long any all = cc
  any-with (x ∷ xs) [] long any all = absurd (omega (arith, long))
  any-with (x ∷ xs) (y ∷ ys) long any all =
      let own = t (x, y) in
      let rest = list_all t (zip xs ys) in
      by_test (w x) any (left own rest all) (λ i. any-with xs ys (omega (arith, long)) i (right own rest all))
    where
      by_test : (b : Bool) → (b || list_any w xs) ≡ true → t (x, y) ≡ true → (list_any w xs ≡ true → list_any both_of (zip xs ys) ≡ true) → ((b && t (x, y)) || list_any both_of (zip xs ys)) ≡ true
      by_test true i there later = either-left (t (x, y)) (list_any both_of (zip xs ys)) there
      by_test false i there later = later i

  all-with : (xs : List A) (ys : List B) → list_all w xs ≡ true → list_any t (zip xs ys) ≡ true → list_any both_of (zip xs ys) ≡ true
  all-with [] ys all any = cc
  all-with (x ∷ xs) [] all any = cc
  all-with (x ∷ xs) (y ∷ ys) all any = by_test (t (x, y)) any (left (w x) (list_all w xs) all) (λ i. all-with xs ys (right (w x) (list_all w xs) all) i)
    where
      by_test : (b : Bool) → (b || list_any t (zip xs ys)) ≡ true → w x ≡ true → (list_any t (zip xs ys) ≡ true → list_any both_of (zip xs ys) ≡ true) → ((w x && b) || list_any both_of (zip xs ys)) ≡ true
      by_test true i own later = rw own refl
      by_test false i own later = either-right (w x && false) (list_any both_of (zip xs ys)) (later i)

-- ---- points, but for a cross join

module _ (j : JoinOn) where
  -- what an operand has at its own key
  abbrev pub point_of : List Value → Operand → Option (List Value)
  point_of key q = get q.1 (values_at (places_of j q.0) key)

  abbrev pub is_there : List Value → Operand → Bool
  is_there key q = is_some (point_of key q)

  points-zipped : (ss : List (List Component)) (sets : List DataSet) (key : List Value) → map (λ (q : List ℕ × DataSet). get q.1 (values_at q.0 key)) (zip (map (places_of j) ss) sets) ≡ map (point_of key) (zip ss sets)
  points-zipped [] sets key = refl
  points-zipped (s ∷ ss) [] key = refl
  points-zipped (s ∷ ss) (a ∷ sets) key = ap (λ (os : List (Option (List Value))). get a (values_at (places_of j s) key) ∷ os) (points-zipped ss sets key)

  abbrev keys_with : Operand → List (List Value)
  keys_with q = map (join_key j q.0) (keys q.1)

  abbrev pub whole_there : List Value → Operand → Bool
  whole_there key q = is_whole j q.0 && is_there key q

module _ (j : JoinOn) (typed : IsTypedJoinOn j) where
  pub fits : (f : JoinFunction) → j.function ≡ f → identifiers_fit f j.operands ≡ true
  fits f is = subst (λ (g : JoinFunction). identifiers_fit g j.operands ≡ true) is (left (identifiers_fit j.function j.operands) (all_virals_agree j.operands) typed.join.may)

  module _ (apart : j.function ≢ Cross) where
    pub points-are : (sets : List DataSet) (key : List Value) → points_at j sets key ≡ map (point_of j key) (zip j.operands sets)
    points-are sets key = ap (λ (nss : List (List ℕ)). map (λ (q : List ℕ × DataSet). get q.1 (values_at q.0 key)) (zip nss sets)) (places-are j typed apart) ∙ points-zipped j j.operands sets key

    -- where an operand with all identifiers has a point, the key is listed
    pub one-listed : (q : Operand) → Contains j.operands q.0 → is_whole j q.0 ≡ true → (key : List Value) → length key ≡ length (key_components j) → is_there j key q ≡ true → is_listed key_cmp (keys_with j q) key ≡ true
    one-listed q there whole key long has =
        let own : List Value = values_at (places_of j q.0) key in
        let listed : is_listed key_cmp (keys q.1) own ≡ true = is_listed-keys key_cmp-IsTotalOrder q.1 own ∙ has in
        subst (λ (k : List Value). is_listed key_cmp (keys_with j q) k ≡ true) (key-forth j typed apart q.0 there whole key long) (listed-map (join_key j q.0) own (keys q.1) listed)

    any-listed : (zs : List Operand) → All (λ q. Contains j.operands q.0) zs → (key : List Value) → length key ≡ length (key_components j) → list_any (whole_there j key) zs ≡ true → is_listed key_cmp (flat_map (keys_with j) (filter (λ q. is_whole j q.0) zs)) key ≡ true
    any-listed [] all key long h = cc
    any-listed (q ∷ zs) all key long h =
        by_tests (is_whole j q.0) refl (is_there j key q) refl (any-listed zs (All-tail (λ z. Contains j.operands z.0) q zs all) key long) (All-head (λ z. Contains j.operands z.0) q zs all) h
      where
        rest : List (List Value)
        rest = flat_map (keys_with j) (filter (λ z. is_whole j z.0) zs)

        by_tests : (w : Bool) → is_whole j q.0 ≡ w → (t : Bool) → is_there j key q ≡ t → (list_any (whole_there j key) zs ≡ true → is_listed key_cmp rest key ≡ true) → Contains j.operands q.0 → ((w && t) || list_any (whole_there j key) zs) ≡ true → is_listed key_cmp (flat_map (keys_with j) (if w then q ∷ filter (λ z. is_whole j z.0) zs else filter (λ z. is_whole j z.0) zs)) key ≡ true
        by_tests true whole true has later there i = list_any-append (eq_by_cmp key_cmp key) (keys_with j q) rest ∙ either-left (is_listed key_cmp (keys_with j q) key) (is_listed key_cmp rest key) (one-listed q there whole key long has)
        by_tests true whole false has later there i = list_any-append (eq_by_cmp key_cmp key) (keys_with j q) rest ∙ either-right (is_listed key_cmp (keys_with j q) key) (is_listed key_cmp rest key) (later i)
        by_tests false whole t has later there i = later i

    -- a point that stays is one of an operand with all identifiers
    whole-stays : (f : JoinFunction) → f ≢ Cross → (ss : List (List Component)) (sets : List DataSet) → length sets ≡ length ss → (w : List Component → Bool) (t : Operand → Bool)
        → ((f ≡ Inner → list_any w ss ≡ true) × (f ≡ Left → list_all w ss ≡ true) × (f ≡ Full → list_all w ss ≡ true))
        → stays f (map t (zip ss sets)) ≡ true → list_any (λ q. w q.0 && t q) (zip ss sets) ≡ true
    whole-stays Inner other ss sets long w t whole h = any-with w t ss sets long (whole.0 refl) (sym (list_all-map (λ b. b) t (zip ss sets)) ∙ h)
    whole-stays Left other [] sets long w t whole h = cc
    whole-stays Left other (s ∷ ss) [] long w t whole h = cc
    whole-stays Left other (s ∷ ss) (a ∷ sets) long w t whole h =
        rw (left (w s) (list_all w ss) (whole.1 refl), h) refl
    whole-stays Full other ss sets long w t whole h = all-with w t ss sets (whole.2 refl) (sym (list_any-map (λ b. b) t (zip ss sets)) ∙ h)
    whole-stays Cross other ss sets long w t whole h = absurd (other refl)

    pub one-there : (sets : List DataSet) → length sets ≡ length j.operands → (key : List Value) → stays j.function (map is_some (points_at j sets key)) ≡ true → list_any (whole_there j key) (zip j.operands sets) ≡ true
    one-there sets many key h =
        let flags : map is_some (points_at j sets key) ≡ map (is_there j key) (zip j.operands sets) = ap (map is_some) (points-are sets key) ∙ map-map (zip j.operands sets) in
        whole-stays j.function apart j.operands sets many (is_whole j) (is_there j key) (fits Inner, fits Left, fits Full) (ap (stays j.function) (sym flags) ∙ h)
      where
        map-map : (zs : List Operand) → map is_some (map (point_of j key) zs) ≡ map (is_there j key) zs
        map-map [] = refl
        map-map (z ∷ zs) = ap (λ bs. is_there j key z ∷ bs) (map-map zs)

    there-listed : (sets : List DataSet) → length sets ≡ length j.operands → (key : List Value) → length key ≡ length (key_components j) → stays j.function (map is_some (points_at j sets key)) ≡ true → is_listed key_cmp (join_keys j sets) key ≡ true
    there-listed sets many key long h =
        ap (λ (ks : List (List Value)). is_listed key_cmp ks key) (keys-are j typed apart sets)
        ∙ any-listed (zip j.operands sets) (zip-all (Contains j.operands) j.operands sets (All-contains_itself j.operands)) key long (one-there sets many key h)

-- ---- of a cross join

module _ (ss : List (List Component)) (t : List Component) (sets : List DataSet) where
  abbrev crossed : JoinOn
  crossed = join_on Cross ss t

  pub cross-points : (own : List (List Value)) → AreKeysOf ss own → points_at crossed sets (flat own) ≡ all_points sets own
  cross-points own long = points-own ss sets own long

  cross-listed : length sets ≡ length ss → (key : List Value) → length key ≡ length (key_components crossed) → stays Cross (map is_some (points_at crossed sets key)) ≡ true → is_listed key_cmp (join_keys crossed sets) key ≡ true
  cross-listed many key long h =
      let parts = split ss key long in
      let own = parts.0 in
      let same : points_at crossed sets key ≡ all_points sets own = ap (points_at crossed sets) (sym parts.2) ∙ cross-points own parts.1 in
      let all : list_all is_some (all_points sets own) ≡ true = sym (list_all-map (λ b. b) is_some (all_points sets own)) ∙ ap (λ (os : List (Option (List Value))). list_all (λ b. b) (map is_some os)) (sym same) ∙ h in
      let as_many = AllZip-long (λ s k. length k ≡ length (identifiers s)) ss own parts.1 in
      subst (λ (k : List Value). is_listed key_cmp (combinations sets) k ≡ true) parts.2 (combination-listed sets own (omega (arith, as_many, many)) all)

-- ---- the outcome

-- at a key with a value for each identifier
pub working-at : (j : JoinOn) (sets : List DataSet) (key : List Value) → length key ≡ length (key_components j) → (join_working j sets).value key ≡ joined_point j (points_at j sets key)
working-at j sets key long = ap (λ b. if b then joined_point j (points_at j sets key) else None) (eq-eqb (length key) (length (key_components j)) long)

module _ (j : JoinOn) (sets : List DataSet) (typed : IsTypedJoinOn j) (many : length sets ≡ length j.operands) where
  listed : (key : List Value) → length key ≡ length (key_components j) → stays j.function (map is_some (points_at j sets key)) ≡ true → is_listed key_cmp (join_keys j sets) key ≡ true
  listed key long h = by_function j.function refl
    where
      of_cross : (f : JoinFunction) → f ≡ Cross → length key ≡ length (key_components (join_on f j.operands j.structure)) → stays f (map is_some (points_at (join_on f j.operands j.structure) sets key)) ≡ true → is_listed key_cmp (join_keys (join_on f j.operands j.structure) sets) key ≡ true
      of_cross Inner e = cc
      of_cross Left e = cc
      of_cross Full e = cc
      of_cross Cross e = cross-listed j.operands j.structure sets many key

      by_function : (f : JoinFunction) → j.function ≡ f → is_listed key_cmp (join_keys j sets) key ≡ true
      by_function Inner e = there-listed j typed (λ c. let never : Inner ≡ Cross = sym e ∙ c in cc) sets many key long h
      by_function Left e = there-listed j typed (λ c. let never : Left ≡ Cross = sym e ∙ c in cc) sets many key long h
      by_function Full e = there-listed j typed (λ c. let never : Full ≡ Cross = sym e ∙ c in cc) sets many key long h
      by_function Cross e = of_cross j.function e long h

  pub none-unlisted : (key : List Value) → is_listed key_cmp (join_keys j sets) key ≡ false → (join_working j sets).value key ≡ None
  none-unlisted key h = by_key (is_key j key) refl
    where
      by_stay : length key ≡ length (key_components j) → (b : Bool) → stays j.function (map is_some (points_at j sets key)) ≡ b → then_some b (joined_values j.operands (points_at j sets key)) ≡ None
      by_stay long true there = contradicted (is_listed key_cmp (join_keys j sets) key) (listed key long there) h
      by_stay long false there = refl

      by_key : (b : Bool) → is_key j key ≡ b → (if b then joined_point j (points_at j sets key) else None) ≡ None
      by_key true e = by_stay (eqb-true (length key) (length (key_components j)) e) (stays j.function (map is_some (points_at j sets key))) refl
      by_key false e = refl

  pub join-covered : IsCovered (join_working j sets)
  join-covered = record { evaluations = λ key l. refl; points = none-unlisted }

  pub join-meant : IsMeant (join_working j sets)
  join-meant = covered-meant (join_working j sets) join-covered

  pub join-result : (y : DataSet) → join_meaning j sets ≡ Made y → IsResult {R = key_cmp} (join_working j sets).beyond (join_working j sets).value y
  join-result y e = result (join_working j sets) y join-meant e

  abbrev Meant : Outcome key_cmp (List Value) → Type 0
  Meant o = IsOutcome {R = key_cmp} (join_working j sets).beyond (join_working j sets).value o

  pub few : (y : DataSet) → join_meaning j sets ≡ Made y → len y ≤ POINT_LIMIT
  few y e = (subst Meant e join-meant).1

  pub value-is : (y : DataSet) → join_meaning j sets ≡ Made y → (key : List Value) → length key ≡ length (key_components j) → get y key ≡ joined_point j (points_at j sets key)
  value-is y e key long = (join-result y e).values key ∙ working-at j sets key long

  -- and there is no point at any other
  pub point-long : (y : DataSet) → join_meaning j sets ≡ Made y → (key : List Value) → is_some (get y key) ≡ true → length key ≡ length (key_components j)
  point-long y e key there = by_key (is_key j key) refl (ap is_some (sym ((join-result y e).values key)) ∙ there)
    where
      by_key : (b : Bool) → is_key j key ≡ b → is_some (if b then joined_point j (points_at j sets key) else None) ≡ true → length key ≡ length (key_components j)
      by_key true is i = eqb-true (length key) (length (key_components j)) is
      by_key false is i = cc

-- ---- whatever the join

pub join-in_range : (j : JoinOn) (sets : List DataSet) (key : List Value) → join_meaning j sets ≢ Range key
unfolding outcome
join-in_range j sets key = by_test (nat_le (len (made_at {R = key_cmp} (join_keys j sets) (join_working j sets).value)) POINT_LIMIT)
  where
    by_test : (b : Bool) → cond b (Made (made_at {R = key_cmp} (join_keys j sets) (join_working j sets).value)) TooMany ≢ Range key
    by_test true e = cc
    by_test false e = cc

empty-whole : (j : JoinOn) (ss : List (List Component)) → flat_map (λ (q : Operand). map (join_key j q.0) (keys q.1)) (filter (λ q. is_whole j q.0) (zip ss (map (λ _. empty) ss))) ≡ []
empty-whole j [] = refl
empty-whole j (s ∷ ss) = by_test (is_whole j s) (empty-whole j ss)
  where
    others : List Operand
    others = filter (λ q. is_whole j q.0) (zip ss (map (λ _. empty) ss))

    by_test : (b : Bool) → flat_map (λ (q : Operand). map (join_key j q.0) (keys q.1)) others ≡ [] → flat_map (λ (q : Operand). map (join_key j q.0) (keys q.1)) (cond b ((s, empty) ∷ others) others) ≡ []
    by_test true later = rw (keys-empty key_cmp (List Value)) later
    by_test false later = later

empty-keys : (f : JoinFunction) (s : List Component) (ss : List (List Component)) (t : List Component) → join_keys (join_on f (s ∷ ss) t) (map (λ _. empty) (s ∷ ss)) ≡ []
empty-keys Inner s ss t = empty-whole (join_on Inner (s ∷ ss) t) (s ∷ ss)
empty-keys Left s ss t = empty-whole (join_on Left (s ∷ ss) t) (s ∷ ss)
empty-keys Full s ss t = empty-whole (join_on Full (s ∷ ss) t) (s ∷ ss)
empty-keys Cross s ss t = rw (keys-empty key_cmp (List Value)) refl

pub join-empty : (j : JoinOn) → IsTypedJoinOn j → join_meaning j (map (λ _. empty) j.operands) ≡ made empty
join-empty j typed =
    let none : join_keys j (map (λ _. empty) j.operands) ≡ [] =
    subst (λ (ss : List (List Component)). join_keys (join_on j.function ss j.structure) (map (λ _. empty) ss) ≡ []) (sym typed.join.some) (empty-keys j.function typed.join.first typed.join.others j.structure) in
    let w = join_working j (map (λ _. empty) j.operands) in
    ap (λ (ks : List (List Value)). outcome {R = key_cmp} [] w.beyond ks w.value) none ∙ outcome-nothing key_cmp-IsTotalOrder key_cmp-IsAntisymmetric w.beyond w.value
