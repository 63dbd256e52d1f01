-- Keys of a cross join: those of the operands, one after the other.
use Rattle.std.proofs.Common.{◌≡◌, ℕ, zero, suc, ◌+◌, List, [], ◌∷◌, ◌++◌, map, zip, length, take, drop, Bool, true, false, ◌||◌, Option, Some, refl, sym, ap, subst, ◌∙◌, append_assoc, arith}
use Rattle.std.specs.Prelude.{flat_map, slice_get}
use Rattle.std.specs.Option.{is_some}
use Rattle.std.specs.Ordering.{eq_by_cmp}
use Rattle.std.specs.List.{cons_option, list_all, range_with_len}
use Rattle.std.specs.FinMap.{get, keys}
use Rattle.std.proofs.lemmas.List.{length-append, length-take, length-drop, take-append-drop}
use Rattle.std.proofs.lemmas.List.Folds.{flat_map-map}
use Rattle.vtl_values.specs.Order.{key_cmp}
use Rattle.vtl_values.specs.declared.structure.Component.{Component}
use Rattle.vtl_values.specs.declared.value.Value.{Value}
use Rattle.vtl_values.proofs.Values.{key_cmp-IsTotalOrder, key_cmp-IsAntisymmetric}
use Rattle.data_model.specs.Maps.{is_listed}
use Rattle.data_model.proofs.MapLemmas.{tied, tied_to_itself, is_listed-keys}
use Rattle.point_sets.specs.DataSets.{DataSet}
use Rattle.scalar_trees.proofs.typing.Sound.{left, right}
use Rattle.clause_meaning.specs.Clauses.{values_at}
use Rattle.clause_meaning.proofs.Lists.{listed-flat_map}
use Rattle.data_set_trees.specs.Components.{identifiers}
use Rattle.operator_meaning.proofs.pairs.Names.{either-left, either-right}
use Rattle.operator_meaning.specs.joins.Joins.{runs, combinations, AreKeysOf, all_points}

-- one after the other
abbrev pub flat : List (List Value) → List Value
flat own = flat_map (λ key. key) own

-- what a listed key comes to is listed
pub listed-map : (f : List Value → List Value) (k : List Value) (ks : List (List Value)) → is_listed key_cmp ks k ≡ true → is_listed key_cmp (map f ks) (f k) ≡ true
listed-map f k [] h = cc
listed-map f k (j ∷ js) h = by_test (listed-map f k js) (eq_by_cmp key_cmp k j) refl h
  where
    by_test : (is_listed key_cmp js k ≡ true → is_listed key_cmp (map f js) (f k) ≡ true) → (b : Bool) → eq_by_cmp key_cmp k j ≡ b → (b || is_listed key_cmp js k) ≡ true → (eq_by_cmp key_cmp (f k) (f j) || is_listed key_cmp (map f js) (f k)) ≡ true
    by_test later true e i = either-left (eq_by_cmp key_cmp (f k) (f j)) (is_listed key_cmp (map f js) (f k)) (subst (λ (q : List Value). eq_by_cmp key_cmp (f k) (f q) ≡ true) (tied key_cmp-IsTotalOrder key_cmp-IsAntisymmetric k j e) (tied_to_itself key_cmp-IsTotalOrder (f k)))
    by_test later false e i = either-right (eq_by_cmp key_cmp (f k) (f j)) (is_listed key_cmp (map f js) (f k)) (later i)

-- ---- runs

slice_get-after : (before : List Value) (v : Value) (vs : List Value) → slice_get (before ++ v ∷ vs) (length before) ≡ Some v
slice_get-after [] v vs = refl
slice_get-after (b ∷ bs) v vs = slice_get-after bs v vs

-- the values of a run stand after those before it
run-at : (before own after : List Value) (number n : ℕ) → number ≡ length before → n ≡ length own → values_at (range_with_len number n) (before ++ (own ++ after)) ≡ own
run-at before [] after number zero from long = refl
run-at before [] after number (suc n) from long = absurd (omega (arith, long))
run-at before (v ∷ vs) after number zero from long = absurd (omega (arith, long))
run-at before (v ∷ vs) after number (suc n) from long =
    let here : slice_get (before ++ v ∷ (vs ++ after)) number ≡ Some v = ap (slice_get (before ++ v ∷ (vs ++ after))) from ∙ slice_get-after before v (vs ++ after) in
    let more = length-append before (v ∷ []) in
    let later : values_at (range_with_len (number + 1) n) ((before ++ v ∷ []) ++ (vs ++ after)) ≡ vs = run-at (before ++ v ∷ []) vs after (number + 1) n (omega (arith, from, more)) (omega (arith, long)) in
    let rest : values_at (range_with_len (number + 1) n) (before ++ v ∷ (vs ++ after)) ≡ vs = ap (values_at (range_with_len (number + 1) n)) (sym (append_assoc before (v ∷ []) (vs ++ after))) ∙ later in
    λ i. cons_option (here i) (rest i)

-- so the keys of all operands come back
pub runs-back : (before : List Value) (ss : List (List Component)) (own : List (List Value)) (number : ℕ) → number ≡ length before → AreKeysOf ss own → map (λ numbers. values_at numbers (before ++ flat own)) (runs number ss) ≡ own
runs-back before [] [] number from long = refl
runs-back before [] (k ∷ ks) number from long = absurd long
runs-back before (s ∷ ss) [] number from long = absurd long
runs-back before (s ∷ ss) (k ∷ ks) number from long =
    let first : values_at (range_with_len number (length (identifiers s))) (before ++ (k ++ flat ks)) ≡ k = run-at before k (flat ks) number (length (identifiers s)) from (sym long.0) in
    let more = length-append before k in
    let its : length k ≡ length (identifiers s) = long.0 in
    let later : map (λ numbers. values_at numbers ((before ++ k) ++ flat ks)) (runs (number + length (identifiers s)) ss) ≡ ks = runs-back (before ++ k) ss ks (number + length (identifiers s)) (omega (arith, from, more, its)) long.1 in
    let rest : map (λ numbers. values_at numbers (before ++ (k ++ flat ks))) (runs (number + length (identifiers s)) ss) ≡ ks = ap (λ (key : List Value). map (λ numbers. values_at numbers key) (runs (number + length (identifiers s)) ss)) (sym (append_assoc before k (flat ks))) ∙ later in
    λ i. first i ∷ rest i

-- a key with a value for each identifier is made of such
pub split : (ss : List (List Component)) (key : List Value) → length key ≡ length (flat_map identifiers ss) → (own : List (List Value)) × AreKeysOf ss own × (flat own ≡ key)
split [] [] long = ([], tt, refl)
split [] (v ∷ vs) long = absurd (omega (arith, long))
split (s ∷ ss) key long =
    let n : ℕ = length (identifiers s) in
    let whole = length-append (identifiers s) (flat_map identifiers ss) in
    let taken = length-take n key in
    let dropped = length-drop n key in
    let later = split ss (drop n key) (omega (arith, long, whole, dropped)) in
    (take n key ∷ later.0, (omega (arith, long, whole, taken), later.1), ap (λ (rest : List Value). take n key ++ rest) later.2 ∙ take-append-drop n key)

-- ---- points

points-zipped : (numbers : List (List ℕ)) (sets : List DataSet) (key : List Value) → map (λ (q : List ℕ × DataSet). get q.1 (values_at q.0 key)) (zip numbers sets) ≡ all_points sets (map (λ ns. values_at ns key) numbers)
points-zipped [] [] key = refl
points-zipped [] (a ∷ sets) key = refl
points-zipped (ns ∷ numbers) [] key = refl
points-zipped (ns ∷ numbers) (a ∷ sets) key = ap (λ (os : List (Option (List Value))). get a (values_at ns key) ∷ os) (points-zipped numbers sets key)

-- at keys one after the other each operand has what it has at its own
pub points-own : (ss : List (List Component)) (sets : List DataSet) (own : List (List Value)) → AreKeysOf ss own → map (λ (q : List ℕ × DataSet). get q.1 (values_at q.0 (flat own))) (zip (runs 0 ss) sets) ≡ all_points sets own
points-own ss sets own long = points-zipped (runs 0 ss) sets (flat own) ∙ ap (all_points sets) (runs-back [] ss own 0 refl long)

pub keys-own : (ss : List (List Component)) (key : List Value) → length key ≡ length (flat_map identifiers ss) → flat_map (λ numbers. values_at numbers key) (runs 0 ss) ≡ key
keys-own ss key long =
    let parts = split ss key long in
    let back : map (λ numbers. values_at numbers key) (runs 0 ss) ≡ parts.0 = ap (λ (k : List Value). map (λ numbers. values_at numbers k) (runs 0 ss)) (sym parts.2) ∙ runs-back [] ss parts.0 0 refl parts.1 in
    sym (flat_map-map (λ (k : List Value). k) (λ numbers. values_at numbers key) (runs 0 ss)) ∙ ap flat back ∙ parts.2

-- where all operands have a point, the key is one of the combinations
pub combination-listed : (sets : List DataSet) (own : List (List Value)) → length own ≡ length sets → list_all is_some (all_points sets own) ≡ true → is_listed key_cmp (combinations sets) (flat own) ≡ true
combination-listed [] [] long there = either-left (eq_by_cmp key_cmp [] []) false (tied_to_itself key_cmp-IsTotalOrder [])
combination-listed [] (k ∷ ks) long there = absurd (omega (arith, long))
combination-listed (a ∷ sets) [] long there = absurd (omega (arith, long))
combination-listed (a ∷ sets) (k ∷ ks) long there =
    let own = is_some (get a k) in
    let rest = list_all is_some (all_points sets ks) in
    let first : is_listed key_cmp (keys a) k ≡ true = is_listed-keys key_cmp-IsTotalOrder a k ∙ left own rest there in
    let later = combination-listed sets ks (omega (arith, long)) (right own rest there) in
    listed-flat_map key_cmp key_cmp key_cmp-IsTotalOrder key_cmp-IsAntisymmetric (λ (own : List Value). map (λ key. own ++ key) (combinations sets)) k (k ++ flat ks) (keys a) first (listed-map (λ key. k ++ key) (flat ks) (combinations sets) later)
