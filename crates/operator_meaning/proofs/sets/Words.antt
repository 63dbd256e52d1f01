-- What a set operator gives at a key, by what the operands have there.
use Rattle.std.proofs.Common.{◌≡◌, ◌≢◌, ◌+◌, List, [], ◌∷◌, map, zip, length, Bool, true, false, not, if◌then◌else◌, cond, Option, Some, None, refl, sym, ap, subst, ◌∙◌}
use Rattle.std.specs.Prelude.{count_by, nat_eq}
use Rattle.std.specs.Option.{is_some}
use Rattle.std.specs.List.{All, list_any, list_all}
use Rattle.std.specs.Ordering.{eq_by_cmp}
use Rattle.std.specs.FinMap.{get}
use Rattle.std.proofs.lemmas.Bool.{eqb-true}
use Rattle.std.proofs.lemmas.List.Elements.{All-head, All-tail}
use Rattle.std.proofs.lemmas.List.Folds.{list_all-map}
use Rattle.std.proofs.lemmas.List.Sums.{sum_by-cons}
use Rattle.vtl_values.specs.Order.{key_cmp}
use Rattle.vtl_values.specs.declared.structure.Component.{Component}
use Rattle.vtl_values.specs.declared.value.Value.{Value}
use Rattle.vtl_values.proofs.Values.{key_cmp-IsTotalOrder}
use Rattle.data_model.specs.Maps.{leftmost}
use Rattle.data_model.specs.Outcomes.{Made}
use Rattle.data_model.proofs.MapLemmas.{tied_to_itself}
use Rattle.point_sets.specs.DataSets.{DataSet}
use Rattle.data_set_trees.specs.Components.{identifiers}
use Rattle.data_set_trees.specs.declared.tree.SetOperation.{SetOperation}
use Rattle.data_set_trees.specs.declared.tree.SetOperation.TheVariants.{Union, Intersect, Setdiff, Symdiff}
use Rattle.operator_meaning.specs.sets.Sets.{SetOn, read_at, is_key_between, point_at, points_there, stays, chosen, set_meaning}
use Rattle.operator_meaning.specs.sets.Typed.{IsTypedSet}
use Rattle.operator_meaning.proofs.sets.Covered.{set-result}
use Rattle.operator_meaning.proofs.sets.Read.{IsRead, turned, key-back, all-read}

-- ---- at a key with a value for each identifier

pub point-there : (from to : List Component) (a : DataSet) (key : List Value) → IsRead from to → length key ≡ length (identifiers to) → point_at from to a key ≡ read_at from to a key
point-there from to a key read long =
    let tied : is_key_between from to key ≡ true = subst (λ (k : List Value). eq_by_cmp key_cmp key k ≡ true) (sym (key-back to from (turned from to read) key long)) (tied_to_itself key_cmp-IsTotalOrder key) in
    ap (λ b. if b then read_at from to a key else None) tied

pub points-same : (to : List Component) (key : List Value) → length key ≡ length (identifiers to) → (ss : List (List Component)) → All (λ from. IsRead from to) ss → (sets : List DataSet)
    → map (λ (q : List Component × DataSet). point_at q.0 to q.1 key) (zip ss sets) ≡ map (λ (q : List Component × DataSet). read_at q.0 to q.1 key) (zip ss sets)
points-same to key long [] all sets = refl
points-same to key long (s ∷ ss) all [] = refl
points-same to key long (s ∷ ss) all (a ∷ sets) = λ i. point-there s to a key (All-head (λ from. IsRead from to) s ss all) long i ∷ points-same to key long ss (All-tail (λ from. IsRead from to) s ss all) sets i

-- ---- which points stay

intersected : (points : List (Option (List Value))) → stays Intersect (map is_some points) ≡ list_all is_some points
intersected points = list_all-map (λ b. b) is_some points

with-all : (points : List (Option (List Value))) (first : Option (List Value)) (rest : List (Option (List Value))) → points ≡ first ∷ rest → list_all is_some points ≡ true → chosen Intersect points ≡ first
with-all points first rest e h =
    ap (λ b. if b then leftmost points else None) (intersected points ∙ h)
    ∙ ap leftmost e ∙ by_first first (subst (λ (ps : List (Option (List Value))). list_all is_some ps ≡ true) e h)
  where
    by_first : (o : Option (List Value)) → list_all is_some (o ∷ rest) ≡ true → leftmost (o ∷ rest) ≡ o
    by_first None i = cc
    by_first (Some p) i = refl

without-all : (points : List (Option (List Value))) → list_all is_some points ≡ false → chosen Intersect points ≡ None
without-all points h = ap (λ b. if b then leftmost points else None) (intersected points ∙ h)

any-there : (rest : List (Option (List Value))) → list_any (λ b. b) (map is_some rest) ≡ list_any is_some rest
any-there [] = refl
any-there (None ∷ ps) = any-there ps
any-there (Some p ∷ ps) = refl

none-left : (rest : List (Option (List Value))) → list_any is_some rest ≡ false → leftmost rest ≡ None
none-left [] h = refl
none-left (None ∷ ps) h = none-left ps h
none-left (Some p ∷ ps) h = cc

alone : (points : List (Option (List Value))) (first : Option (List Value)) (rest : List (Option (List Value))) → points ≡ first ∷ rest → list_any is_some rest ≡ false → chosen Setdiff points ≡ first
alone points first rest e h =
    ap (chosen Setdiff) e ∙ ap (λ b. if not b then leftmost (first ∷ rest) else None) (any-there rest ∙ h) ∙ by_first first
  where
    by_first : (o : Option (List Value)) → leftmost (o ∷ rest) ≡ o
    by_first None = none-left rest h
    by_first (Some p) = refl

not-alone : (points : List (Option (List Value))) (first : Option (List Value)) (rest : List (Option (List Value))) → points ≡ first ∷ rest → list_any is_some rest ≡ true → chosen Setdiff points ≡ None
not-alone points first rest e h = ap (chosen Setdiff) e ∙ ap (λ b. if not b then leftmost (first ∷ rest) else None) (any-there rest ∙ h)

counted : (points : List (Option (List Value))) → count_by (λ b. b) (map is_some points) ≡ count_by is_some points
counted [] = refl
counted (p ∷ ps) = sum_by-cons (λ b. cond b 1 0) (is_some p) (map is_some ps) ∙ ap (λ n. cond (is_some p) 1 0 + n) (counted ps) ∙ sym (sum_by-cons (λ o. cond (is_some o) 1 0) p ps)

just-one : (points : List (Option (List Value))) → count_by is_some points ≡ 1 → chosen Symdiff points ≡ leftmost points
just-one points h = ap (λ n. if nat_eq n 1 then leftmost points else None) (counted points ∙ h)

not-one : (points : List (Option (List Value))) → count_by is_some points ≢ 1 → chosen Symdiff points ≡ None
not-one points h =
    ap (λ n. if nat_eq n 1 then leftmost points else None) (counted points)
    ∙ by_test (nat_eq (count_by is_some points) 1) refl
  where
    by_test : (b : Bool) → nat_eq (count_by is_some points) 1 ≡ b → (if b then leftmost points else None) ≡ None
    by_test true e = absurd (h (eqb-true (count_by is_some points) 1 e))
    by_test false e = refl

-- ---- the result

module _ (s : SetOn) (sets : List DataSet) (y : DataSet) (typed : IsTypedSet s) where
  module _ (made : set_meaning s sets ≡ Made y) (key : List Value) (long : length key ≡ length (identifiers s.structure)) where
    pub there-is : get y key ≡ chosen s.operation (points_there s sets key)
    there-is = (set-result s sets y made).values key ∙ ap (chosen s.operation) (points-same s.structure key long s.operands (all-read s typed) sets)

    by_operation : (o : SetOperation) → s.operation ≡ o → get y key ≡ chosen o (points_there s sets key)
    by_operation o e = there-is ∙ ap (λ (p : SetOperation). chosen p (points_there s sets key)) e

  pub union-is : s.operation ≡ Union → set_meaning s sets ≡ Made y → (key : List Value) → length key ≡ length (identifiers s.structure) → get y key ≡ leftmost (points_there s sets key)
  union-is e made key long = by_operation made key long Union e

  pub intersect-all : s.operation ≡ Intersect → set_meaning s sets ≡ Made y → (key : List Value) → length key ≡ length (identifiers s.structure) → (first : Option (List Value)) (rest : List (Option (List Value))) → points_there s sets key ≡ first ∷ rest → list_all is_some (points_there s sets key) ≡ true → get y key ≡ first
  intersect-all e made key long first rest are all = by_operation made key long Intersect e ∙ with-all (points_there s sets key) first rest are all

  pub intersect-not-all : s.operation ≡ Intersect → set_meaning s sets ≡ Made y → (key : List Value) → length key ≡ length (identifiers s.structure) → list_all is_some (points_there s sets key) ≡ false → get y key ≡ None
  intersect-not-all e made key long all = by_operation made key long Intersect e ∙ without-all (points_there s sets key) all

  pub setdiff-alone : s.operation ≡ Setdiff → set_meaning s sets ≡ Made y → (key : List Value) → length key ≡ length (identifiers s.structure) → (first : Option (List Value)) (rest : List (Option (List Value))) → points_there s sets key ≡ first ∷ rest → list_any is_some rest ≡ false → get y key ≡ first
  setdiff-alone e made key long first rest are any = by_operation made key long Setdiff e ∙ alone (points_there s sets key) first rest are any

  pub setdiff-not-alone : s.operation ≡ Setdiff → set_meaning s sets ≡ Made y → (key : List Value) → length key ≡ length (identifiers s.structure) → (first : Option (List Value)) (rest : List (Option (List Value))) → points_there s sets key ≡ first ∷ rest → list_any is_some rest ≡ true → get y key ≡ None
  setdiff-not-alone e made key long first rest are any = by_operation made key long Setdiff e ∙ not-alone (points_there s sets key) first rest are any

  pub symdiff-one : s.operation ≡ Symdiff → set_meaning s sets ≡ Made y → (key : List Value) → length key ≡ length (identifiers s.structure) → count_by is_some (points_there s sets key) ≡ 1 → get y key ≡ leftmost (points_there s sets key)
  symdiff-one e made key long one = by_operation made key long Symdiff e ∙ just-one (points_there s sets key) one

  pub symdiff-not-one : s.operation ≡ Symdiff → set_meaning s sets ≡ Made y → (key : List Value) → length key ≡ length (identifiers s.structure) → count_by is_some (points_there s sets key) ≢ 1 → get y key ≡ None
  symdiff-not-one e made key long other = by_operation made key long Symdiff e ∙ not-one (points_there s sets key) other
