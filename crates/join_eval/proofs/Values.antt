-- The values of a point of the join, by the numbers that its plan keeps.
use Rattle.std.proofs.Common.{◌≡◌, ℕ, ◌+◌, ◌<◌, List, [], ◌∷◌, ◌++◌, map, length, get_or, drop, Option, Some, None, nat_lt, ◌&&◌, refl, sym, ap, ◌∙◌, append_assoc, add-one, cond, arith}
use Rattle.std.specs.Prelude.{zip, filter_map, option_and_then, unwrap_or, fold}
use Rattle.std.specs.List.{cons_option, flat_map}
use Rattle.std.specs.declared.alloc.Global.{Global}
use Rattle.std.specs.declared.sync.Arc.{Arc}
use Rattle.std.proofs.Math.Seq.{drop-cons}
use Rattle.std.proofs.lemmas.Bool.Decides.{nat_tests}
use Rattle.std.proofs.lemmas.List.{length-map}
use Rattle.std.proofs.lemmas.List.Elements.{All-nil, All-cons}
use Rattle.vtl_values.specs.declared.kind.Role.TheVariants.{Viral}
use Rattle.vtl_values.specs.declared.structure.Component.{Component}
use Rattle.vtl_values.specs.declared.value.Value.{Value}
use Rattle.vtl_values.specs.declared.value.Value.TheVariants.{Null}
use Rattle.point_sets.specs.Changes.{values_of}
use Rattle.point_sets.specs.declared.point.Point.{Point}
use Rattle.structured_sets.specs.Fitting.{others}
use Rattle.viral_attributes.specs.Combination.{rank, combined}
use Rattle.viral_attributes.proofs.Highest.{combined-fold}
use Rattle.data_set_trees.specs.clauses.Frames.{has_role}
use Rattle.data_set_trees.specs.Components.{has_name, virals}
use Rattle.data_set_trees.specs.Joins.{gathered}
use Rattle.operator_meaning.specs.pairs.Pairs.{codes_of, viral_value}
use Rattle.pair_eval.specs.Plans.{viral_called}
use Rattle.pair_eval.proofs.Places.{value-placed}
use Rattle.operator_meaning.specs.joins.Joins.{measure_values, values_called, joined_values}
use Rattle.join_eval.specs.Made.{measures_there, value_there, higher, combined_value, AreAsMany, values_by}
use Rattle.join_eval.specs.Plans.{side_of, viral_places_of, viral_places}
use Rattle.join_eval.specs.declared.sides.Side.{Side}
use Rattle.join_eval.specs.declared.virals.ViralPlaces.{ViralPlaces}

abbrev Points : Type 0
Points = List (Option (List Value))

-- ---- the best value

-- the best of this value and of those that are there; one that isn't there counts as null
abbrev pub best_from : List (List ℕ) → Value → List (Option ℕ) → Points → Value
best_from codes best [] points = best
best_from codes best (place ∷ places) [] = best
best_from codes best (place ∷ places) (p ∷ ps) = best_from codes (higher codes best (unwrap_or (value_there place p) Null)) places ps

-- null is no better
null-lower : (codes : List (List ℕ)) (best : Value) → higher codes best Null ≡ best
null-lower codes best = let off : nat_lt (rank codes best) 0 ≡ nat_lt (rank codes best) 0 = refl in let low : nat_lt (rank codes best) 0 ≡ nat_lt 1 0 = grind (arith, nat_tests) in ap (λ b. cond b Null best) low

best-folded : (codes : List (List ℕ)) (best : Value) (places : List (Option ℕ)) (points : Points) → best_from codes best places points ≡ fold (higher codes) best (filter_map (λ q. value_there q.0 q.1) (zip places points))
best-folded codes best [] points = refl
best-folded codes best (place ∷ places) [] = refl
best-folded codes best (place ∷ places) (p ∷ ps) = by_value (value_there place p) (λ b. best-folded codes b places ps)
  where
    rest : List Value
    rest = filter_map (λ q. value_there q.0 q.1) (zip places ps)

    by_value : (v : Option Value) → ((b : Value) → best_from codes b places ps ≡ fold (higher codes) b rest) → best_from codes (higher codes best (unwrap_or v Null)) places ps ≡ fold (higher codes) best (cons_option v rest)
    by_value None each = ap (λ b. best_from codes b places ps) (null-lower codes best) ∙ each best
    by_value (Some v) each = each (higher codes best v)

-- from null on it is what all combine to
pub best-combined : (points : Points) (attribute : ViralPlaces) → best_from (codes_of attribute.codes) Null attribute.places points ≡ combined_value points attribute
best-combined points attribute =
    best-folded (codes_of attribute.codes) Null attribute.places points
    ∙ sym (combined-fold (codes_of attribute.codes) (filter_map (λ q. value_there q.0 q.1) (zip attribute.places points)))

-- one value more
pub best-more : (codes : List (List ℕ)) (best : Value) (places : List (Option ℕ)) (points : Points) (i : ℕ) (place : Option ℕ) (p : Option (List Value)) → i < length places → i < length points → place ≡ get_or places i place → p ≡ get_or points i p
    → best_from codes best (drop i places) (drop i points) ≡ best_from codes (higher codes best (unwrap_or (value_there place p) Null)) (drop (i + 1) places) (drop (i + 1) points)
best-more codes best places points i place p within inside at own =
    let first : drop i places ≡ place ∷ drop (i + 1) places = drop-cons places i place within ∙ (λ j. sym at j ∷ drop (sym (add-one i) j) places) in
    let second : drop i points ≡ p ∷ drop (i + 1) points = drop-cons points i p inside ∙ (λ j. sym own j ∷ drop (sym (add-one i) j) points) in
    λ j. best_from codes best (first j) (second j)

-- ---- measures

abbrev pub all_measures : List Side → Points → List Value
all_measures sides points = flat_map (λ q. measures_there q.0 q.1) (zip sides points)

-- those of one operand more
pub measures-more : (sides : List Side) (ps : List (Option (Arc Point Global))) (i : ℕ) (side : Side) (p : Option (Arc Point Global)) (done new : List Value) → i < length sides → i < length ps → side ≡ get_or sides i side → p ≡ get_or ps i p
    → new ≡ done ++ measures_there side (values_of p) → all_measures sides (map values_of ps) ≡ done ++ all_measures (drop i sides) (map values_of (drop i ps))
    → all_measures sides (map values_of ps) ≡ new ++ all_measures (drop (i + 1) sides) (map values_of (drop (i + 1) ps))
measures-more sides ps i side p done new within inside at own is h =
    let rest = all_measures (drop (i + 1) sides) (map values_of (drop (i + 1) ps)) in
    let first : drop i sides ≡ side ∷ drop (i + 1) sides = drop-cons sides i side within ∙ (λ j. sym at j ∷ drop (sym (add-one i) j) sides) in
    let second : drop i ps ≡ p ∷ drop (i + 1) ps = drop-cons ps i p inside ∙ (λ j. sym own j ∷ drop (sym (add-one i) j) ps) in
    h ∙ (λ j. done ++ all_measures (first j) (map values_of (second j)))
    ∙ sym (append_assoc done (measures_there side (values_of p)) rest)
    ∙ ap (λ (vs : List Value). vs ++ rest) (sym is)

-- ---- all values

module _ (keys : List Component) (all : List (List Component)) where
  one-measured : (s : List Component) (p : Option (List Value)) → measure_values s p ≡ measures_there (side_of keys all s) p
  one-measured s None = refl
  one-measured s (Some rest) = refl

  measured : (operands : List (List Component)) (points : Points) → flat_map (λ (q : List Component × Option (List Value)). measure_values q.0 q.1) (zip operands points) ≡ all_measures (map (side_of keys all) operands) points
  measured [] points = refl
  measured (s ∷ ss) [] = refl
  measured (s ∷ ss) (p ∷ ps) = λ i. one-measured s p i ++ measured ss ps i

one-called : (name : List ℕ) (s : List Component) (p : Option (List Value)) → option_and_then (viral_value name (others s)) p ≡ value_there (viral_called name (others s)) p
one-called name s None = refl
one-called name s (Some rest) = value-placed (λ c. has_role Viral c && has_name name c) (others s) rest

called : (name : List ℕ) (operands : List (List Component)) (points : Points) → values_called name operands points ≡ filter_map (λ (q : Option ℕ × Option (List Value)). value_there q.0 q.1) (zip (map (viral_called name) (map others operands)) points)
called name [] points = refl
called name (s ∷ ss) [] = refl
called name (s ∷ ss) (p ∷ ps) = λ i. cons_option (one-called name s p i) (called name ss ps i)

combined-all : (operands : List (List Component)) (points : Points) (cs : List Component) → map (λ (c : Component). combined (codes_of c.codes) (values_called c.name operands points)) cs ≡ map (combined_value points) (map (viral_places_of (map others operands)) cs)
combined-all operands points [] = refl
combined-all operands points (c ∷ cs) = λ i. combined (codes_of c.codes) (called c.name operands points i) ∷ combined-all operands points cs i

-- the values of the join are those by the numbers that the plan keeps
pub values-numbered : (keys : List Component) (operands : List (List Component)) (points : Points) → joined_values operands points ≡ values_by (map (side_of keys operands) operands) (viral_places operands) points
values-numbered keys operands points =
    λ i. measured keys operands operands points i ++ combined-all operands points (gathered [] (map virals operands)) i

-- ---- as many as operands

as-many-of : (operands : List (List Component)) (cs : List Component) → AreAsMany (length operands) (map (viral_places_of (map others operands)) cs)
as-many-of operands [] = All-nil (λ (a : ViralPlaces). length operands ≡ length a.places)
as-many-of operands (c ∷ cs) =
    All-cons (λ (a : ViralPlaces). length operands ≡ length a.places) (viral_places_of (map others operands) c) (map (viral_places_of (map others operands)) cs)
    (sym (length-map (map others operands) (viral_called c.name) ∙ length-map operands others)) (as-many-of operands cs)

pub as-many : (operands : List (List Component)) → AreAsMany (length operands) (viral_places operands)
as-many operands = as-many-of operands (gathered [] (map virals operands))
