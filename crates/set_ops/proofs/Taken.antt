-- Which of the operands' points is taken.
use Rattle.std.proofs.Common.{◌≡◌, ℕ, ◌+◌, ◌<◌, ◌≤◌, List, [], ◌∷◌, map, length, get_or, drop, true, false, not, if◌then◌else◌, Option, Some, None, option_map, refl, sym, ap, ◌∙◌, add-one, arith}
use Rattle.std.specs.Option.{is_some, option_or}
use Rattle.std.specs.List.{list_any, list_all}
use Rattle.std.specs.declared.alloc.Global.{Global}
use Rattle.std.specs.declared.sync.Arc.{Arc}
use Rattle.std.proofs.Math.ListN.{drop_of_length-le}
use Rattle.std.proofs.Math.Seq.{drop-cons}
use Rattle.std.proofs.lemmas.List.{get_or_default}
use Rattle.std.proofs.lemmas.List.Folds.{list_all-map}
use Rattle.vtl_values.specs.declared.value.Value.{Value}
use Rattle.data_model.specs.Maps.{leftmost}
use Rattle.point_sets.specs.Changes.{values_of}
use Rattle.point_sets.specs.declared.point.Point.{Point}
use Rattle.clause_meaning.specs.Clauses.{values_at}
use Rattle.data_set_trees.specs.declared.tree.SetOperation.{SetOperation}
use Rattle.data_set_trees.specs.declared.tree.SetOperation.TheVariants.{Intersect, Setdiff}
use Rattle.operator_meaning.specs.sets.Sets.{stays, chosen}
use Rattle.set_ops.specs.Readings.{in_order}
use Rattle.set_ops.specs.declared.reading.Reading.{Reading}

-- ---- which stay

pub all-stay : {A : Type 0} (points : List (Option A)) → list_all is_some points ≡ stays Intersect (map is_some points)
all-stay points = sym (list_all-map (λ b. b) is_some points)

any-mapped : {A : Type 0} (points : List (Option A)) → list_any is_some points ≡ list_any (λ b. b) (map is_some points)
any-mapped [] = refl
any-mapped (None ∷ ps) = any-mapped ps
any-mapped (Some p ∷ ps) = refl

pub first-stays : {A : Type 0} (points : List (Option A)) (first : Option A) (others : List (Option A)) → points ≡ first ∷ others → not (list_any is_some others) ≡ stays Setdiff (map is_some points)
first-stays {A = A} points first others e = ap not (any-mapped others) ∙ sym (ap (λ (ps : List (Option A)). stays Setdiff (map is_some ps)) e)

-- ---- the leftmost one

abbrev Points : Type 0
Points = List (Option (Arc Point Global))

-- the leftmost of those from a place on
abbrev pub leftmost_from : List Reading → Points → ℕ → Option (List Value)
leftmost_from rs ps i = leftmost (in_order (drop i rs) (map values_of (drop i ps)))

pub leftmost-at : (rs : List Reading) (ps : Points) (i : ℕ) (r : Reading) (p : Option (Arc Point Global)) → i < length rs → i < length ps → r ≡ get_or rs i r → p ≡ get_or ps i p → leftmost_from rs ps i ≡ option_or (option_map (values_at r.rest) (values_of p)) (leftmost_from rs ps (i + 1))
leftmost-at rs ps i r p within inside at own =
    let first : drop i rs ≡ r ∷ drop (i + 1) rs = drop-cons rs i r within ∙ (λ j. sym at j ∷ drop (sym (add-one i) j) rs) in
    let second : drop i ps ≡ p ∷ drop (i + 1) ps = drop-cons ps i p inside ∙ (λ j. sym own j ∷ drop (sym (add-one i) j) ps) in
    λ j. leftmost (in_order (first j) (map values_of (second j)))

-- one that isn't there is passed
pub leftmost-later : (rs : List Reading) (ps : Points) (i : ℕ) (p : Option (Arc Point Global)) → length ps ≡ length rs → i < length ps → p ≡ get_or ps i p → p ≡ None → leftmost_from rs ps i ≡ leftmost_from rs ps (i + 1)
leftmost-later [] ps i p long inside own none = absurd (omega (arith, long, inside))
leftmost-later (s ∷ rs) ps i p long inside own none =
    let r : Reading = get_or (s ∷ rs) i s in
    let all = s ∷ rs in
    leftmost-at all ps i r p (omega (arith, long, inside)) inside (get_or_default all i s r (omega (arith, long, inside))) own
    ∙ ap (λ (o : Option (Arc Point Global)). option_or (option_map (values_at r.rest) (values_of o)) (leftmost_from all ps (i + 1))) none

pub leftmost-here : (rs : List Reading) (ps : Points) (i : ℕ) (r : Reading) (p : Option (Arc Point Global)) (point : Arc Point Global) → length ps ≡ length rs → i < length ps → r ≡ get_or rs i r → p ≡ get_or ps i p → p ≡ Some point → leftmost_from rs ps i ≡ option_map (values_at r.rest) (values_of (Some point))
leftmost-here rs ps i r p point long inside at own is =
    leftmost-at rs ps i r p (omega (arith, long, inside)) inside at own
    ∙ ap (λ (o : Option (Arc Point Global)). option_or (option_map (values_at r.rest) (values_of o)) (leftmost_from rs ps (i + 1))) is

pub leftmost-none : (rs : List Reading) (ps : Points) (i : ℕ) → length ps ≡ length rs → length ps ≤ i → leftmost_from rs ps i ≡ None
leftmost-none rs ps i long past =
    let first : drop i rs ≡ [] = drop_of_length-le rs (omega (arith, long, past)) in
    ap (λ (qs : List Reading). leftmost (in_order qs (map values_of (drop i ps)))) first

-- ---- the point that is chosen

there-same : (rs : List Reading) (ps : Points) → length ps ≡ length rs → map is_some (in_order rs (map values_of ps)) ≡ map is_some ps
there-same [] [] long = refl
there-same [] (p ∷ ps) long = absurd (omega (arith, long))
there-same (r ∷ rs) [] long = absurd (omega (arith, long))
there-same (r ∷ rs) (p ∷ ps) long = λ i. one p i ∷ there-same rs ps (omega (arith, long)) i
  where
    one : (o : Option (Arc Point Global)) → is_some (option_map (values_at r.rest) (values_of o)) ≡ is_some o
    one None = refl
    one (Some q) = refl

module _ (o : SetOperation) (rs : List Reading) (ps : Points) (long : length ps ≡ length rs) where
  pub chosen-stays : stays o (map is_some ps) ≡ true → chosen o (in_order rs (map values_of ps)) ≡ leftmost (in_order rs (map values_of ps))
  chosen-stays h = ap (λ b. if b then leftmost (in_order rs (map values_of ps)) else None) (ap (stays o) (there-same rs ps long) ∙ h)

  pub chosen-goes : stays o (map is_some ps) ≡ false → chosen o (in_order rs (map values_of ps)) ≡ None
  chosen-goes h = ap (λ b. if b then leftmost (in_order rs (map values_of ps)) else None) (ap (stays o) (there-same rs ps long) ∙ h)
