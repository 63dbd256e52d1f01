use Rattle.std.proofs.Common.{◌≡◌, List, [], ◌∷◌, map, length, Bool, true, false, Option, Some, None, refl, sym, ap, subst, ◌∙◌}
use Rattle.std.specs.Bool.{then_some}
use Rattle.std.specs.Option.{is_some}
use Rattle.std.specs.declared.alloc.Global.{Global}
use Rattle.std.specs.declared.sync.Arc.{Arc}
use Rattle.vtl_values.specs.declared.value.Value.{Value}
use Rattle.vtl_syntax.specs.declared.words.JoinFunction.{JoinFunction}
use Rattle.point_sets.specs.Changes.{values_of}
use Rattle.point_sets.specs.declared.point.Point.{Point}
use Rattle.operator_meaning.specs.joins.Joins.{JoinOn, key_components, stays, joined_values, joined_point}
use Rattle.join_eval.specs.Made.{AreAsMany, values_by}
use Rattle.join_eval.specs.Plans.{side_of, viral_places}
use Rattle.join_eval.specs.declared.virals.ViralPlaces.{ViralPlaces}
use Rattle.join_eval.proofs.Values.{values-numbered, as-many}
use Rattle.join_eval.proofs.plan.JoinPlan.joined.Goals as goal

-- a point is there where its values are
there : (points : List (Option (Arc Point Global))) → map is_some points ≡ map is_some (map values_of points)
there [] = refl
there (None ∷ ps) = ap (λ (bs : List Bool). false ∷ bs) (there ps)
there (Some p ∷ ps) = ap (λ (bs : List Bool). true ∷ bs) (there ps)

-- whether there is a point says whether the values are taken
point-is : (j : JoinOn) (f : JoinFunction) (points : List (Option (Arc Point Global))) (b : Bool) → f ≡ j.function → b ≡ stays f (map is_some points)
    → then_some b (joined_values j.operands (map values_of points)) ≡ joined_point j (map values_of points)
point-is j f points b same is =
    ap (λ c. then_some c (joined_values j.operands (map values_of points))) (is ∙ (λ k. stays (same k) (there points k)))

pub returns-then-not-stays-clause-value : goal.returns-then-not-stays-clause-value
returns-then-not-stays-clause-value c =
    point-is c.args.self.now c.self.inside.function c.args.points.now false (ap (λ (j : JoinOn). j.function) c.self.view_is) (sym c.if-not-stays.true ∙ c.stays.ensures)

pub joined_values-requires-clause-attributes : goal.joined_values-requires-clause-attributes
joined_values-requires-clause-attributes c =
    let j : JoinOn = c.args.self.now in
    let all : c.as_slice-attributes.result.now ≡ viral_places j.operands = c.as_slice-attributes.ensures ∙ c.self.invariant.virals_are ∙ ap (λ (i : JoinOn). viral_places i.operands) c.self.view_is in
    subst (λ (attributes : List ViralPlaces). AreAsMany (length c.args.points.now) attributes) (sym all)
    (subst (λ n. AreAsMany n (viral_places j.operands)) (sym c.requires) (as-many j.operands))

pub returns-clause-value : goal.returns-clause-value
returns-clause-value c =
    let j : JoinOn = c.args.self.now in
    let points : List (Option (List Value)) = map values_of c.args.points.now in
    let attributes : c.as_slice-attributes.result.now ≡ viral_places j.operands = c.as_slice-attributes.ensures ∙ c.self.invariant.virals_are ∙ ap (λ (i : JoinOn). viral_places i.operands) c.self.view_is in
    let sides : c.as_slice-sides.result.now ≡ map (side_of (key_components j) j.operands) j.operands = c.as_slice-sides.ensures ∙ c.self.invariant.sides_are ∙ ap (λ (i : JoinOn). map (side_of (key_components i) i.operands) i.operands) c.self.view_is in
    let values : c.in_ok-joined_values.field-0 ≡ joined_values j.operands points = c.in_ok-joined_values.ensures ∙ (λ k. values_by (sides k) (attributes k) points) ∙ sym (values-numbered (key_components j) j.operands points) in
    ap Some (ap (λ (p : Point). p.rest) c.in_ok-new.ensures.ok ∙ values)
    ∙ point-is j c.self.inside.function c.args.points.now true (ap (λ (i : JoinOn). i.function) c.self.view_is) (sym c.if-not-stays.false ∙ c.stays.ensures)
