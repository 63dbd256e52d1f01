use Rattle.std.proofs.Common.{◌≡◌, ◌<◌, ◌≤◌, ◌+◌, List, ℕ, map, length, get_or, drop, Option, None, sym, ap, ◌∙◌, arith}
use Rattle.std.specs.Prelude.{unwrap_or}
use Rattle.std.specs.Option.{option_copied}
use Rattle.std.proofs.Math.ListN.{drop_of_length-le, get_or-map}
use Rattle.std.proofs.lemmas.List.{length-map, get_or_default}
use Rattle.std.proofs.lemmas.Result.{IfOk-weaker}
use Rattle.vtl_values.specs.declared.value.Value.{Value}
use Rattle.vtl_values.specs.declared.value.Value.TheVariants.{Null}
use Rattle.point_sets.specs.Changes.{values_of}
use Rattle.operator_meaning.specs.pairs.Pairs.{codes_of}
use Rattle.join_eval.specs.Made.{value_there, higher, combined_value}
use Rattle.join_eval.specs.declared.virals.ViralPlaces.{ViralPlaces}
use Rattle.join_eval.proofs.Values.{best_from, best-combined, best-more}
use Rattle.join_eval.proofs.virals.combined.Goals as goal

-- where no value is left the best is what all combine to
best-is : (attribute : ViralPlaces) (points : List (Option (List Value))) (best : Value) (i : ℕ) → length attribute.places ≤ i
    → best_from (codes_of attribute.codes) Null attribute.places points ≡ best_from (codes_of attribute.codes) best (drop i attribute.places) (drop i points) → best ≡ combined_value points attribute
best-is attribute points best i past h =
    sym (sym (best-combined points attribute) ∙ h ∙ ap (λ (ps : List (Option ℕ)). best_from (codes_of attribute.codes) best ps (drop i points)) (drop_of_length-le attribute.places past))

pub loop-i-preserved : goal.loop-i-preserved
loop-i-preserved c =
    let attribute : ViralPlaces = c.args.attribute.now in
    let codes = codes_of attribute.codes in
    let places : List (Option ℕ) = attribute.places in
    let points : List (Option (List Value)) = map values_of c.args.points.now in
    let i = c.loop-i.i in
    let p = c.index-points-i.result in
    let items : c.as_slice-place-items.result.now ≡ places = c.as_slice-place-items.ensures in
    let long = ap length items in
    let test = c.loop-i-test.true in
    let within : i < length places = omega (arith, test, long) in
    let same = length-map c.args.points.now values_of in
    let many = c.requires in
    let inside : i < length points = omega (arith, within, same, many) in
    let place : Option ℕ = get_or c.as_slice-place-items.result.now i None in
    let best : Value = unwrap_or (option_copied c.loop-i.best) Null in
    let at : place ≡ get_or places i place = ap (λ (ps : List (Option ℕ)). get_or ps i None) items ∙ get_or_default places i None place within in
    let own : values_of p ≡ get_or points i (values_of p) = sym (get_or-map values_of c.args.points.now i p ∙ ap values_of (sym c.index-points-i.is)) in
    let chosen : unwrap_or (option_copied c.higher-best.result) Null ≡ higher codes best (unwrap_or (value_there place (values_of p)) Null) = c.higher-best.ensures ∙ (λ k. higher (c.listed-codes.ensures k) best (unwrap_or (c.value_there.ensures k) Null)) in
    c.loop-i.invariant ∙ best-more codes best places points i place (values_of p) within inside at own
    ∙ ap (λ (b : Value). best_from codes b (drop (i + 1) places) (drop (i + 1) points)) (sym chosen)

pub returns-in-Some : goal.returns-in-Some
returns-in-Some c =
    let best = unwrap_or (option_copied c.loop-i.best) Null in
    let long = ap length c.as_slice-place-items.ensures in
    let past = c.loop-i-test.false in
    let all : best ≡ combined_value (map values_of c.args.points.now) c.args.attribute.now = best-is c.args.attribute.now (map values_of c.args.points.now) best c.loop-i.i (omega (arith, long, past)) c.loop-i.invariant in
    let is : c.in-Some.value.now ≡ best = ap (λ o. unwrap_or (option_copied o) Null) (sym c.in-Some.is) in
    IfOk-weaker c.copy.result _ _ (λ value h. h ∙ is ∙ all) c.copy.ensures

pub returns-in-None : goal.returns-in-None
returns-in-None c =
    let best = unwrap_or (option_copied c.loop-i.best) Null in
    let long = ap length c.as_slice-place-items.ensures in
    let past = c.loop-i-test.false in
    let all : best ≡ combined_value (map values_of c.args.points.now) c.args.attribute.now = best-is c.args.attribute.now (map values_of c.args.points.now) best c.loop-i.i (omega (arith, long, past)) c.loop-i.invariant in
    ap (λ o. unwrap_or (option_copied o) Null) (sym c.in-None.is) ∙ all
