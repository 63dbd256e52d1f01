use Rattle.std.proofs.Common.{◌+◌, Option, ap, ◌∙◌}
use Rattle.std.proofs.Math.Path.{ap₂}
use Rattle.vtl_values.specs.declared.place.Place.{Place}
use Rattle.shortest_cycles.specs.Firsts.{or_else}
use Rattle.written_sizes.specs.declared.measure.Measure.TheVariants as measure
use Rattle.written_sizes.specs.declared.outermost.Calls.{Calls}
use Rattle.written_sizes.specs.Arithmetic.{capped}
use Rattle.written_sizes.specs.Outermost.{calls_in, outside_in}
use Rattle.written_sizes.specs.SizeFaults.{place_at, merged, passing, full_number, expressions_in}
use Rattle.written_sizes.proofs.Telling.{passing_place}
use Rattle.written_sizes.proofs.faults.many_place.Goals as goal

pub returns-in-Some : goal.returns-in-Some
returns-in-Some c =
    let os = c.args.operators.now in
    let s = c.args.sketch.now in
    ap (λ (p : Option Place). or_else p (place_at c.args.places.now (full_number 0 0 (expressions_in os s))))
    (c.in-Some.ensures
    ∙ ap₂ passing
    (c.add-outside.ensures ∙ ap₂ (λ (x y : Calls). capped measure.Expressions (x.outside + y.outside)) c.requires.statements c.requires.rulesets)
    (c.as_slice-3.ensures ∙ c.in_ok-calls.ensures ∙ ap₂ merged (c.as_slice.ensures ∙ ap (λ (x : Calls). x.calls) c.requires.statements) (c.as_slice-2.ensures ∙ ap (λ (x : Calls). x.calls) c.requires.rulesets))
    ∙ passing_place (calls_in os 0 s.statements) (calls_in os 0 s.rulesets) (outside_in os s.statements) (outside_in os s.rulesets))

pub returns : goal.returns
returns c =
    let os = c.args.operators.now in
    let s = c.args.sketch.now in
    c.place_at.ensures ∙ ap (place_at c.args.places.now) c.in_ok-number-in-None.ensures
    ∙ ap (λ (p : Option Place). or_else p (place_at c.args.places.now (full_number 0 0 (expressions_in os s))))
    (c.in-None.ensures
    ∙ ap₂ passing
    (c.add-outside.ensures ∙ ap₂ (λ (x y : Calls). capped measure.Expressions (x.outside + y.outside)) c.requires.statements c.requires.rulesets)
    (c.as_slice-3.ensures ∙ c.in_ok-calls.ensures ∙ ap₂ merged (c.as_slice.ensures ∙ ap (λ (x : Calls). x.calls) c.requires.statements) (c.as_slice-2.ensures ∙ ap (λ (x : Calls). x.calls) c.requires.rulesets))
    ∙ passing_place (calls_in os 0 s.statements) (calls_in os 0 s.rulesets) (outside_in os s.statements) (outside_in os s.rulesets))
