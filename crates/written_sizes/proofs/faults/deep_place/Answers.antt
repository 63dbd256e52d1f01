use Rattle.std.proofs.Common.{Option, Some, None, ap, ◌∙◌}
use Rattle.vtl_values.specs.declared.place.Place.{Place}
use Rattle.shortest_cycles.specs.Firsts.{or_else}
use Rattle.written_sizes.specs.declared.outermost.Calls.{Calls}
use Rattle.written_sizes.specs.Outermost.{calls_in}
use Rattle.written_sizes.specs.SizeFaults.{place_at, deep_number, levels_in}
use Rattle.written_sizes.proofs.Telling.{deep-place}
use Rattle.written_sizes.proofs.faults.deep_place.Goals as goal

pub returns-in-Some : goal.returns-in-Some
returns-in-Some c =
    let os = c.args.operators.now in
    let s = c.args.sketch.now in
    ap (λ (p : Option Place). or_else p (place_at c.args.places.now (deep_number 0 (levels_in os s))))
    (deep-place (calls_in os 0 s.statements) (calls_in os 0 s.rulesets) c.as_slice.result.now c.as_slice-2.result.now c.first_deep-first.result c.first_deep-second.result (Some c.in-Some.call)
    (c.as_slice.ensures ∙ ap (λ (x : Calls). x.calls) c.requires.statements) (c.as_slice-2.ensures ∙ ap (λ (x : Calls). x.calls) c.requires.rulesets) c.first_deep-first.ensures c.first_deep-second.ensures c.in-Some.ensures)

pub returns-in_ok-number-in-None : goal.returns-in_ok-number-in-None
returns-in_ok-number-in-None c =
    let os = c.args.operators.now in
    let s = c.args.sketch.now in
    c.place_at.ensures ∙ ap (place_at c.args.places.now) c.in_ok-number-in-None.ensures
    ∙ ap (λ (p : Option Place). or_else p (place_at c.args.places.now (deep_number 0 (levels_in os s))))
    (deep-place (calls_in os 0 s.statements) (calls_in os 0 s.rulesets) c.as_slice.result.now c.as_slice-2.result.now c.first_deep-first.result c.first_deep-second.result None
    (c.as_slice.ensures ∙ ap (λ (x : Calls). x.calls) c.requires.statements) (c.as_slice-2.ensures ∙ ap (λ (x : Calls). x.calls) c.requires.rulesets) c.first_deep-first.ensures c.first_deep-second.ensures c.in-None.ensures)
