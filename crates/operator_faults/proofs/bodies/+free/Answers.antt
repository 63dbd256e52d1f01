use Rattle.std.proofs.Common.{◌≡◌, ◌+◌, Bool, List, Option, Some, None, drop, get_or, ap, sym, ◌∙◌}
use Rattle.std.specs.Prelude.{find}
use Rattle.std.specs.List.{flat_map}
use Rattle.std.specs.Option.{option_copied, option_to_list}
use Rattle.operator_faults.specs.declared.outline.Outline.{Outline, out-Outline}
use Rattle.operator_faults.specs.declared.outline.Site.{Site}
use Rattle.shortest_cycles.specs.Firsts.{or_else}
use Rattle.operator_faults.specs.Bodies.{is_free, own_name, data_parts, data_names}
use Rattle.operator_faults.proofs.Finds.{find-drop, find-data_names}
use Rattle.operator_faults.proofs.bodies.+free.Goals as goal

pub first_free-returns-in-Some : goal.first_free-returns-in-Some
first_free-returns-in-Some t c =
    let p : Site → Bool = is_free c.args.params.now in
    let xs = c.args.outlines.now in
    let i = c.loop-outline.outline-index in
    let x = c.outline-item.result in
    let here : find p (data_names (get_or xs i x)) ≡ Some c.in-Some.site.now = ap (λ (y : Outline). find p (data_names y)) (sym c.outline-item.is) ∙ sym c.in-Some.ensures in
    sym (c.loop-outline.invariant ∙ find-drop p data_names xs i x c.loop-outline-test.true ∙ ap (λ (o : Option Site). or_else o (find p (flat_map data_names (drop (i + 1) xs)))) here)

pub first_free-loop-outline-preserved : goal.first_free-loop-outline-preserved
first_free-loop-outline-preserved t c =
    let p : Site → Bool = is_free c.args.params.now in
    let xs = c.args.outlines.now in
    let i = c.loop-outline.outline-index in
    let x = c.outline-item.result in
    let here : find p (data_names (get_or xs i x)) ≡ None = ap (λ (y : Outline). find p (data_names y)) (sym c.outline-item.is) ∙ sym c.in_default.ensures in
    c.loop-outline.invariant ∙ find-drop p data_names xs i x c.loop-outline-test.true ∙ ap (λ (o : Option Site). or_else o (find p (flat_map data_names (drop (i + 1) xs)))) here

pub free_name-returns-in-None : goal.free_name-returns-in-None
free_name-returns-in-None t c =
    let p : Site → Bool = is_free c.args.params.now in
    let o = c.args.outline.now in
    let none : find p (option_to_list (own_name (out-Outline o).what)) ≡ None = sym c.own_free.ensures ∙ ap option_copied c.in-None.is in
    c.first_free.ensures
    ∙ ap (λ (os : List Outline). find p (flat_map data_names os)) c.data_parts.ensures
    ∙ sym (find-data_names p o ∙ ap (λ (q : Option Site). or_else q (find p (flat_map data_names (data_parts o)))) none)
