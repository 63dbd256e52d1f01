use Rattle.std.proofs.Common.{◌≡◌, true, List, map, get_or, sym, subst, ◌∙◌}
use Rattle.std.specs.List.{All}
use Rattle.std.proofs.lemmas.List.Elements.{All-map}
use Rattle.vtl_values.specs.declared.kind.Role.TheVariants.{Measure}
use Rattle.vtl_values.specs.declared.structure.Component.{Component}
use Rattle.vtl_values.specs.Structures.{IsStructure}
use Rattle.data_set_trees.specs.declared.tree.ChoiceMeasure.{ChoiceMeasure}
use Rattle.data_set_trees.specs.Components.{names_differ}
use Rattle.data_set_parts.specs.Joins.{IsOf, by_parts}
use Rattle.data_set_parts.proofs.Fits.{measure_made, parts_are}
use Rattle.set_typing.specs.Conditionals.{item_component, components_with}
use Rattle.set_typing.proofs.Plans.{fits_ok, fits_err}
use Rattle.set_typing.proofs.results.structure_with.Goals as goal

items_made : (items : List ChoiceMeasure) → All (IsOf Measure) (map item_component items)
items_made items = All-map (IsOf Measure) item_component items (λ k d within. measure_made (get_or items k d).kind (get_or items k d).name)

pub fitting-requires : goal.fitting-requires
fitting-requires c =
    let ids = c.in_ok-staying.staying in
    let ms = c.in_ok-measures.measures in
    let vs = c.in_ok-attributes.attributes in
    let all : c.as_slice-2.result.now ≡ by_parts ids ms vs = c.as_slice-2.ensures ∙ c.in_ok-all.ensures ∙ (λ i. by_parts (c.as_slice.ensures i) ms vs) in
    subst (λ (cs : List Component). names_differ cs ≡ true → IsStructure cs) (sym all)
    (parts_are ids ms vs c.in_ok-staying.ensures.sound (subst (All (IsOf Measure)) (sym c.in_ok-measures.ensures) (items_made c.args.items.now)) c.in_ok-attributes.ensures.sound)

pub returns-clause-ok : goal.returns-clause-ok
returns-clause-ok c =
    let meant = components_with c.args.items.now c.args.structures.now in
    let all : c.as_slice-2.result.now ≡ meant = c.as_slice-2.ensures ∙ c.in_ok-all.ensures ∙ (λ i. by_parts ((c.as_slice.ensures ∙ c.in_ok-staying.ensures.value) i) (c.in_ok-measures.ensures i) (c.in_ok-attributes.ensures.value i)) in
    fits_ok c.args.place c.as_slice-2.result.now meant c.fitting.result all c.fitting.ensures.fits c.fitting.ensures.ok

pub returns-clause-err : goal.returns-clause-err
returns-clause-err c =
    let meant = components_with c.args.items.now c.args.structures.now in
    let all : c.as_slice-2.result.now ≡ meant = c.as_slice-2.ensures ∙ c.in_ok-all.ensures ∙ (λ i. by_parts ((c.as_slice.ensures ∙ c.in_ok-staying.ensures.value) i) (c.in_ok-measures.ensures i) (c.in_ok-attributes.ensures.value i)) in
    fits_err c.args.place c.as_slice-2.result.now meant c.fitting.result all c.fitting.ensures.err
