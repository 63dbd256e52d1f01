use Rattle.std.proofs.Common.{◌≡◌, true, sym, subst, ◌∙◌, List}
use Rattle.vtl_values.specs.declared.structure.Component.{Component}
use Rattle.vtl_values.specs.Structures.{IsStructure}
use Rattle.data_set_trees.specs.Components.{names_differ}
use Rattle.data_set_trees.specs.Pairs.{joined}
use Rattle.data_set_parts.proofs.Fits.{joined_is}
use Rattle.data_set_typing.proofs.pairs.joined_structure.Goals as goal

pub fitting-requires : goal.fitting-requires
fitting-requires c =
    let items = c.args.items.now in
    let s = c.args.structure.now in
    let t = c.args.other.now in
    let all : c.as_slice.result.now ≡ joined items s t = c.as_slice.ensures ∙ c.in_ok-all.ensures ∙ (λ i. joined items (c.components.ensures.value i) (c.components-2.ensures.value i)) in
    subst (λ (cs : List Component). names_differ cs ≡ true → IsStructure cs) (sym all) (joined_is items s t c.components.ensures.structure c.components-2.ensures.structure)
