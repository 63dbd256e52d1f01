use Rattle.std.proofs.Common.{◌≡◌, List, map, ap, sym, subst, ◌∙◌}
use Rattle.vtl_values.specs.Structures.{IsStructure}
use Rattle.vtl_values.specs.declared.structure.Component.{Component}
use Rattle.data_set_trees.specs.clauses.Frames.{frame_of}
use Rattle.data_set_trees.specs.clauses.After.{after}
use Rattle.data_set_trees.specs.Components.{unlisted}
use Rattle.data_set_parts.specs.Results.{structure_after}
use Rattle.data_set_parts.proofs.clauses.structure_after.Goals as goal

pub of-requires : goal.of-requires
of-requires c =
    let clause = c.args.clause.now in
    let s = c.args.structure.now in
    let left : c.in_ok-after.after ≡ (after clause (frame_of s)).components = c.in_ok-after.ensures ∙ ap (λ (cs : List Component). (after clause (frame_of cs)).components) c.components.ensures.value in
    let list : c.in_ok-list.list.items ≡ structure_after clause s = c.in_ok-list.ensures ∙ ap (map unlisted) (c.as_slice.ensures ∙ left) in
    subst IsStructure (sym list) c.requires
