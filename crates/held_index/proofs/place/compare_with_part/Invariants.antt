use Rattle.std.proofs.Common.{◌≡◌, drop}
use Rattle.vtl_values.specs.Order.{key_cmp}
use Rattle.held_index.specs.Walks.{part_key, point_values}
use Rattle.held_index.proofs.place.compare_with_part.Given as goal

abbrev pub invariant-loop-component : goal.invariant-loop-component
invariant-loop-component l =
    key_cmp (part_key (drop l.component-index l.components) (point_values l.point)) l.rest
    ≡ key_cmp (part_key l.components (point_values l.point)) l.part
