use Rattle.std.proofs.Common.{sym, ◌∙◌}
use Rattle.held_index.specs.Walks.{point_values}
use Rattle.held_index.proofs.Compared.{parts_decided}
use Rattle.held_index.proofs.place.compare_parts.Goals as goal

pub returns-then-is_ne : goal.returns-then-is_ne
returns-then-is_ne c =
    parts_decided (point_values c.args.one.now) (point_values c.args.other.now) c.args.components.now c.loop-component.component-index 0 c.compare_component-by_component.result c.loop-component-test.true c.compare_component-by_component.ensures (sym c.is_ne.ensures ∙ c.if-is_ne.true) c.loop-component.invariant
