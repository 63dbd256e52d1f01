use Rattle.std.proofs.Common.{sym, ◌∙◌}
use Rattle.held_index.specs.Walks.{point_values}
use Rattle.held_index.proofs.Compared.{part_longer, part_decided, part_goes_on}
use Rattle.held_index.proofs.place.compare_with_part.Goals as goal

pub returns-in_default : goal.returns-in_default
returns-in_default c =
    part_longer (point_values c.args.point.now) c.args.components.now c.args.part.now c.loop-component.rest.now c.loop-component.component-index 0 c.loop-component-test.true c.loop-component.invariant c.in_default.ensures.cases

pub returns-then-is_ne : goal.returns-then-is_ne
returns-then-is_ne c =
    part_decided (point_values c.args.point.now) c.args.components.now c.args.part.now c.loop-component.rest.now c.loop-component.component-index 0 c.loop-component-test.true c.loop-component.invariant
    c.in-Some.value.now c.in-Some.later.now c.compare_value-by_component.result c.in-Some.ensures.cases.0 c.compare_value-by_component.ensures (sym c.is_ne.ensures ∙ c.if-is_ne.true)

pub loop-component-preserved : goal.loop-component-preserved
loop-component-preserved c =
    part_goes_on (point_values c.args.point.now) c.args.components.now c.args.part.now c.loop-component.rest.now c.loop-component.component-index 0 c.loop-component-test.true c.loop-component.invariant
    c.in-Some.value.now c.in-Some.later.now c.compare_value-by_component.result c.in-Some.ensures.cases.0 c.compare_value-by_component.ensures (sym c.is_ne.ensures ∙ c.if-is_ne.false)
