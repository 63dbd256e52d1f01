use Rattle.std.proofs.Common.{map}
use Rattle.serde_json.specs.View.{view}
use Rattle.structure_files.specs.Reading.{next_component}
use Rattle.structure_files.specs.Refusals.{one_by_one}
use Rattle.structure_files.proofs.Steps.{passed_on, stops}
use Rattle.structure_files.proofs.components.all_components.Goals as goal

pub returns-in_err-components-clause-err : goal.returns-in_err-components-clause-err
returns-in_err-components-clause-err c =
    passed_on (one_by_one (next_component c.args.set) (map view c.args.values.now)) c.from_residual.result c.in_err-components.field-0.0
    (stops (next_component c.args.set) view c.args.values.now c.loop-value.value-index c.value-item.result c.loop-value.components.items c.in_err-components.field-0.0 c.loop-value-test.true c.value-item.is c.loop-value.invariant.so_far c.in_err-components.ensures.err)
    c.from_residual.ensures.1
