use Rattle.std.proofs.Common.{map}
use Rattle.serde_json.specs.View.{view}
use Rattle.structure_files.specs.Reading.{next_set}
use Rattle.structure_files.specs.Refusals.{one_by_one}
use Rattle.structure_files.proofs.Steps.{passed_on, stops}
use Rattle.structure_files.proofs.sets.all_sets.Goals as goal

pub returns-in_err-structures-clause-err : goal.returns-in_err-structures-clause-err
returns-in_err-structures-clause-err c =
    passed_on (one_by_one next_set (map view c.args.values.now)) c.from_residual.result c.in_err-structures.field-0.0
    (stops next_set view c.args.values.now c.loop-value.value-index c.value-item.result c.loop-value.structures c.in_err-structures.field-0.0 c.loop-value-test.true c.value-item.is c.loop-value.invariant c.in_err-structures.ensures.err)
    c.from_residual.ensures.1
