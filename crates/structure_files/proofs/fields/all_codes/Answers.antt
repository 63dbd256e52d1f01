use Rattle.std.proofs.Common.{map}
use Rattle.serde_json.specs.View.{view}
use Rattle.structure_files.specs.Fields.{next_code}
use Rattle.structure_files.specs.Refusals.{one_by_one}
use Rattle.structure_files.proofs.Steps.{passed_on, stops}
use Rattle.structure_files.proofs.fields.all_codes.Goals as goal

pub returns-in_err-codes-clause-err : goal.returns-in_err-codes-clause-err
returns-in_err-codes-clause-err c =
    passed_on (one_by_one (next_code c.args.path) (map view c.args.values.now)) c.from_residual.result c.in_err-codes.field-0.0
    (stops (next_code c.args.path) view c.args.values.now c.loop-value.value-index c.value-item.result c.loop-value.codes c.in_err-codes.field-0.0 c.loop-value-test.true c.value-item.is c.loop-value.invariant c.in_err-codes.ensures.err)
    c.from_residual.ensures.1
