use Rattle.std.proofs.Common.{map}
use Rattle.serde_json.specs.View.{view}
use Rattle.vtl_values.specs.Structures.{structure_of}
use Rattle.structure_files.specs.Reading.{next_set}
use Rattle.structure_files.proofs.Meanings.{set_stops, is_some-copied}
use Rattle.structure_files.proofs.Steps.{passed_on}
use Rattle.structure_files.proofs.sets.with_set.Goals as goal

pub returns-in_err-components-clause-err : goal.returns-in_err-components-clause-err
returns-in_err-components-clause-err c =
    passed_on (next_set c.args.structures (view c.args.value.now)) c.from_residual-in_err-components.result c.in_err-components.field-0.0
    (set_stops c.args.structures c.len-count.result (view c.args.value.now) c.in_ok-name.name (map view c.in-Some.values.now) c.in_err-components.field-0.0 c.len-count.ensures.len c.if-count-ge-MOST.false c.in_ok-name.ensures.ok
    (is_some-copied c.get.result (structure_of c.args.structures c.in_ok-name.name) c.get.ensures c.if-is_some.ensures) c.in-Some.ensures c.in_err-components.ensures.err)
    c.from_residual-in_err-components.ensures.1
