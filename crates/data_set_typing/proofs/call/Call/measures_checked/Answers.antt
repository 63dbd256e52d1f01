use Rattle.std.proofs.Common.{◌+◌, List, drop, ap, sym, ◌∙◌}
use Rattle.std.proofs.Math.ListN.{drop_of_length-le}
use Rattle.data_set_trees.specs.declared.clauses.clause.CheckedMeasure.{CheckedMeasure}
use Rattle.operator_typing.proofs.Steps.{passed_on}
use Rattle.data_set_parts.specs.Walks.{each}
use Rattle.data_set_typing.specs.Plans.{measure_checked}
use Rattle.data_set_parts.proofs.Binds.{left_after, each_starts, each_more, each_stops, each_ends}
use Rattle.data_set_typing.proofs.call.Call.measures_checked.Goals as goal

pub loop-measure-init : goal.loop-measure-init
loop-measure-init c =
    let call = c.args.self.now in
    let h = measure_checked call.form.now call.place call.operands.now c.args.changed.now in
    let xs = c.args.measures.now in
    each_starts h xs ∙ ap (λ (all : List CheckedMeasure). left_after h all xs) (sym c.new-all.ensures)

pub loop-measure-preserved : goal.loop-measure-preserved
loop-measure-preserved c =
    let call = c.args.self.now in
    let h = measure_checked call.form.now call.place call.operands.now c.args.changed.now in
    let xs = c.args.measures.now in
    let i = c.loop-measure.measure-index in
    each_more h xs i c.measure-item.result c.in_ok-measure_checked.field-0 c.loop-measure.all c.loop-measure-test.true c.measure-item.is c.in_ok-measure_checked.ensures.ok c.loop-measure.invariant
    ∙ ap (λ (all : List CheckedMeasure). left_after h all (drop (i + 1) xs)) (sym c.in_ok-push.ensures.ok)

pub returns-in_err-measure_checked-clause-err : goal.returns-in_err-measure_checked-clause-err
returns-in_err-measure_checked-clause-err c =
    let call = c.args.self.now in
    let h = measure_checked call.form.now call.place call.operands.now c.args.changed.now in
    let xs = c.args.measures.now in
    let stop = c.in_err-measure_checked.field-0.0 in
    passed_on (each h xs) c.from_residual.result stop (each_stops h xs c.loop-measure.measure-index c.measure-item.result c.loop-measure.all stop c.loop-measure-test.true c.measure-item.is c.in_err-measure_checked.ensures.err c.loop-measure.invariant) c.from_residual.ensures.1

pub returns-clause-ok : goal.returns-clause-ok
returns-clause-ok c =
    let call = c.args.self.now in
    let h = measure_checked call.form.now call.place call.operands.now c.args.changed.now in
    let xs = c.args.measures.now in
    each_ends h xs (drop c.loop-measure.measure-index xs) c.loop-measure.all (drop_of_length-le xs c.loop-measure-test.false) c.loop-measure.invariant
