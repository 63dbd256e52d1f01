use Rattle.std.proofs.Common.{◌+◌, List, Option, drop, ap, sym, ◌∙◌}
use Rattle.std.proofs.Math.ListN.{drop_of_length-le}
use Rattle.data_set_trees.specs.declared.clauses.clause.CheckedMeasure.{CheckedMeasure}
use Rattle.scalar_trees.specs.declared.typing.scope.Slot.{Slot}
use Rattle.operator_typing.proofs.Steps.{passed_on, stops_same}
use Rattle.data_set_parts.specs.Walks.{each}
use Rattle.data_set_typing.specs.Plans.{checked_at, pair_checked}
use Rattle.data_set_parts.proofs.Binds.{left_after, each_starts, each_more, each_stops, each_ends}
use Rattle.data_set_typing.proofs.call.Call.pairs_checked.Goals as goal

pub loop-pair-init : goal.loop-pair-init
loop-pair-init c =
    let call = c.args.self.now in
    let h = pair_checked call.form.now call.place call.operands.now c.args.changed.now c.args.count in
    let xs = c.args.met.now in
    each_starts h xs ∙ ap (λ (all : List CheckedMeasure). left_after h all xs) (sym c.new-all.ensures)

pub loop-pair-preserved : goal.loop-pair-preserved
loop-pair-preserved c =
    let call = c.args.self.now in
    let h = pair_checked call.form.now call.place call.operands.now c.args.changed.now c.args.count in
    let xs = c.args.met.now in
    let i = c.loop-pair.pair-index in
    let at = λ (slots : List (Option Slot)). checked_at call.form.now call.place call.operands.now slots c.args.changed.now c.pair-item.result.0.name in
    each_more h xs i c.pair-item.result c.in_ok-checked.field-0 c.loop-pair.all c.loop-pair-test.true c.pair-item.is (ap at (sym c.both.ensures) ∙ c.in_ok-checked.ensures.ok) c.loop-pair.invariant
    ∙ ap (λ (all : List CheckedMeasure). left_after h all (drop (i + 1) xs)) (sym c.in_ok-push.ensures.ok)

pub returns-in_err-checked-clause-err : goal.returns-in_err-checked-clause-err
returns-in_err-checked-clause-err c =
    let call = c.args.self.now in
    let h = pair_checked call.form.now call.place call.operands.now c.args.changed.now c.args.count in
    let xs = c.args.met.now in
    let stop = c.in_err-checked.field-0.0 in
    let at = λ (slots : List (Option Slot)). checked_at call.form.now call.place call.operands.now slots c.args.changed.now c.pair-item.result.0.name in
    let refuses = stops_same (at c.both.result) (h c.pair-item.result) stop (ap at c.both.ensures) c.in_err-checked.ensures.err in
    passed_on (each h xs) c.from_residual.result stop (each_stops h xs c.loop-pair.pair-index c.pair-item.result c.loop-pair.all stop c.loop-pair-test.true c.pair-item.is refuses c.loop-pair.invariant) c.from_residual.ensures.1

pub returns-clause-ok : goal.returns-clause-ok
returns-clause-ok c =
    let call = c.args.self.now in
    let h = pair_checked call.form.now call.place call.operands.now c.args.changed.now c.args.count in
    let xs = c.args.met.now in
    each_ends h xs (drop c.loop-pair.pair-index xs) c.loop-pair.all (drop_of_length-le xs c.loop-pair-test.false) c.loop-pair.invariant
