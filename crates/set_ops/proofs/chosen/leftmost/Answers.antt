use Rattle.std.proofs.Common.{sym, ap, ◌∙◌, Some}
use Rattle.set_ops.proofs.Taken.{leftmost-later, leftmost-here, leftmost-none}
use Rattle.set_ops.proofs.chosen.leftmost.Goals as goal

pub loop-i-preserved : goal.loop-i-preserved
loop-i-preserved c = c.loop-i.invariant ∙ leftmost-later c.args.readings.now c.args.points.now c.loop-i.i c.index-points-i.result c.requires c.loop-i-test.true c.index-points-i.is c.in_default.is

pub returns-in-Some-clause-value : goal.returns-in-Some-clause-value
returns-in-Some-clause-value c =
    sym (c.loop-i.invariant
    ∙ leftmost-here c.args.readings.now c.args.points.now c.loop-i.i c.index-readings-i.result c.index-points-i.result c.in-Some.point c.requires c.loop-i-test.true c.index-readings-i.is c.index-points-i.is c.in-Some.is
    ∙ sym (ap Some c.in_ok-point.ensures.rest))

pub returns-clause-value : goal.returns-clause-value
returns-clause-value c = sym (c.loop-i.invariant ∙ leftmost-none c.args.readings.now c.args.points.now c.loop-i.i c.requires c.loop-i-test.false)
