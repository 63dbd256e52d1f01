use Rattle.std.proofs.Common.{map, sym, arith, rules}
use Rattle.defined_operators.specs.Writers.{flags, writes}
use Rattle.defined_operators.proofs.Unused.{used-next, body_answered, called_answered}
use Rattle.defined_operators.proofs.Weights.{body_less}
use Rattle.defined_operators.proofs.writer.Writer.+written.Goals as goal

pub body_for-written-requires : goal.body_for-written-requires
body_for-written-requires t c =
    let less = body_less c.args.self.now.operators.now c.args.name.now c.in-Some.operator.now c.args.left c.args.self.now.calling (sym c.in-Some.ensures) c.requires in
    let d = c.decreases in
    (omega (arith, less, d), tt)

pub body_for-returns-in-Some : goal.body_for-returns-in-Some
body_for-returns-in-Some t c =
    body_answered c.written.result c.args.self.now.operators.now c.args.left c.args.name.now c.args.arguments c.args.place c.in-Some.operator.now c.as_slice.result.now c.as_slice-in-Some.result.now
    (sym c.in-Some.ensures) c.as_slice.ensures c.as_slice-in-Some.ensures c.written.ensures

pub called-returns : goal.called-returns
called-returns t c =
    called_answered c.call.result c.args.self.now.calling c.args.self.now.operators.now c.args.name.now (map (writes c.args.self.now) c.args.arguments.now) c.in_ok-used.used c.args.place c.in_ok-used.ensures c.call.ensures

pub used_arguments-loop-i-preserved : goal.used_arguments-loop-i-preserved
used_arguments-loop-i-preserved t c =
    used-next (writes c.args.self.now) (flags c.args.self.now c.args.name.now) c.args.place c.args.arguments.now c.loop-i.i c.loop-i.made c.push.new.self c.in_ok-argument_if.field-0 c.index-arguments-i.result c.is_used.result
    c.loop-i-test.true c.loop-i.invariant c.index-arguments-i.is (search rules) (search rules) (c.in_ok-push.ensures {u = tt}).ok
