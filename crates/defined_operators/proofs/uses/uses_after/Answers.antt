use Rattle.defined_operators.specs.Uses.{used_params, uses_of}
use Rattle.tree_copies.proofs.Rounds.{map_next}
use Rattle.defined_operators.proofs.uses.uses_after.Goals as goal

pub loop-operator-preserved : goal.loop-operator-preserved
loop-operator-preserved c =
    map_next (used_params c.args.operators.now (uses_of c.args.operators.now c.args.level)) c.args.operators.now c.loop-operator.operator-index c.loop-operator.uses c.push.new.self c.in_ok-used_in.field-0 c.operator-item.result
    c.loop-operator-test.true c.loop-operator.invariant c.operator-item.is c.in_ok-used_in.ensures (c.in_ok-push.ensures {u = tt}).ok
