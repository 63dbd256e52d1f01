use Rattle.std.proofs.Common.{rules}
use Rattle.std.specs.Option.{option_copied}
use Rattle.defined_operators.proofs.Sorting.{sorted-next}
use Rattle.defined_operators.proofs.sorts.sorted_arguments.Goals as goal

pub loop-i-preserved : goal.loop-i-preserved
loop-i-preserved c =
    sorted-next c.args.params.now c.args.arguments.now c.loop-i.i c.loop-i.made c.push.new.self c.in_ok-sorted_argument.field-0 c.in_ok-copy.copy (option_copied c.param_at.result)
    c.loop-i-test.true c.loop-i.invariant c.param_at.ensures (search rules) (search rules) (c.in_ok-push.ensures {u = tt}).ok
