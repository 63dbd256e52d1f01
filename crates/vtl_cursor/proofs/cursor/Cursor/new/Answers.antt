use Rattle.std.proofs.Common.{arith, length-take}
use Rattle.vtl_cursor.specs.Limits.{most}
use Rattle.vtl_cursor.proofs.cursor.Cursor.new.Goals as goal

pub invariant_of-result : goal.invariant_of-result
unfolding most
invariant_of-result c = record { few = omega (arith, length-take c.last_index-end.result c.args.tokens.now) }
