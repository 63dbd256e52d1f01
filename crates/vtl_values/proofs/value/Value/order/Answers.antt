use Rattle.std.proofs.Common.{◌∙◌}
use Rattle.vtl_values.proofs.Values.{cmp-is}
use Rattle.vtl_values.proofs.value.Value.order.Goals as goal

pub returns : goal.returns
returns c = c.cmp.ensures ∙ cmp-is c.args.self.now c.args.other.now
