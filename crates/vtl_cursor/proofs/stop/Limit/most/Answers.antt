use Rattle.std.proofs.Common.{refl}
use Rattle.vtl_cursor.specs.Limits.{most}
use Rattle.vtl_cursor.proofs.stop.Limit.most.Goals as goal

pub returns-in-Lists : goal.returns-in-Lists
unfolding most
returns-in-Lists c = rw c.in-Lists.is refl
