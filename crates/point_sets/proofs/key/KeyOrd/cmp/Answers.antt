use Rattle.std.proofs.Common.{◌∙◌}
use Rattle.vtl_values.proofs.Values.{cmp-is}
use Rattle.point_sets.proofs.Keys.{slice_cmp-same}
use Rattle.point_sets.proofs.key.KeyOrd.cmp.Goals as goal

pub returns : goal.returns
returns c = rw (← c.values.ensures, ← c.values-2.ensures) (c.cmp.ensures ∙ slice_cmp-same cmp-is c.values.result.now c.values-2.result.now)
