use Rattle.std.specs.FinMap.{get-empty}
use Rattle.vtl_values.specs.Order.{key_cmp}
use Rattle.structured_sets.proofs.laws.the_empty_set_fits.Goals as goal

pub returns : goal.returns
returns c = λ components key. rw (get-empty key_cmp key) tt
