use Rattle.std.proofs.Common.{refl, sym, subst, map, List}
use Rattle.std.specs.Arc.{arc_value}
use Rattle.std.specs.declared.sync.Arc.{Arc}
use Rattle.std.specs.declared.alloc.Global.{Global}
use Rattle.std.specs.FinMap.{empty}
use Rattle.point_sets.specs.Changes.{Changes}
use Rattle.round_core.specs.Inputs.{LeadsThrough}
use Rattle.round_core.proofs.inputs.unchanged.Goals as goal

pub returns : goal.returns
returns c = record { older = refl; newer = subst (λ (ds : List (Arc Changes Global)). LeadsThrough (map arc_value ds) empty empty) (sym c.new.ensures) refl }
