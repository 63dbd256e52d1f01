use Rattle.std.proofs.Common.{◌≡◌, map, take}
use Rattle.std.specs.Arc.{arc_value}
use Rattle.held_index.specs.Reach.{changes_in}
use Rattle.cross_joins.proofs.counts.is_nothing_new.Given as goal

abbrev pub invariant-loop-delta : goal.invariant-loop-delta
invariant-loop-delta l = changes_in (take l.delta-index (map arc_value l.news)) ≡ 0
