use Rattle.std.proofs.Common.{◌≡◌, ◌≤◌, ◌&&◌, take}
use Rattle.std.specs.Prelude.{count_by, is_some, is_none}
use Rattle.point_sets.proofs.delta.losses.Given as goal

abbrev pub invariant-loop-change : goal.invariant-loop-change
invariant-loop-change l = record {
  value : l.count ≡ count_by (λ c. is_some c.old && is_none c.new) (take l.change-index l.changes);
  few : l.count ≤ l.change-index;
}
