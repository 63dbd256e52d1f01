use Rattle.std.proofs.Common.{◌≡◌, ℕ, ◌<◌, ◌++◌, drop, map, get_or}
use Rattle.std.specs.Arc.{arc_value}
use Rattle.data_model.specs.Deltas.{Differs}
use Rattle.point_sets.specs.Changes.{Changes}
use Rattle.outer_joins.specs.Noted.{all_keys_of}
use Rattle.outer_joins.proofs.notes.all_keys.Given as goal

-- the keys of the operands so far are put down
abbrev pub invariant-loop-i : goal.invariant-loop-i
invariant-loop-i l = record {
  keys : all_keys_of l.plan l.plan.operands (map arc_value l.news) ≡ l.keys.items ++ all_keys_of l.plan (drop l.i l.plan.operands) (drop l.i (map arc_value l.news));
  differs : ((k : ℕ) → k < l.i → (d : Changes) → Differs (get_or (map arc_value l.news) k d));
}
