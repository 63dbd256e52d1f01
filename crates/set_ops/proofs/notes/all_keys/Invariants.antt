use Rattle.std.proofs.Common.{◌≡◌, ℕ, ◌<◌, ◌++◌, drop, map, get_or}
use Rattle.std.specs.Arc.{arc_value}
use Rattle.data_model.specs.Deltas.{Differs}
use Rattle.point_sets.specs.Changes.{Changes}
use Rattle.set_ops.specs.Noted.{all_keys_read}
use Rattle.set_ops.proofs.notes.all_keys.Given as goal

-- the keys of the operands so far are put down
abbrev pub invariant-loop-i : goal.invariant-loop-i
invariant-loop-i l = record {
  keys : all_keys_read l.readings (map arc_value l.news) ≡ l.keys.items ++ all_keys_read (drop l.i l.readings) (drop l.i (map arc_value l.news));
  differs : ((k : ℕ) → k < l.i → (d : Changes) → Differs (get_or (map arc_value l.news) k d));
}
