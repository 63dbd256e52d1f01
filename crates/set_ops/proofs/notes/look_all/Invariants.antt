use Rattle.std.proofs.Common.{◌≡◌, ◌+◌, ◌*◌, ◌≤◌, ◌++◌, drop, length, map}
use Rattle.std.specs.Arc.{arc_value}
use Rattle.point_sets.specs.Changes.{values_of}
use Rattle.held_index.specs.Rules.{after_news}
use Rattle.held_index.specs.Holdings.{AllPlain, contents}
use Rattle.set_ops.specs.Readings.{own_points}
use Rattle.set_ops.proofs.notes.look_all.Given as goal

-- the operands so far are looked up, once each
abbrev pub invariant-loop-i : goal.invariant-loop-i
invariant-loop-i g l = record {
  before : (AllPlain l.held → own_points l.readings (contents l.held) l.key ≡ map values_of l.before.items ++ own_points (drop l.i l.readings) (drop l.i (contents l.held)) l.key);
  after : (AllPlain l.held → own_points l.readings (after_news (map arc_value l.news) (contents l.held)) l.key ≡ map values_of l.after.items ++ own_points (drop l.i l.readings) (drop l.i (after_news (map arc_value l.news) (contents l.held))) l.key);
  before_len : length l.before.items ≡ l.i;
  after_len : length l.after.items ≡ l.i;
  steps : l.steps ≤ l.fn.steps + 2 * l.i;
}
