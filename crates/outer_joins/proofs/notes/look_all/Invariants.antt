use Rattle.std.proofs.Common.{◌≡◌, ◌+◌, ◌*◌, ◌≤◌, ◌++◌, drop, length, map}
use Rattle.std.specs.Arc.{arc_value}
use Rattle.point_sets.specs.Changes.{values_of}
use Rattle.held_index.specs.Holdings.{AllPlain, contents}
use Rattle.held_index.specs.Rules.{after_news}
use Rattle.operator_meaning.specs.joins.Joins.{own_places, points_at}
use Rattle.outer_joins.proofs.Looked.{points_from}
use Rattle.outer_joins.proofs.notes.look_all.Given as goal

-- the operands so far are looked up, once each
abbrev pub invariant-loop-i : goal.invariant-loop-i
invariant-loop-i g l = record {
  before : (AllPlain l.held → points_at l.plan (contents l.held) l.key ≡ map values_of l.before.items ++ points_from (drop l.i (own_places l.plan)) (drop l.i (contents l.held)) l.key);
  after : (AllPlain l.held → points_at l.plan (after_news (map arc_value l.news) (contents l.held)) l.key ≡ map values_of l.after.items ++ points_from (drop l.i (own_places l.plan)) (drop l.i (after_news (map arc_value l.news) (contents l.held))) l.key);
  before_len : length l.before.items ≡ l.i;
  after_len : length l.after.items ≡ l.i;
  steps : l.steps ≤ l.fn.steps + 2 * l.i;
}
