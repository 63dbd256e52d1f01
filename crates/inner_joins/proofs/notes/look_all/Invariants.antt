use Rattle.std.proofs.Common.{◌≡◌, ◌+◌, ◌*◌, ◌≤◌, ◌++◌, List, drop, length, map}
use Rattle.std.specs.Arc.{arc_value}
use Rattle.point_sets.specs.Changes.{values_of}
use Rattle.point_sets.specs.DataSets.{DataSet}
use Rattle.held_index.specs.Rules.{after_news}
use Rattle.operator_meaning.specs.joins.Joins.{own_places, points_at}
use Rattle.outer_joins.proofs.Looked.{points_from}
use Rattle.inner_joins.specs.Noted.{AreBehind, IsMet}
use Rattle.inner_joins.proofs.notes.look_all.Given as goal

-- of the operands so far it is known what they have
abbrev pub invariant-loop-number : goal.invariant-loop-number
invariant-loop-number g l = record {
  before : ((xs : List DataSet) → AreBehind l.plan l.held (map arc_value l.news) xs → IsMet l.plan xs (map arc_value l.news) l.meeting → points_at l.plan xs l.meeting.key ≡ map values_of l.before.items ++ points_from (drop l.number (own_places l.plan)) (drop l.number xs) l.meeting.key);
  after : ((xs : List DataSet) → AreBehind l.plan l.held (map arc_value l.news) xs → IsMet l.plan xs (map arc_value l.news) l.meeting → points_at l.plan (after_news (map arc_value l.news) xs) l.meeting.key ≡ map values_of l.after.items ++ points_from (drop l.number (own_places l.plan)) (drop l.number (after_news (map arc_value l.news) xs)) l.meeting.key);
  before_len : length l.before.items ≡ l.number;
  after_len : length l.after.items ≡ l.number;
  steps : l.steps ≤ l.fn.steps + 2 * l.number;
}
