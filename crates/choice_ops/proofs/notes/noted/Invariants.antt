use Rattle.std.proofs.Common.{List, ◌+◌, ◌*◌, ◌≤◌, map, take}
use Rattle.std.specs.Arc.{arc_value}
use Rattle.point_sets.specs.DataSets.{DataSet}
use Rattle.held_index.specs.Reach.{changes_in}
use Rattle.held_index.specs.Holdings.{AllPlain, contents}
use Rattle.choice_ops.specs.Plans.{choice_in}
use Rattle.choice_ops.specs.Noted.{Sees, keys_from, IsNoted}
use Rattle.choice_ops.proofs.notes.noted.Given as goal

-- the news of the operands so far are noted
abbrev pub invariant-loop-number : goal.invariant-loop-number
invariant-loop-number g l = record {
  noted : ((sets : List DataSet) → AllPlain l.held → Sees l.held (map arc_value l.news) sets → IsNoted (choice_in l.plan) (contents l.held) sets (keys_from (choice_in l.plan) 0 (take l.number (map arc_value l.news))) l.draft);
  steps : l.steps ≤ l.fn.steps + 6 * changes_in (take l.number (map arc_value l.news));
}
