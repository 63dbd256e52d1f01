use Rattle.std.proofs.Common.{◌≡◌, ◌+◌, ◌*◌, ◌≤◌, fold, take}
use Rattle.point_sets.specs.Changes.{change_entry}
use Rattle.held_index.specs.Holdings.{part_of}
use Rattle.pair_ops.specs.Noted.{noted_point}
use Rattle.pair_ops.proofs.notes.note_partner_change.Given as goal

-- the points so far are noted, with a look for each
abbrev pub invariant-loop-n : goal.invariant-loop-n
invariant-loop-n g l = record {
  noted : l.draft ≡ fold (noted_point l.plan l.main_news (change_entry l.change)) l.fn.draft (take l.n (part_of l.main.want l.change.key l.main.content));
  steps : l.steps ≤ l.fn.steps + (1 + 2 * l.n);
}
