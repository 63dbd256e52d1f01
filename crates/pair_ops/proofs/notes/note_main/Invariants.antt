use Rattle.std.proofs.Common.{◌≡◌, ◌+◌, ◌*◌, ◌≤◌, fold, length, map, min, take}
use Rattle.point_sets.specs.Changes.{change_entry}
use Rattle.pair_ops.specs.Noted.{noted_main}
use Rattle.pair_ops.proofs.notes.note_main.Given as goal

-- the changes so far are noted, with a look for each
abbrev pub invariant-loop-change : goal.invariant-loop-change
invariant-loop-change g l = record {
  noted : l.draft ≡ fold (noted_main l.plan l.partner.content l.partner_news) l.fn.draft (take l.change-index (map change_entry l.change-items));
  steps : l.steps ≤ l.fn.steps + 2 * min l.change-index (length l.change-items);
}
