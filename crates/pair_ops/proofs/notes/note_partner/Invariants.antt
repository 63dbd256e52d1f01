use Rattle.std.proofs.Common.{◌≡◌, ◌+◌, ◌≤◌, fold, map, take}
use Rattle.std.specs.List.{sum_by}
use Rattle.point_sets.specs.declared.delta.Change.{Change}
use Rattle.point_sets.specs.Changes.{change_entry}
use Rattle.pair_ops.specs.Noted.{noted_partner, part_steps}
use Rattle.pair_ops.proofs.notes.note_partner.Given as goal

-- the changes so far are noted, and their parts gone through
abbrev pub invariant-loop-change : goal.invariant-loop-change
invariant-loop-change g l = record {
  noted : l.draft ≡ fold (noted_partner l.plan l.main l.main_news) l.fn.draft (take l.change-index (map change_entry l.change-items));
  steps : l.steps ≤ l.fn.steps + sum_by (λ (c : Change). part_steps l.main c.key) (take l.change-index l.change-items);
}
