use Rattle.std.proofs.Common.{◌≡◌, fold, take}
use Rattle.cross_joins.specs.Noted.{noted_combination}
use Rattle.cross_joins.specs.Rows.{lists_in}
use Rattle.cross_joins.proofs.notes.note_all.Given as goal

-- the combinations so far are noted
abbrev pub invariant-loop-combination : goal.invariant-loop-combination
invariant-loop-combination l = l.draft ≡ fold (noted_combination l.plan) l.fn.draft (lists_in (take l.combination-index l.combinations))
