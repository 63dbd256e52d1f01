use Rattle.std.proofs.Common.{sym, subst, ◌≤◌}
use Rattle.data_model.specs.declared.TheConstants.{POINT_LIMIT}
use Rattle.revision_judge.proofs.TallyLemmas.{tally-first}
use Rattle.revision_judge.proofs.tally.Tally.new.Goals as goal

pub returns : goal.returns
returns c = λ before count few. tally-first before (record { keys = c.new.result; points = c.args.points; notes = c.new-2.result }) c.new.ensures.empty (sym count) (subst (λ n. n ≤ POINT_LIMIT) (sym count) few) c.new-2.ensures
