use Rattle.revision_judge.proofs.Judgements.{no-parts, one-part}
use Rattle.revision_judge.proofs.laws.short_revisions_are_judged_by_their_rows.Goals as goal

pub returns-clause-none : goal.returns-clause-none
returns-clause-none c = no-parts

pub returns-clause-one : goal.returns-clause-one
returns-clause-one c = one-part
