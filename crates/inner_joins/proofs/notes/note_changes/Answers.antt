use Rattle.std.specs.Arc.{arc_value}
use Rattle.std.proofs.Common.{map}
use Rattle.inner_joins.proofs.Counted.{partner-steps}
use Rattle.inner_joins.proofs.notes.note_changes.Goals as goal

pub returns-else-number-main-clause-steps : goal.returns-else-number-main-clause-steps
returns-else-number-main-clause-steps g c =
    partner-steps c.args.plan.now c.main.ensures.inner c.args.held.now (map arc_value c.args.news.now) c.args.number c.requires.number c.args.steps.now c.note_partner.new.steps c.note_partner.ensures.steps
