use Rattle.std.proofs.Common.{◌∙◌}
use Rattle.point_sets.proofs.NotedLemmas.{of_changes-taken}
use Rattle.point_sets.proofs.notes.Notes.finish.Goals as goal

pub returns : goal.returns
returns c = c.of.ensures ∙ of_changes-taken c.in_ok-changes_of.field-0.items c.self.inside.changes.entries c.in_ok-changes_of.ensures.entries ∙ c.self.view_is
