use Rattle.std.proofs.Common.{sym}
use Rattle.point_sets.proofs.Changes.{entries-of_changes, Differs-of_changes}
use Rattle.point_sets.proofs.delta.Delta.changes.Goals as goal

pub returns-clause-entries : goal.returns-clause-entries
returns-clause-entries c = rw (← c.self.view_is, c.as_slice.ensures.value) (sym (entries-of_changes c.self.inside.changes.items c.self.invariant))

pub returns-clause-differs : goal.returns-clause-differs
returns-clause-differs c = rw (← c.self.view_is) (Differs-of_changes c.self.inside.changes.items c.self.invariant)
