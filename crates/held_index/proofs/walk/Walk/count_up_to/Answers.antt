use Rattle.std.proofs.Common.{◌∙◌}
use Rattle.std.specs.Arc.{arc_value}
use Rattle.held_index.specs.Places.{is_up_to}
use Rattle.held_index.proofs.EntryLemmas.{parted_entries, prefix_len-points_of}
use Rattle.held_index.proofs.walk.Walk.count_up_to.Goals as goal

pub place-requires : goal.place-requires
place-requires c = record { parted = rw c.deref-want.ensures (parted_entries (arc_value c.self.inside.want) c.self.inside.entries c.self.invariant c.args.place c.args.inside) }

pub returns-clause-count : goal.returns-clause-count
returns-clause-count c =
    rw (← c.self.view_is, ← c.deref-want.ensures) (c.place.ensures.place ∙ prefix_len-points_of (is_up_to c.deref-want.result.now c.args.place c.args.inside) c.self.inside.entries)

pub returns-clause-walk : goal.returns-clause-walk
returns-clause-walk c = rw (← c.self.view_is) c.self.invariant.walk
