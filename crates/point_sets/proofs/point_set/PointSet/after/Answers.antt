use Rattle.std.proofs.Common.{◌∙◌, ap}
use Rattle.std.specs.List.{slice_get}
use Rattle.std.specs.Option.{option_map}
use Rattle.point_sets.specs.DataSets.{as_entry}
use Rattle.point_sets.proofs.Points.{parted_up_to, entry_seen, above_at}
use Rattle.point_sets.proofs.point_set.PointSet.after.Goals as goal

pub place-requires : goal.place-requires
place-requires c = record { parted = parted_up_to c.self.inside.points c.args.key.now c.self.invariant }

pub returns : goal.returns
returns c = rw (← c.self.view_is) (entry_seen _ _ c.nth.ensures ∙ ap (λ n. option_map as_entry (slice_get c.self.inside.points n)) c.place.ensures.place ∙ above_at c.self.inside.points c.args.key.now c.self.invariant)
