use Rattle.std.proofs.Common.{rules}
use Rattle.point_sets.proofs.Points.{parted_below, at_seen, other_seen, none_seen, gap_at}
use Rattle.point_sets.proofs.edits.place.Goals as goal

pub place-place-requires : goal.place-place-requires
place-place-requires c = record { parted = parted_below c.args.points.now c.args.key.now c.requires }

pub returns-in-Some-clause-found : goal.returns-in-Some-clause-found
returns-in-Some-clause-found c = at_seen c.args.points.now c.args.key.now c.place-place.result _ c.in-Some.point.now (search rules) c.nth.ensures (search rules)

pub returns-in_default-clause-absent : goal.returns-in_default-clause-absent
returns-in_default-clause-absent c = gap_at c.args.points.now c.args.key.now c.place-place.result c.requires c.place-place.ensures.within c.place-place.ensures.place (other_seen c.args.points.now c.args.key.now c.place-place.result _ c.in-Some.point.now (search rules) c.nth.ensures (search rules))

pub returns-in_default-2-clause-absent : goal.returns-in_default-2-clause-absent
returns-in_default-2-clause-absent c = gap_at c.args.points.now c.args.key.now c.place-place.result c.requires c.place-place.ensures.within c.place-place.ensures.place (none_seen c.args.points.now c.args.key.now c.place-place.result _ (search rules) c.nth.ensures)
