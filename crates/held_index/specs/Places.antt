-- Places in a walk.
use Rattle.std.specs.Prelude.{Bool, cond}
use Rattle.std.specs.declared.cmp.Ordering.{Ordering}
use Rattle.std.specs.Ordering.{is_lt, is_le}
use Rattle.vtl_values.specs.Order.{key_cmp}
use Rattle.held_index.specs.declared.want.Want.{Want}
use Rattle.held_index.specs.declared.place.Place.{Place}
use Rattle.held_index.specs.declared.place.Place.TheVariants.{Part, PartOf, At}
use Rattle.held_index.specs.Walks.{PointValues, part_key, walk_cmp, point_values}

-- on which side of a place a point is; it is equal where it is in the part, or stands where the point does
abbrev pub from_place : Want → Place → PointValues → Ordering
from_place w (Part part) p = key_cmp (part_key w.part p) part.now
from_place w (PartOf at) p = key_cmp (part_key w.part p) (part_key w.part (point_values at.now))
from_place w (At at) p = walk_cmp w p (point_values at.now)

-- whether a point is before a place, or in it
abbrev pub is_up_to : Want → Place → Bool → PointValues → Bool
is_up_to w place inside p = cond inside (is_le (from_place w place p)) (is_lt (from_place w place p))
