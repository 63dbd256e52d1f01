use Rattle.std.proofs.Common.{◌≡◌, map, take}
use Rattle.std.specs.Prelude.{flat_map}
use Rattle.point_sets.specs.Changes.{values_of}
use Rattle.cross_joins.specs.Rows.{rows_in}
use Rattle.cross_joins.proofs.notes.points_of.Given as goal

-- the rows so far are put down
abbrev pub invariant-loop-row : goal.invariant-loop-row
invariant-loop-row l = record {
  key : l.values.items ≡ flat_map (λ r. r.key) (rows_in (take l.row-index l.combination));
  before : map values_of l.before.items ≡ map (λ r. r.before) (rows_in (take l.row-index l.combination));
  after : map values_of l.after.items ≡ map (λ r. r.after) (rows_in (take l.row-index l.combination));
}
