-- A walk as the code has it: the points in order, over what is wanted.
use Rattle.std.specs.Prelude.{◌≡◌, ℕ, List, [], map, Option, Some, None, refl}
use Rattle.std.specs.List.{AllByRecursion}
use Rattle.std.specs.Coded.{Coded, code_by, coded×, coded_list}
use Rattle.vtl_values.specs.Order.{key_cmp}
use Rattle.ordered_tree.specs.Orders.{Ascends, put_in, take_out}
use Rattle.ordered_tree.proofs.Maps.{Unlike}
use Rattle.point_sets.specs.DataSets.{values_coded, entry_of}
use Rattle.point_sets.specs.declared.point.Point.{Point}
use Rattle.std.specs.declared.sync.Arc.{Arc}
use Rattle.std.specs.declared.alloc.Global.{Global}
use Rattle.held_index.specs.Walks.{PointValues, WalkEntry, walk_cmp, entry_cmp}
use Rattle.held_index.specs.Sums.{own_sums}
use Rattle.held_index.specs.declared.want.Want.{Want}
use Rattle.held_index.specs.contracts.want.Want as want

-- what is wanted, and the points in the order of the walk
pub record Walked : Type 0 where
  pub want : Want
  pub points : List PointValues

abbrev pub walked_coded : Coded Walked
walked_coded = code_by (Want × List PointValues) (coded× (want.the_row).coded (coded_list (coded× values_coded values_coded))) (λ h. (h.want, h.points)) (λ p. record { want = p.0; points = p.1 }) (λ _. refl)

abbrev pub points_of : List WalkEntry → List PointValues
points_of es = map (λ (e : WalkEntry). e.0) es

-- points with different keys, in the order of the walk
pub record IsWalk (w : Want) (ps : List PointValues) : Type 0 where
  pub ascends : Ascends (walk_cmp w) ps
  pub unlike : Unlike key_cmp (λ (p : PointValues). p.0) ps

-- each entry has what its point adds
abbrev pub HaveOwn : List ℕ → List WalkEntry → Type 0
HaveOwn components es = AllByRecursion (λ (e : WalkEntry). e.1 ≡ own_sums components e.0) es

pub record IsWalkOfEntries (w : Want) (es : List WalkEntry) : Type 0 where
  pub walk : IsWalk w (points_of es)
  pub own : HaveOwn w.sums es

-- the entries without a point, and with a point, where there is one
abbrev pub without_old : Want → Option (Arc Point Global) → List WalkEntry → List WalkEntry
without_old w None es = es
without_old w (Some p) es = take_out (entry_cmp w) (entry_of p, []) es

abbrev pub with_new : Want → Option (Arc Point Global) → List WalkEntry → List WalkEntry
with_new w None es = es
with_new w (Some p) es = put_in (entry_cmp w) (entry_of p, own_sums w.sums (entry_of p)) es
