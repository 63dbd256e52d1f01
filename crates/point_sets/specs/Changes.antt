-- Changes of data sets, as maps from keys to an old and a new value (docs/language.md, "Data sets").
use Rattle.std.specs.Prelude.{◌≡◌, ◌≢◌, List, [], ◌∷◌, map, Bool, cond, Option, Some, None, T}
use Rattle.std.specs.Option.{option_map, option_eq, IsSomeAnd}
use Rattle.std.specs.Arc.{arc_value}
use Rattle.std.specs.Coded.{Coded}
use Rattle.std.specs.FinMap.{from_entries, insert, is_sorted}
use Rattle.std.specs.List.{All}
use Rattle.std.specs.Ordering.{eq_by_cmp}
use Rattle.std.specs.declared.sync.Arc.{Arc}
use Rattle.std.specs.declared.alloc.Global.{Global}
use Rattle.vtl_values.specs.Order.{key_cmp}
use Rattle.vtl_values.specs.declared.value.Value.{Value}
use Rattle.data_model.specs.Deltas.{Pair, DeltaOf, coded_delta, composed_change}
use Rattle.point_sets.specs.declared.point.Point.{Point}
use Rattle.point_sets.specs.declared.delta.Change.{Change}
use Rattle.point_sets.specs.DataSets.{values_coded, key_of, rest_of, HasKey}

-- from keys to what was there and what comes there
abbrev pub Changes : Type 0
Changes = DeltaOf key_cmp (List Value)

abbrev pub changes_coded : Coded Changes
changes_coded = coded_delta values_coded values_coded

-- whether two points have the same values
abbrev pub values_eq : List Value → List Value → Bool
values_eq = eq_by_cmp key_cmp

-- the values of the point that may be there
abbrev pub values_of : Option (Arc Point Global) → Option (List Value)
values_of p = option_map rest_of p

-- a change's key, and the values before and after
abbrev pub change_entry : Change → List Value × Pair (List Value)
change_entry c = (c.key, (values_of c.old, values_of c.new))

-- the delta of a list of changes
abbrev pub of_changes : List Change → Changes
of_changes cs = from_entries (map change_entry cs)

-- a change is from a point to another one, or none, both at its key
pub record IsChange (c : Change) : Type 0 where
  pub old : HasKey c.key c.old
  pub new : HasKey c.key c.new
  pub differs : values_of c.old ≢ values_of c.new

-- the change by which a point comes
pub record IsComing (point : Arc Point Global) (change : Change) : Type 0 where
  pub key : change.key ≡ key_of point
  pub old : change.old ≡ None
  pub new : IsSomeAnd change.new (λ p. arc_value p ≡ arc_value point)

-- each key is below those after it, and each change is one
pub record AreChanges (cs : List Change) : Type 0 where
  pub ascend : T (is_sorted key_cmp (map change_entry cs))
  pub each : All IsChange cs

-- the delta in which it is also noted what a key had and has; where these are equal there is nothing to note
abbrev pub with_change : Changes → List Value → Option (List Value) → Option (List Value) → Changes
with_change d k x y = cond (option_eq values_eq x y) d (insert d k (x, y))

-- two places have equal points
abbrev pub IsSamePoint : Option (Arc Point Global) → Option (Arc Point Global) → Type 0
IsSamePoint p q = option_map arc_value q ≡ option_map arc_value p

-- an entry, if there is a value
abbrev pub entry_at : {K Y : Type 0} → K → Option Y → List (K × Y)
entry_at k None = []
entry_at k (Some y) = (k, y) ∷ []

-- one change for a change and the one, if there is one, that comes after it
abbrev pub joined : {X : Type 0} → (X → X → Bool) → Pair X → Option (Pair X) → Option (Pair X)
joined same c next = composed_change same (Some c) next
