-- How the points of an operand are walked (docs/language.md, "Data sets").
use Rattle.std.specs.Prelude.{ℕ, List, [], ◌∷◌, ◌++◌, map, Bool, true, false, slice_get, unwrap_or}
use Rattle.std.specs.declared.cmp.Ordering.{Ordering}
use Rattle.std.specs.declared.cmp.Ordering.TheVariants.{Equal}
use Rattle.std.specs.Ordering.{on, then_cmp, flip_args}
use Rattle.vtl_values.specs.declared.value.Value.{Value}
use Rattle.vtl_values.specs.declared.value.Value.TheVariants.{Null}
use Rattle.vtl_values.specs.Order.{value_cmp, key_cmp}
use Rattle.point_sets.specs.declared.point.Point.{Point}
use Rattle.held_index.specs.declared.want.Want.{Want}
use Rattle.held_index.specs.declared.want.OrderItem.{OrderItem}
use Rattle.held_index.specs.declared.want.SumOf.{SumOf}

-- a point's key, and its other values
abbrev pub PointValues : Type 0
PointValues = List Value × List Value

-- the value of a component by its number: those of the identifiers, which come first, are the key
abbrev pub component_of : ℕ → PointValues → Value
component_of c p = unwrap_or (slice_get (p.0 ++ p.1) c) Null

-- the values that tell a point's part
abbrev pub part_key : List ℕ → PointValues → List Value
part_key components p = map (λ c. component_of c p) components

-- an order, or the same one down
abbrev pub directed : {X : Type 0} → Bool → (X → X → Ordering) → X → X → Ordering
directed false cmp = cmp
directed true cmp = flip_args cmp

-- by one component, up or down
abbrev pub item_cmp : OrderItem → PointValues → PointValues → Ordering
item_cmp o = directed o.descending (on (component_of o.component) value_cmp)

-- by the components of the order, one after the other
abbrev pub order_cmp : List OrderItem → PointValues → PointValues → Ordering
order_cmp [] p q = Equal
order_cmp (o ∷ os) p q = then_cmp (item_cmp o) (order_cmp os) p q

-- within a part: by the order, and then by the key
abbrev pub place_cmp : Want → PointValues → PointValues → Ordering
place_cmp w = then_cmp (order_cmp w.order) (on (λ (p : PointValues). p.0) key_cmp)

-- part after part
abbrev pub walk_cmp : Want → PointValues → PointValues → Ordering
walk_cmp w = then_cmp (on (part_key w.part) key_cmp) (place_cmp w)

-- a point in the walk
abbrev pub point_values : Point → PointValues
point_values p = (p.key, p.rest)

-- the entries of a walk have what their points add to sums beside them
abbrev pub WalkEntry : Type 0
WalkEntry = PointValues × List SumOf

abbrev pub entry_cmp : Want → WalkEntry → WalkEntry → Ordering
entry_cmp w = on (λ (e : WalkEntry). e.0) (walk_cmp w)
