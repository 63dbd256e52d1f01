-- What is held of an operand, and how it is walked (docs/language.md, "Data sets").
use Rattle.std.specs.Prelude.{◌≡◌, ℕ, ◌<◌, ◌&&◌, List, [], All, Bool, filter, map, Option, Some, None, length, slice_get, unwrap_or, refl}
use Rattle.std.specs.Option.{IsSomeAnd}
use Rattle.std.specs.Ordering.{is_lt, is_eq, eq_by_cmp}
use Rattle.std.specs.Coded.{Coded, code_by, coded×}
use Rattle.std.specs.FinMap.{empty, entries, get}
use Rattle.vtl_values.specs.declared.value.Value.{Value}
use Rattle.vtl_values.specs.Order.{key_cmp}
use Rattle.vtl_values.specs.declared.kind.Kind.{Kind}
use Rattle.vtl_values.specs.declared.kind.Kind.TheVariants.{Integer, Number, Text, Truth}
use Rattle.vtl_values.specs.declared.structure.Component.{Component}
use Rattle.data_model.specs.Maps.{if_passes}
use Rattle.ordered_tree.specs.Orders.{in_order}
use Rattle.point_sets.specs.DataSets.{DataSet, data_set_coded}
use Rattle.held_index.specs.Walks.{PointValues, part_key, order_cmp, place_cmp}
use Rattle.held_index.specs.declared.want.Want.{Want}
use Rattle.held_index.specs.contracts.want.Want as want

-- what is wanted of an operand, and its data set
pub record Holding : Type 0 where
  pub want : Want
  pub content : DataSet

abbrev pub holding_coded : Coded Holding
holding_coded = code_by (Want × DataSet) (coded× (want.the_row).coded data_set_coded) (λ h. (h.want, h.content)) (λ p. record { want = p.0; content = p.1 }) (λ _. refl)

-- all points are one part, in the order of their keys
pub record IsPlain (w : Want) : Type 0 where
  pub one_part : w.part ≡ []
  pub by_key : w.order ≡ []

-- all that is held is one part each, in the order of the keys
abbrev pub AllPlain : List Holding → Type 0
AllPlain held = All (λ h. IsPlain h.want) held

-- the data sets that are held
abbrev pub contents : List Holding → List DataSet
contents held = map (λ h. h.content) held

-- the values of the kind are numbers
abbrev pub IsNumeric : Kind → Type 0
IsNumeric Integer = Unit {0}
IsNumeric Number = Unit {0}
IsNumeric Text = ⊥
IsNumeric Truth = ⊥

-- the components that a want names are the structure's, and those that it sums are of a numeric kind
pub record FitsStructure (w : Want) (components : List Component) : Type 0 where
  pub part : All (λ c. c < length components) w.part
  pub order : All (λ o. o.component < length components) w.order
  pub sums : All (λ c. IsSomeAnd (slice_get components c) (λ k. IsNumeric k.kind)) w.sums

-- a part's list: the points of the part, by the order and then the key
abbrev pub part_of : Want → List Value → DataSet → List PointValues
part_of w part m = in_order (place_cmp w) (filter (λ p. eq_by_cmp key_cmp (part_key w.part p) part) (entries m))

-- the list of the part that a point has, or would have
abbrev pub its_part : Want → PointValues → DataSet → List PointValues
its_part w at m = part_of w (part_key w.part at) m

-- what comes strictly after a point in its part, and strictly before it
abbrev pub after : Want → PointValues → DataSet → List PointValues
after w at m = filter (λ p. is_lt (place_cmp w at p)) (its_part w at m)

abbrev pub before : Want → PointValues → DataSet → List PointValues
before w at m = filter (λ p. is_lt (place_cmp w p at)) (its_part w at m)

-- whether a point has the part and the order of another one
abbrev pub stands_with : Want → PointValues → PointValues → Bool
stands_with w at p = eq_by_cmp key_cmp (part_key w.part p) (part_key w.part at) && is_eq (order_cmp w.order p at)

-- what is held at a point's key, if it has the point's part and order
abbrev pub found_at : Want → PointValues → DataSet → Option (List Value)
found_at w at m = if_passes (λ rest. stands_with w at (at.0, rest)) (get m at.0)

-- a look is one step, and one more where a point is handed out
abbrev pub look_steps : {A : Type 0} → Option A → ℕ
look_steps None = 1
look_steps (Some p) = 2

-- the operand of a number; it is empty where there is none
abbrev pub operand : ℕ → List DataSet → DataSet
operand n xs = unwrap_or (slice_get xs n) empty

-- what a want has of the operands
abbrev pub holding_of : List DataSet → Want → Holding
holding_of xs w = record { want = w; content = operand w.operand xs }
