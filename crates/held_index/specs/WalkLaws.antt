-- Laws of the orders in which points are walked.
use Rattle.std.proofs.Common.{List, [], ◌∷◌, Bool, true, false, refl}
use Rattle.std.specs.declared.cmp.Ordering.{Ordering}
use Rattle.std.specs.declared.cmp.Ordering.TheVariants.{Equal}
use Rattle.std.specs.Cmp.{IsTotalOrder}
use Rattle.std.proofs.lemmas.Cmp.{on_total, then_total, back_total}
use Rattle.vtl_values.proofs.Values.{value_cmp-IsTotalOrder, key_cmp-IsTotalOrder}
use Rattle.held_index.specs.declared.want.Want.{Want}
use Rattle.held_index.specs.declared.want.OrderItem.{OrderItem}
use Rattle.held_index.specs.Walks.{PointValues, component_of, part_key, directed, item_cmp, order_cmp, place_cmp, walk_cmp, WalkEntry, entry_cmp}

directed-IsTotalOrder : {X : Type 0} {cmp : X → X → Ordering} (down : Bool) → IsTotalOrder cmp → IsTotalOrder (directed down cmp)
directed-IsTotalOrder false o = o
directed-IsTotalOrder true o = back_total o

item_cmp-IsTotalOrder : (o : OrderItem) → IsTotalOrder (item_cmp o)
item_cmp-IsTotalOrder o = directed-IsTotalOrder o.descending (on_total (component_of o.component) value_cmp-IsTotalOrder)

level : {K : Type 0} → IsTotalOrder (λ (x y : K). Equal)
level = record { antisymm = λ x y. refl; trans = λ x y z e f. e; congr = λ x y z e. refl }

order_cmp-IsTotalOrder : (os : List OrderItem) → IsTotalOrder (order_cmp os)
order_cmp-IsTotalOrder [] = level
order_cmp-IsTotalOrder (o ∷ os) = then_total (item_cmp-IsTotalOrder o) (order_cmp-IsTotalOrder os)

pub place_cmp-IsTotalOrder : (w : Want) → IsTotalOrder (place_cmp w)
place_cmp-IsTotalOrder w = then_total (order_cmp-IsTotalOrder w.order) (on_total (λ (p : PointValues). p.0) key_cmp-IsTotalOrder)

pub walk_cmp-IsTotalOrder : (w : Want) → IsTotalOrder (walk_cmp w)
walk_cmp-IsTotalOrder w = then_total (on_total (part_key w.part) key_cmp-IsTotalOrder) (place_cmp-IsTotalOrder w)

pub entry_cmp-IsTotalOrder : (w : Want) → IsTotalOrder (entry_cmp w)
entry_cmp-IsTotalOrder w = on_total (λ (e : WalkEntry). e.0) (walk_cmp-IsTotalOrder w)
