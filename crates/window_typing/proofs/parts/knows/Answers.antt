use Rattle.std.proofs.Common.{◌≡◌, ℕ, List, map, Bool, true, ◌&&◌, ap, sym, ◌∙◌}
use Rattle.std.specs.Prelude.{is_some}
use Rattle.std.specs.List.{list_all}
use Rattle.std.proofs.lemmas.List.Folds.{list_all-map}
use Rattle.vtl_syntax.specs.declared.expr.OrderItem.{OrderItem}
use Rattle.data_set_trees.specs.clauses.Clauses.{bare_number_of}
use Rattle.data_set_trees.specs.windows.Parts.{are_known, order_items, partition_names}
use Rattle.window_typing.proofs.parts.knows.Goals as goal

pub returns-then-are_known : goal.returns-then-are_known
returns-then-are_known c =
    let frame = c.args.frame.now in
    let over = c.args.over.now in
    let name_of : OrderItem → List ℕ = λ o. o.name in
    let names = map name_of (order_items over) in
    let known : are_known frame (partition_names over) ≡ true = sym (c.are_known.ensures ∙ ap (are_known frame) c.partition_names.ensures) ∙ c.if-are_known.true in
    let is_known : List ℕ → Bool = λ name. is_some (bare_number_of frame name) in
    let ordered : c.knows_order.result ≡ are_known frame names = c.knows_order.ensures ∙ ap (list_all (λ (o : OrderItem). is_known o.name)) c.order_items.ensures ∙ sym (list_all-map is_known name_of (order_items over)) in
    ordered ∙ sym (ap (λ (b : Bool). b && are_known frame names) known)
