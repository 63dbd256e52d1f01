use Rattle.std.proofs.Common.{◌≡◌, Option, Some, None, List, ℕ, true, sym, ap, subst, ◌∙◌}
use Rattle.std.specs.Prelude.{IfSome, is_some}
use Rattle.shortest_cycles.specs.Paths.{Graph, HasNoCycle}
use Rattle.script_graph.specs.Orders.{LeadsWithin, IsOrder}
use Rattle.script_graph.proofs.Orders.{order_acyclic}
use Rattle.ruleset_faults.specs.Items.{first_of, graph_of}
use Rattle.ruleset_faults.proofs.Leading.{leads_within, acyclic_where, no_first}
use Rattle.ruleset_faults.proofs.items.depending.Goals as goal

pub in_order-requires : goal.in_order-requires
in_order-requires c = subst LeadsWithin (sym (c.as_slice.ensures ∙ c.in_ok-graph.ensures {u = tt})) (leads_within c.args.rules.now)

pub returns-then-is_some : goal.returns-then-is_some
returns-then-is_some c =
    let g = graph_of c.args.rules.now in
    let same : c.as_slice.result.now ≡ g = c.as_slice.ensures ∙ c.in_ok-graph.ensures {u = tt} in
    let none = acyclic_where c.as_slice.result.now c.in_ok-in_order.field-0 (sym c.is_some.ensures ∙ c.if-is_some.true) ((c.in_ok-in_order.ensures {u = tt}).order) in
    ap first_of (sym (no_first g (subst HasNoCycle same none)))
