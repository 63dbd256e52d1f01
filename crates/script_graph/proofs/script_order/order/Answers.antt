use Rattle.std.proofs.Common.{◌≡◌, ℕ, List, Option, None, sym, subst, ap, ◌∙◌}
use Rattle.std.proofs.Math.Path.{ap₂}
use Rattle.std.specs.Option.{option_and_then}
use Rattle.vtl_values.specs.Structures.{NamedStructures}
use Rattle.vtl_syntax.specs.declared.script.Statement.{Statement}
use Rattle.shortest_cycles.specs.Paths.{Graph, HasNoCycle}
use Rattle.shortest_cycles.specs.Cycles.{first_cycle}
use Rattle.script_graph.specs.Scopes.{Names}
use Rattle.script_graph.specs.Orders.{LeadsWithin, IsOrder}
use Rattle.script_graph.specs.Faults.{graph_of, told, cycle, unknown}
use Rattle.script_graph.proofs.OneOrder.{only}
use Rattle.script_graph.proofs.Whole.{graph_within, cycle_is, order_cycle, faultless}
use Rattle.script_graph.proofs.script_order.order.Goals as goal

pub in_order-requires : goal.in_order-requires
in_order-requires c =
    let s = c.args.script.now in
    let inputs = c.in_ok-scope.scope.structures.now in
    let is : c.as_slice.result.now ≡ graph_of s inputs = c.as_slice.ensures ∙ c.in_ok-graph.ensures.1 in
    subst (λ (g : Graph). LeadsWithin g) (sym is) (graph_within s inputs)

pub returns-in-Some-clause-faultless : goal.returns-in-Some-clause-faultless
returns-in-Some-clause-faultless c =
    let s = c.args.script.now in
    let inputs = c.args.structures.now in
    let same : c.in_ok-scope.scope.structures.now ≡ inputs = ap (λ (n : Names). n.inputs) c.in_ok-scope.ensures.1 in
    let is : c.as_slice.result.now ≡ graph_of s inputs = c.as_slice.ensures ∙ c.in_ok-graph.ensures.1 ∙ ap (graph_of s) same in
    let u : unknown s inputs ≡ None = ap (unknown s) (sym same) ∙ c.in_ok-graph.ensures.0 in
    let o = rw c.in-Some.is at c.in_ok-order.ensures.order in
    faultless s inputs c.in_ok-scope.ensures.0 u (order_cycle s inputs c.in-Some.order.items (subst (λ (g : Graph). IsOrder g c.in-Some.order.items) is o))

pub unreachable-requires : goal.unreachable-requires
unreachable-requires c =
    let s = c.args.script.now in
    let inputs = c.args.structures.now in
    let same : c.in_ok-scope.scope.structures.now ≡ inputs = ap (λ (n : Names). n.inputs) c.in_ok-scope.ensures.1 in
    let graph : c.in_ok-graph.graph ≡ graph_of s inputs = c.in_ok-graph.ensures.1 ∙ ap (graph_of s) same in
    let has = rw c.in_default.is at c.in_ok-order.ensures.none in
    let acyclic : HasNoCycle (graph_of s inputs) → ⊥ = subst (λ (g : Graph). HasNoCycle g → ⊥) (c.as_slice.ensures ∙ graph) has in
    let none : cycle s inputs ≡ None =
    ap₂ (λ (ts : List Statement) (g : Graph). option_and_then (told ts) (first_cycle g)) (sym c.as_slice-2.ensures) (sym graph)
    ∙ sym (c.in_ok-fault.ensures {u = tt}) ∙ c.in-None.is in
    cycle_is s inputs acyclic none

pub returns-in-Some-clause-uses : goal.returns-in-Some-clause-uses
returns-in-Some-clause-uses c =
    let s = c.args.script.now in
    c.in_ok-graph.ensures.1 ∙ ap (λ (n : Names). graph_of s n.inputs) c.in_ok-scope.ensures.1

pub returns-in-Some-clause-value : goal.returns-in-Some-clause-value
returns-in-Some-clause-value c =
    let s = c.args.script.now in
    let is : c.as_slice.result.now ≡ graph_of s c.args.structures.now = c.as_slice.ensures ∙ c.in_ok-graph.ensures.1 ∙ ap (λ (n : Names). graph_of s n.inputs) c.in_ok-scope.ensures.1 in
    let o = rw c.in-Some.is at c.in_ok-order.ensures.order in
    only (graph_of s c.args.structures.now) c.in-Some.order.items (subst (λ (g : Graph). IsOrder g c.in-Some.order.items) is o)
