use Rattle.std.proofs.Common.{◌≡◌, ℕ, ◌<◌, List, Bool, Option, Some, None, length, sym, ap, ◌∙◌, subst, arith}
use Rattle.script_graph.specs.Orders.{next_of}
use Rattle.script_graph.proofs.Orders.{next_can, order_step, stuck_early}
use Rattle.script_graph.proofs.ordering.in_order.Goals as goal

pub set-requires : goal.set-requires
set-requires c =
    let g = c.args.graph.now in
    let marks = c.loop-n.marks in
    let m = c.loop-n.invariant.0 in
    let found : next_of g marks ≡ Some c.in-Some.number = ap (next_of g) (sym c.as_slice.ensures) ∙ sym c.in-Some.ensures in
    subst (λ (n : ℕ). c.in-Some.number < n) (sym m.long) (next_can g marks c.loop-n.order.items c.in-Some.number m found).below

pub loop-n-preserved : goal.loop-n-preserved
loop-n-preserved c =
    let g = c.args.graph.now in
    let marks = c.loop-n.marks in
    let found : next_of g marks ≡ Some c.in-Some.number = ap (next_of g) (sym c.as_slice.ensures) ∙ sym c.in-Some.ensures in
    order_step g marks c.set.new.self c.loop-n.order.items c.push.new.self.items c.in-Some.number c.loop-n._n c.loop-n.invariant.0 c.loop-n.invariant.1 c.loop-n.invariant.2 found c.set.ensures c.in_ok-push.ensures.items

pub returns-in_default-clause-none : goal.returns-in_default-clause-none
returns-in_default-clause-none c =
    let g = c.args.graph.now in
    let marks = c.loop-n.marks in
    let long : length c.loop-n.order.items ≡ c.loop-n._n = c.loop-n.invariant.2 in
    let less : c.loop-n._n < length g = c.loop-n-test.true in
    let short : length c.loop-n.order.items < length g = omega arith in
    let none : next_of g marks ≡ None = ap (next_of g) (sym c.as_slice.ensures) ∙ sym c.next_of.ensures ∙ c.in_default.is in
    stuck_early g marks c.loop-n.order.items c.requires c.loop-n.invariant.0 short none
