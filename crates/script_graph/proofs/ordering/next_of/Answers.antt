use Rattle.std.proofs.Common.{◌≡◌, ℕ, ◌+◌, ◌-◌, ◌<◌, List, Bool, false, length, ap, ◌∙◌, arith}
use Rattle.std.specs.Prelude.{find}
use Rattle.shortest_cycles.specs.Cycles.{count_from}
use Rattle.shortest_cycles.proofs.CycleLemmas.{find-later}
use Rattle.shortest_cycles.proofs.Rows.{count-open}
use Rattle.script_graph.specs.Orders.{can_come}
use Rattle.script_graph.proofs.ordering.next_of.Goals as goal

pub loop-number-preserved : goal.loop-number-preserved
loop-number-preserved c =
    let p : ℕ → Bool = can_come c.args.graph.now c.args.marks.now in
    let n = c.loop-number.number in
    let m = length c.args.graph.now in
    let e = c.if-can_come.ensures in
    let f = c.if-can_come.false in
    let fail : p n ≡ false = cc in
    c.loop-number.invariant
    ∙ ap (λ (ns : List ℕ). find p ns) (count-open n m c.loop-number-test.true)
    ∙ find-later p n (count_from (n + 1) (m - (n + 1))) fail
