use Rattle.std.proofs.Common.{◌≡◌, ℕ, ◌+◌, ◌-◌, ◌<◌, List, Option, None, length, ap, ◌∙◌, arith}
use Rattle.shortest_cycles.specs.Firsts.{or_else, first_some}
use Rattle.shortest_cycles.specs.Cycles.{cycle_of, count_from}
use Rattle.shortest_cycles.proofs.Rows.{count-open}
use Rattle.shortest_cycles.proofs.cycles.find_cycle.Goals as goal

pub loop-start-preserved : goal.loop-start-preserved
loop-start-preserved c =
    let g = c.args.graph.now in
    let s = c.loop-start.start in
    let m = length g in
    let within : s < m = (let a = c.loop-start-test.true in let b = c.len-start-end.ensures in omega arith) in
    let e = c.in_ok-cycle.ensures in
    let f = c.in_default.is in
    let nothing : cycle_of g s ≡ None = cc in
    c.loop-start.invariant
    ∙ ap (λ (ns : List ℕ). first_some (cycle_of g) ns) (count-open s m within)
    ∙ ap (λ (o : Option (List ℕ)). or_else o (first_some (cycle_of g) (count_from (s + 1) (m - (s + 1))))) nothing
