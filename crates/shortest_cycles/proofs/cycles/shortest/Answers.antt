use Rattle.std.proofs.Common.{◌≡◌, ℕ, ◌+◌, ◌-◌, List, Bool, false, length, ap, ◌∙◌}
use Rattle.std.specs.Prelude.{find}
use Rattle.shortest_cycles.specs.Cycles.{count_from}
use Rattle.shortest_cycles.specs.Tables.{is_on}
use Rattle.shortest_cycles.proofs.CycleLemmas.{find-later}
use Rattle.shortest_cycles.proofs.Rows.{count-open}
use Rattle.shortest_cycles.proofs.cycles.shortest.Goals as goal

pub loop-n-preserved : goal.loop-n-preserved
loop-n-preserved c =
    let p : ℕ → Bool = is_on c.args.ways.now c.args.start in
    let n = c.loop-n.n in
    let m = length c.args.ways.now in
    let e = c.if-is_on.ensures in
    let f = c.if-is_on.false in
    let fail : p n ≡ false = cc in
    c.loop-n.invariant
    ∙ ap (λ (ns : List ℕ). find p ns) (count-open n m c.loop-n-test.true)
    ∙ find-later p n (count_from (n + 1) (m - (n + 1))) fail
