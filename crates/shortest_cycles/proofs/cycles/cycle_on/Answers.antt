use Rattle.std.proofs.Common.{◌≡◌, ℕ, suc, ◌-◌, ◌+◌, ◌<◌, List, ◌++◌, Bool, length, refl, subst, ap, ◌∙◌, arith}
use Rattle.shortest_cycles.specs.Cycles.{between}
use Rattle.shortest_cycles.specs.Tables.{rows, next_on, IsNext}
use Rattle.shortest_cycles.proofs.Rows.{length-rows, way-step}
use Rattle.shortest_cycles.proofs.cycles.cycle_on.Goals as goal

pub loop-k-preserved : goal.loop-k-preserved
loop-k-preserved c =
    let g = c.args.graph.now in
    let s = c.args.start in
    let left = c.args.left in
    let k = c.loop-k.k in
    let n = left - 1 - k in
    let m = length g in
    let last = c.loop-k.last in
    let next = c.in_ok-last.last in
    let x = c.loop-k.cycle in
    let y = c.put_next.new.out in
    let inside : k < left = c.loop-k-test.true in
    let here : left - k ≡ suc n = omega arith in
    let there : n ≡ left - (k + 1) = omega arith in
    let few : left < m = subst (λ (a : ℕ). left < a) (ap (λ (w : List (List Bool)). length w) c.requires.table ∙ length-rows g s m) c.requires.within in
    let less : n < m = omega arith in
    let step : IsNext (next_on g (rows g s m) n last) last x next y = subst (λ (w : List (List Bool)). IsNext (next_on g w n last) last x next y) c.requires.table c.in_ok-last.ensures in
    c.loop-k.invariant
    ∙ ap (λ (a : ℕ). x ++ between g a s last) here
    ∙ way-step g m n s last next x y less (next_on g (rows g s m) n last) refl step
    ∙ ap (λ (a : ℕ). y ++ between g a s next) there
