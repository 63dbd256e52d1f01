use Rattle.std.proofs.Common.{◌≡◌, ◌+◌, ◌∷◌, arith, length-append}
use Rattle.std.specs.Arc.{arc_value}
use Rattle.ordered_tree.proofs.Totals.{total-++}
use Rattle.ordered_tree.proofs.tree.joined.Goals as goal

pub total_or-requires-clause-fits : goal.total_or-requires-clause-fits
total_or-requires-clause-fits g c = rw c.none-none.ensures g.met.M.Measure.fitting.empty

pub around-requires-clause-left : goal.around-requires-clause-left
around-requires-clause-left g c = rw c.len-before.ensures c.total_or.ensures.fits

pub around-requires-clause-right : goal.around-requires-clause-right
around-requires-clause-right g c = rw c.len-after.ensures c.total_or-2.ensures.fits

pub invariant_of-result : goal.invariant_of-result
invariant_of-result g c =
    let e = total-++ g.met.M.Measure.monoid g.T.Measured.of c.args.left (arc_value c.args.item ∷ c.args.right) in
    let n : c.len-before.result + (1 + c.len-after.result) ≡ c.len-before.result + c.len-after.result + 1 = omega arith in
    let laws = g.met.M.Measure.fitting in
    let l = c.total_or.result.now in
    let x = c.measure.result.now in
    let r = c.total_or-2.result.now in
    let left = rw (← c.len-before.ensures) at c.total_or.ensures.fits in
    let right = rw (← c.len-after.ensures) at c.total_or-2.ensures.fits in
    let fit = laws.both c.len-before.result (1 + c.len-after.result) l (g.M.Measure.join x r) left (laws.both 1 c.len-after.result x r c.measure.ensures.fits right) in
    rw c.in_ok-new.ensures.ok (record {
      size = omega (arith, length-append c.args.left (arc_value c.args.item ∷ c.args.right));
      total = cc (e, c.in_ok-total.ensures, c.total_or.ensures.total, c.total_or-2.ensures.total, c.measure.ensures.is, c.deref.ensures);
      fitting = rw (c.in_ok-total.ensures, ← n) fit;
      few = omega arith;
      balanced = c.requires.balanced;
    })
