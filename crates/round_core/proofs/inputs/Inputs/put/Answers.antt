use Rattle.std.proofs.Common.{◌≡◌, ◌∷◌, length, ap, refl, arith}
use Rattle.std.specs.Vec.Iter.{into_iter_items}
use Rattle.round_core.proofs.NextLemmas.{nothing_left, next_put, all_put, has_still, has_next}
use Rattle.round_core.proofs.inputs.Inputs.put.Goals as goal

pub loop-next-preserved : goal.loop-next-preserved
loop-next-preserved c =
    let at = c.loop-next in
    let next = c.in-Some.next in
    let all = into_iter_items at.next-iterator in
    let rest = into_iter_items c.next.new.self in
    let change = c.index_mut-in-loop-next.result.now in
    let steps : all ≡ next ∷ rest = c.in-Some.ensures.steps.0 in
    record {
      count = let was = at.invariant.count in let gone = c.in-Some.ensures.steps.1 in let short = ap length steps in omega arith;
      numbers = has_still at.self next.set next.value (record change { newer = next.newer }) all rest next steps at.invariant.numbers;
      put = λ bases tos nows afters k h l. next_put bases tos nows afters all rest next at.self _ change steps (at.invariant.put bases tos nows afters k h l) (has_next at.self all rest next steps at.invariant.numbers) refl refl c.index_mut-in-loop-next.ensures.value;
    }

pub returns : goal.returns
returns c = λ bases tos nows afters k h l.
    all_put bases tos nows afters (into_iter_items c.loop-next.next-iterator) c.loop-next.self (nothing_left (into_iter_items c.loop-next.next-iterator) (let many = c.loop-next.invariant.count in let none = c.in-None.ensures.steps.0 in omega arith)) (c.loop-next.invariant.put bases tos nows afters k h l)
