use Rattle.std.proofs.Common.{subst, sym, ◌∙◌, ap, arith, List, length, get_or}
use Rattle.round_core.specs.declared.inputs.InputChange.{InputChange}
use Rattle.round_core.specs.Inputs.{Carries}
use Rattle.round_core.proofs.Lists.{each_push, get_or_any}
use Rattle.round_core.proofs.inputs.Inputs.carried.Goals as goal

pub loop-change-preserved : goal.loop-change-preserved
loop-change-preserved c =
    let inv = c.loop-change.invariant in
    let n = c.loop-change.change-index in
    let changes = c.as_slice-changes.result.now in
    let old = c.loop-change.next.items in
    let x = c.in_ok-carried.field-0 in (
      omega (arith, c.in_ok-push.ensures.len, inv.0),
      λ i d e l. subst (λ (v : List InputChange). Carries (get_or changes i d) (get_or v i e)) (sym c.in_ok-push.ensures.items)
          (each_push (λ (y z : InputChange). Carries z y) old changes n x inv.0 (λ k p q m. inv.1 k q p m) (λ q. subst (λ (y : InputChange). Carries y x) (c.change-item.is ∙ get_or_any changes n c.change-item.result q c.loop-change-test.true) c.in_ok-carried.ensures) i e d l),
    )

pub returns : goal.returns
returns c =
    let inv = c.loop-change.invariant in
    let v = c.as_slice-changes.ensures.value in
    let long = ap length v in record {
      many = omega (arith, inv.0, long, c.loop-change-test.false, c.loop-change.auto.change-index-end);
      each = λ i d e l. subst (λ (q : List InputChange). Carries (get_or q i d) (get_or c.loop-change.next.items i e)) v (inv.1 i d e (omega (arith, l, long, c.loop-change-test.false)));
    }
