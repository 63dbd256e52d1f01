use Rattle.std.proofs.Common.{◌≡◌, subst, sym, ◌∙◌, ap, arith, List, length, get_or}
use Rattle.std.specs.FinMap.{empty}
use Rattle.point_sets.specs.DataSets.{DataSet}
use Rattle.revision_judge.specs.Judging.{input}
use Rattle.round_core.specs.declared.inputs.InputChange.{InputChange}
use Rattle.round_core.specs.Inputs.{ChangeKept}
use Rattle.round_core.proofs.Lists.{each_push_one, get_or_any}
use Rattle.round_core.proofs.NextLemmas.{at_input}
use Rattle.round_core.proofs.StepLemmas.{begins_by}
use Rattle.round_core.proofs.inputs.Inputs.from_nothing.Goals as goal

pub loop-set-preserved : goal.loop-set-preserved
loop-set-preserved c =
    let inv = c.loop-set.invariant in
    let n = c.loop-set.set-index in
    let sets = c.as_slice-sets.result.now in
    let x = c.in_ok-started.field-0 in
    let set = c.set-item.result in
    let here : set ≡ input sets n = c.set-item.is ∙ get_or_any sets n set empty c.loop-set-test.true ∙ sym (at_input sets n) in
    let this : ChangeKept empty (input sets n) (input sets n) x = subst (λ (s : DataSet). ChangeKept empty s s x) here (begins_by set c.in_ok-all_of.field-0 x c.in_ok-started.ensures c.in_ok-all_of.ensures) in (
      omega (arith, c.in_ok-push.ensures.len, inv.0),
      λ i d l. subst (λ (v : List InputChange). ChangeKept empty (input sets i) (input sets i) (get_or v i d)) (sym c.in_ok-push.ensures.items)
          (each_push_one (λ k y. ChangeKept empty (input sets k) (input sets k) y) c.loop-set.changes.items n x inv.0 inv.1 this i d l),
    )

pub returns : goal.returns
returns c =
    let inv = c.loop-set.invariant in
    let v = c.as_slice-sets.ensures.value in
    let long = ap length v in record {
      many = omega (arith, inv.0, long, c.loop-set-test.false, c.loop-set.auto.set-index-end);
      each = λ i d l. subst (λ (q : List DataSet). ChangeKept empty (input q i) (input q i) (get_or c.loop-set.changes.items i d)) v (inv.1 i d (omega (arith, l, long, c.loop-set-test.false)));
    }
