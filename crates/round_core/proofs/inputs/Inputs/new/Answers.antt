use Rattle.std.proofs.Common.{◌≡◌, subst, sym, arith, List, get_or}
use Rattle.std.specs.FinMap.{empty}
use Rattle.point_sets.specs.DataSets.{DataSet}
use Rattle.round_core.specs.declared.inputs.InputChange.{InputChange}
use Rattle.round_core.specs.Inputs.{ChangeKept}
use Rattle.round_core.proofs.Lists.{each_push_one}
use Rattle.round_core.proofs.inputs.Inputs.new.Goals as goal

pub loop-n-preserved : goal.loop-n-preserved
loop-n-preserved c =
    let inv = c.loop-n.invariant in
    let n = c.loop-n.n in (
      omega (arith, c.in_ok-push.ensures.len, inv.0),
      omega (arith, c.in_ok-push-2.ensures.len, inv.1),
      λ i d l. subst (λ (v : List DataSet). get_or v i d ≡ empty) (sym c.in_ok-push.ensures.items) (each_push_one (λ k x. x ≡ empty) c.loop-n.sets.items n c.new-set.result inv.0 inv.2 c.new-set.ensures i d l),
      λ i d l. subst (λ (v : List InputChange). ChangeKept empty empty empty (get_or v i d)) (sym c.in_ok-push-2.ensures.items) (each_push_one (λ k x. ChangeKept empty empty empty x) c.loop-n.changes.items n c.unchanged-change.result inv.1 inv.3 c.unchanged-change.ensures i d l),
    )
