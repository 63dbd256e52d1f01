use Rattle.std.proofs.Common.{◌++◌, ◌∷◌, [], ◌-◌, arith}
use Rattle.round_core.specs.Inputs.{changes_in}
use Rattle.round_core.proofs.RunLemmas.{run_joined_at}
use Rattle.round_core.proofs.runs.Runs.merged.Goals as goal

pub loop-kept-preserved : goal.loop-kept-preserved
loop-kept-preserved c =
    let runs = c.args.self.now in
    let inv = c.loop-kept.invariant in
    let some = c.loop-kept-test.true in (
      omega (arith, inv.0),
      run_joined_at (changes_in runs ++ c.args.delta ∷ []) runs.runs.items (c.loop-kept.kept - 1) c.loop-kept.kept c.index-in-loop-kept.result.now c.deref-in-loop-kept.result.now c.loop-kept.last c.in_ok-last.last inv.1 (omega (arith, some)) (omega (arith, some, inv.0)) c.index-in-loop-kept.ensures c.deref-in-loop-kept.ensures c.in_ok-last.ensures.leads,
    )
