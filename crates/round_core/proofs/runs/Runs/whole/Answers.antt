use Rattle.std.proofs.Common.{◌-◌, arith}
use Rattle.std.proofs.lemmas.List.{length-map}
use Rattle.std.specs.Arc.{arc_value}
use Rattle.round_core.specs.Inputs.{changes_in}
use Rattle.round_core.proofs.RunLemmas.{all_runs_and_none, run_joined_at, no_run}
use Rattle.round_core.proofs.runs.Runs.whole.Goals as goal

pub loop-left-init : goal.loop-left-init
loop-left-init c =
    let runs = c.args.self.now in
    let long = length-map runs.runs.items arc_value in
    (omega arith, all_runs_and_none (changes_in runs) c.len-left.result c.nothing-whole.result (omega (arith, long)) c.nothing-whole.ensures)

pub loop-left-preserved : goal.loop-left-preserved
loop-left-preserved c =
    let runs = c.args.self.now in
    let inv = c.loop-left.invariant in
    let some = c.loop-left-test.true in (
      omega (arith, inv.0),
      run_joined_at (changes_in runs) runs.runs.items (c.loop-left.left - 1) c.loop-left.left c.index.result.now c.deref.result.now c.loop-left.whole c.in_ok-whole.whole inv.1 (omega (arith, some)) (omega (arith, some, inv.0)) c.index.ensures c.deref.ensures c.in_ok-whole.ensures.leads,
    )

pub returns : goal.returns
returns c = no_run (changes_in c.args.self.now) c.loop-left.left c.loop-left.whole (omega arith) c.loop-left.invariant.1
