use Rattle.std.proofs.Common.{List, ℕ, subst}
use Rattle.commands.specs.Ends.{Did}
use Rattle.round_runs.specs.Eval.{behind, end_of, judge_all}
use Rattle.commands.proofs.call.run.Goals as goal

pub returns-in-Ok-clause-did : goal.returns-in-Ok-clause-did
returns-in-Ok-clause-did g c =
    let meant = end_of c.args.input.script (judge_all c.args.input.script c.args.input.revisions.items).accepted in
    subst (λ (t : List ℕ). Did (g.K.Sink.view c.args.out.now) (g.K.Sink.view c.write_run-status.new.out) (behind t meant) c.write_run-status.result)
    c.in-Ok.ensures.lines (c.write_run-status.ensures.did meant c.in-Ok.ensures.end)
