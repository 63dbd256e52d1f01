use Rattle.std.proofs.Common.{◌-◌, length}
use Rattle.round_runs.specs.Rounds.{IsOpen, WorksOn}
use Rattle.round_runs.proofs.round.run_round.Given as goal

abbrev pub invariant-works : goal.invariant-works
invariant-works g l = record { open_round : IsOpen l.production; works : WorksOn l.by l.initial.production l.production }

abbrev pub decreases-works : goal.decreases-works
decreases-works g l = l.production.limits.entries - length l.production.journal
