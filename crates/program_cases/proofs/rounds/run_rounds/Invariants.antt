use Rattle.std.proofs.Common.{◌≡◌}
use Rattle.program_cases.proofs.rounds.run_rounds.Given as goal

abbrev pub invariant-loop-number : goal.invariant-loop-number
invariant-loop-number g l = l.production.script ≡ l.initial.production.script
