use Rattle.std.proofs.Common.{◌≡◌, drop}
use Rattle.ruleset_faults.specs.Rulesets.{all_differ}
use Rattle.ruleset_faults.proofs.rulesets.all_differ.Given as goal

abbrev pub invariant-loop-n : goal.invariant-loop-n
invariant-loop-n l = all_differ l.names ≡ all_differ (drop l.n l.names)
