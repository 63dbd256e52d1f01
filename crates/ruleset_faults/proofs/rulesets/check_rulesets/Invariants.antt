use Rattle.std.proofs.Common.{◌≡◌, drop}
use Rattle.ruleset_faults.specs.Rulesets.{rulesets_seen}
use Rattle.ruleset_faults.proofs.rulesets.check_rulesets.Given as goal

abbrev pub invariant-loop-ruleset : goal.invariant-loop-ruleset
invariant-loop-ruleset l = rulesets_seen l.rulesets ≡ rulesets_seen (drop l.ruleset-index l.rulesets)
