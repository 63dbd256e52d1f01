use Rattle.std.proofs.Common.{◌≡◌, [], drop}
use Rattle.ruleset_faults.specs.Rulesets.{point_rules_seen}
use Rattle.ruleset_faults.proofs.rules.see_point_rules.Given as goal

abbrev pub invariant-loop-n : goal.invariant-loop-n
invariant-loop-n l = point_rules_seen l.names [] 0 l.rules ≡ point_rules_seen l.names l.earlier.items l.n (drop l.n l.rules)
