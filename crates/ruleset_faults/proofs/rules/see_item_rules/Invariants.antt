use Rattle.std.proofs.Common.{◌≡◌, [], drop}
use Rattle.ruleset_faults.specs.Rulesets.{item_rules_seen}
use Rattle.ruleset_faults.proofs.rules.see_item_rules.Given as goal

abbrev pub invariant-loop-n : goal.invariant-loop-n
invariant-loop-n l = item_rules_seen l.names l.rules l.cyclic [] 0 l.rules ≡ item_rules_seen l.names l.rules l.cyclic l.earlier.items l.n (drop l.n l.rules)
