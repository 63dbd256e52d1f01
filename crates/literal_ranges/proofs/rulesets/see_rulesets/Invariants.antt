use Rattle.std.proofs.Common.{◌≡◌, true, take}
use Rattle.std.specs.List.{list_all}
use Rattle.literal_ranges.specs.Ranges.{ruleset_in_range}
use Rattle.literal_ranges.proofs.rulesets.see_rulesets.Given as goal

abbrev pub invariant-loop-ruleset : goal.invariant-loop-ruleset
invariant-loop-ruleset l = list_all ruleset_in_range (take l.ruleset-index l.rulesets) ≡ true
