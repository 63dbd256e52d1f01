use Rattle.std.proofs.Common.{◌≡◌, true, take}
use Rattle.std.specs.List.{list_all}
use Rattle.literal_ranges.specs.Ranges.{datapoint_in_range}
use Rattle.literal_ranges.proofs.rulesets.see_point_rules.Given as goal

abbrev pub invariant-loop-rule : goal.invariant-loop-rule
invariant-loop-rule l = list_all datapoint_in_range (take l.rule-index l.rules) ≡ true
