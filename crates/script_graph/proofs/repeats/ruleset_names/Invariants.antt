use Rattle.std.proofs.Common.{◌≡◌, [], map, take, drop}
use Rattle.script_graph.specs.Words.{ruleset_name, ruleset_place}
use Rattle.script_graph.specs.Faults.{repeated}
use Rattle.script_graph.proofs.repeats.ruleset_names.Given as goal

-- the names so far, and no repeated one among them
abbrev pub invariant-loop-ruleset : goal.invariant-loop-ruleset
invariant-loop-ruleset l =
    (l.names ≡ map ruleset_name (take l.ruleset-index l.rulesets))
    × (repeated ruleset_name ruleset_place [] l.rulesets ≡ repeated ruleset_name ruleset_place (map ruleset_name (take l.ruleset-index l.rulesets)) (drop l.ruleset-index l.rulesets))
