use Rattle.std.proofs.Common.{◌≡◌, None, take}
use Rattle.std.specs.List.{flat_map}
use Rattle.script_graph.specs.Mentions.{of_ruleset}
use Rattle.script_graph.specs.Scopes.{first_unknown}
use Rattle.script_graph.proofs.scope.Scope.want_rulesets.Given as goal
use Rattle.script_graph.specs.ScopeViews.{names_in}

abbrev pub invariant-loop-ruleset : goal.invariant-loop-ruleset
invariant-loop-ruleset l = first_unknown (names_in l.self) (flat_map of_ruleset (take l.ruleset-index l.rulesets)) ≡ None
