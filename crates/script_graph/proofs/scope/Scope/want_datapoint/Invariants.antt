use Rattle.std.proofs.Common.{◌≡◌, None, take}
use Rattle.std.specs.List.{flat_map}
use Rattle.script_graph.specs.Mentions.{of_datapoint}
use Rattle.script_graph.specs.Scopes.{first_unknown}
use Rattle.script_graph.proofs.scope.Scope.want_datapoint.Given as goal
use Rattle.script_graph.specs.ScopeViews.{names_in}

abbrev pub invariant-loop-rule : goal.invariant-loop-rule
invariant-loop-rule l = first_unknown (names_in l.self) (flat_map of_datapoint (take l.rule-index l.rules)) ≡ None
