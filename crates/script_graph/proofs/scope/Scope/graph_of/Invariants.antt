use Rattle.std.proofs.Common.{◌≡◌, None, map, take}
use Rattle.std.specs.List.{flat_map}
use Rattle.script_graph.specs.Mentions.{of_statement}
use Rattle.script_graph.specs.Scopes.{first_unknown}
use Rattle.script_graph.specs.Faults.{uses_in}
use Rattle.script_graph.proofs.scope.Scope.graph_of.Given as goal
use Rattle.script_graph.specs.ScopeViews.{names_in}

abbrev pub invariant-loop-statement : goal.invariant-loop-statement
invariant-loop-statement l = (first_unknown (names_in l.self) (flat_map of_statement (take l.statement-index l.statements)) ≡ None) × (l.graph ≡ map (uses_in (names_in l.self)) (take l.statement-index l.statements))
