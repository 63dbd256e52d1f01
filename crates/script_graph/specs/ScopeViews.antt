-- What a scope of the code says of names.
use Rattle.script_graph.specs.declared.scope.Scope.{Scope}
use Rattle.script_graph.specs.Scopes.{Names}

abbrev pub names_in : Scope → Names
names_in s = record { inputs = s.structures.now; results = s.results; rulesets = s.rulesets.now }
