use Rattle.std.proofs.Common.{◌≡◌, ◌++◌, map, take, drop}
use Rattle.std.specs.Map.{keys_of}
use Rattle.vtl_syntax.specs.declared.script.Statement.{Statement}
use Rattle.script_graph.specs.Faults.{repeated, result_repeated}
use Rattle.script_graph.proofs.repeats.results.Given as goal

-- the names so far, and no repeated one among them
abbrev pub invariant-loop-statement : goal.invariant-loop-statement
invariant-loop-statement l =
    (l.names ≡ map (λ (t : Statement). t.name) (take l.statement-index l.statements))
    × (result_repeated l.structures l.statements ≡ repeated (λ (t : Statement). t.name) (λ (t : Statement). t.place) (keys_of l.structures ++ map (λ (t : Statement). t.name) (take l.statement-index l.statements)) (drop l.statement-index l.statements))
