use Rattle.std.proofs.Common.{◌≡◌, ◌++◌, drop}
use Rattle.ruleset_faults.specs.Items.{graph_from, graph_of}
use Rattle.ruleset_faults.proofs.items.graph_of.Given as goal

abbrev pub invariant-loop-number : goal.invariant-loop-number
invariant-loop-number l = graph_of l.rules ≡ l.graph ++ graph_from l.rules l.number (drop l.number l.rules)
