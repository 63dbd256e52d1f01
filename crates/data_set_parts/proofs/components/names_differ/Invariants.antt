use Rattle.std.proofs.Common.{◌≡◌, drop}
use Rattle.data_set_trees.specs.Components.{names_differ}
use Rattle.data_set_parts.proofs.components.names_differ.Given as goal

abbrev pub invariant-loop-i : goal.invariant-loop-i
invariant-loop-i l = names_differ l.components ≡ names_differ (drop l.i l.components)
