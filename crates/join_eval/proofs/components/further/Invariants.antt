use Rattle.std.proofs.Common.{◌≡◌, ◌++◌, drop}
use Rattle.data_set_trees.specs.Components.{further}
use Rattle.join_eval.proofs.components.further.Given as goal

abbrev pub invariant-loop-component : goal.invariant-loop-component
invariant-loop-component l = further l.others l.components ≡ l.found ++ further l.others (drop l.component-index l.components)
