use Rattle.std.proofs.Common.{◌≡◌, ◌++◌, drop}
use Rattle.structured_sets.specs.Fitting.{others}
use Rattle.join_eval.proofs.components.others.Given as goal

abbrev pub invariant-loop-component : goal.invariant-loop-component
invariant-loop-component l = others l.components ≡ l.found ++ others (drop l.component-index l.components)
