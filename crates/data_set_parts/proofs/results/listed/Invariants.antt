use Rattle.std.proofs.Common.{◌≡◌, take}
use Rattle.data_set_parts.proofs.results.listed.Given as goal

abbrev pub invariant-loop-component : goal.invariant-loop-component
invariant-loop-component l = l.list.items ≡ take l.component-index l.components
