use Rattle.std.proofs.Common.{◌≡◌, ◌++◌, drop}
use Rattle.std.specs.Prelude.{filter_map}
use Rattle.exists_ops.specs.Parts.{shared_number}
use Rattle.exists_ops.proofs.numbers.numbers_in.Given as goal

abbrev pub invariant-loop-component : goal.invariant-loop-component
invariant-loop-component l = filter_map (shared_number l.structure l.left) l.right ≡ l.numbers ++ filter_map (shared_number l.structure l.left) (drop l.component-index l.right)
