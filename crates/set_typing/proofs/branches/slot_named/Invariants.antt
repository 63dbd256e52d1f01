use Rattle.std.proofs.Common.{◌≡◌, drop}
use Rattle.std.specs.Prelude.{find}
use Rattle.data_set_trees.specs.Pairs.{is_called}
use Rattle.set_typing.proofs.branches.slot_named.Given as goal

abbrev pub invariant-loop-measure : goal.invariant-loop-measure
invariant-loop-measure l = find (is_called l.name) l.measures ≡ find (is_called l.name) (drop l.measure-index l.measures)
