use Rattle.std.proofs.Common.{◌≡◌, map, take}
use Rattle.data_set_trees.specs.Pairs.{measure_component}
use Rattle.data_set_parts.proofs.joins.measure_components.Given as goal

abbrev pub invariant-loop-measure : goal.invariant-loop-measure
invariant-loop-measure l = l.all ≡ map measure_component (take l.measure-index l.measures)
