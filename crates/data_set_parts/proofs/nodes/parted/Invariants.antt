use Rattle.std.proofs.Common.{◌≡◌, ◌++◌, map, length}
use Rattle.data_set_trees.specs.declared.operand.DataSet.{DataSet}
use Rattle.data_set_parts.proofs.nodes.parted.Given as goal

abbrev pub invariant-loop-set : goal.invariant-loop-set
invariant-loop-set l = record {
  trees : map (λ (d : DataSet). d.tree) l.fn.sets ≡ l.parts.trees ++ map (λ (d : DataSet). d.tree) l.sets;
  structures : map (λ (d : DataSet). d.structure) l.fn.sets ≡ l.parts.structures ++ map (λ (d : DataSet). d.structure) l.sets;
}

abbrev pub decreases-loop-set : goal.decreases-loop-set
decreases-loop-set l = length l.sets
