use Rattle.std.proofs.Common.{◌≡◌, ◌++◌, map, length}
use Rattle.data_set_trees.specs.declared.operand.DataSet.{DataSet}
use Rattle.data_set_trees.specs.Trees.{data_sets}
use Rattle.data_set_parts.proofs.nodes.parted_among.Given as goal

abbrev pub invariant-loop-operand : goal.invariant-loop-operand
invariant-loop-operand l = record {
  trees : map (λ (d : DataSet). d.tree) (data_sets l.fn.operands) ≡ l.parts.trees ++ map (λ (d : DataSet). d.tree) (data_sets l.operands);
  structures : map (λ (d : DataSet). d.structure) (data_sets l.fn.operands) ≡ l.parts.structures ++ map (λ (d : DataSet). d.structure) (data_sets l.operands);
}

abbrev pub decreases-loop-operand : goal.decreases-loop-operand
decreases-loop-operand l = length l.operands
