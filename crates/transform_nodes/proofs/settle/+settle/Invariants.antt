use Rattle.std.proofs.Common.{◌≡◌, map, take}
use Rattle.transform_nodes.specs.Nodes.{settled_tree}
use Rattle.transform_nodes.specs.Trees.{plain}
use Rattle.transform_nodes.proofs.settle.+settle.Given as goal

-- the operands so far are settled, and the others are as they were
abbrev pub invariant-settle_children-loop-i : goal.invariant-settle_children-loop-i
invariant-settle_children-loop-i l = record {
  unvisited : goal.unvisited-settle_children-loop-i l;
  done : take l.i (map plain l.children.items) ≡ map (settled_tree l.settle) (take l.i (map plain l.initial.children.items));
}
