use Rattle.std.proofs.Common.{◌≡◌, ◌+◌, ◌≤◌, map, take, length}
use Rattle.std.specs.Arc.{arc_value}
use Rattle.transform_nodes.specs.Reach.{all_reach}
use Rattle.transform_nodes.specs.Runs.{Moves, AreRunnable, RanAll}
use Rattle.transform_nodes.specs.Trees.{all_forgotten, plain, plains_of}
use Rattle.transform_nodes.proofs.carry.+run.Given as goal

-- the news were carried through the operands so far, and the others are as they were
abbrev pub invariant-run_children-loop-i : goal.invariant-run_children-loop-i
invariant-run_children-loop-i g l = record {
  unvisited : goal.unvisited-run_children-loop-i g l;
  kept : all_forgotten (plains_of (map plain l.children.items)) ≡ all_forgotten (plains_of (map plain l.initial.children.items));
  count : length l.all.news.items ≡ l.i;
  ran : ((m : Moves (map arc_value l.sources)) → AreRunnable (map arc_value l.sources) m (plains_of (map plain l.initial.children.items)) → RanAll (map arc_value l.sources) m (take l.i (map plain l.initial.children.items)) (take l.i (map plain l.children.items)) (map arc_value l.all.news.items) l.all.points);
  steps : ((m : Moves (map arc_value l.sources)) → AreRunnable (map arc_value l.sources) m (plains_of (map plain l.initial.children.items)) → l.steps ≤ l.initial.steps + all_reach m.old m.new (plains_of (take l.i (map plain l.initial.children.items))));
}
