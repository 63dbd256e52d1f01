use Rattle.std.proofs.Common.{◌≡◌, ◌+◌, ◌*◌, ◌≤◌, drop, map, min}
use Rattle.std.specs.Arc.{arc_value}
use Rattle.data_model.specs.declared.TheConstants.{POINT_LIMIT}
use Rattle.cross_joins.specs.Counts.{combinations_after}
use Rattle.cross_joins.proofs.counts.few_combinations.Given as goal

-- the product so far, with what the operands from here on multiply it by
abbrev pub invariant-loop-i : goal.invariant-loop-i
invariant-loop-i g l = record {
  count : min (l.product * combinations_after (drop l.i l.held) (drop l.i (map arc_value l.news))) (POINT_LIMIT + 1) ≡ min (combinations_after l.held (map arc_value l.news)) (POINT_LIMIT + 1);
  most : l.product ≤ POINT_LIMIT + 1;
  steps : l.steps ≡ l.fn.steps + l.i;
}
