use Rattle.std.proofs.Common.{◌≡◌, ◌++◌, length, drop}
use Rattle.operator_meaning.specs.joins.Joins.{runs}
use Rattle.join_eval.proofs.sides.runs.Given as goal

abbrev pub invariant-loop-operand : goal.invariant-loop-operand
invariant-loop-operand l = runs 0 l.operands ≡ l.all ++ runs (length l.before) (drop l.operand-index l.operands)
