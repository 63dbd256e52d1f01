use Rattle.std.proofs.Common.{◌≡◌, ℕ, ◌<◌, false}
use Rattle.operator_meaning.specs.joins.Joins.{is_whole}
use Rattle.join_eval.specs.Plans.{structure_of}
use Rattle.inner_joins.proofs.plan.first_whole.Given as goal

-- none so far has all identifiers
abbrev pub invariant-loop-operand : goal.invariant-loop-operand
invariant-loop-operand l = (k : ℕ) → k < l.operand → is_whole l.join (structure_of l.join k) ≡ false
