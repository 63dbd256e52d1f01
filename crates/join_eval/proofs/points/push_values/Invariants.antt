use Rattle.std.proofs.Common.{◌≡◌, ◌++◌, drop}
use Rattle.clause_meaning.specs.Clauses.{values_at}
use Rattle.join_eval.proofs.points.push_values.Given as goal

abbrev pub invariant-loop-number : goal.invariant-loop-number
invariant-loop-number l = l.fn.values ++ values_at l.numbers l.rest ≡ l.values ++ values_at (drop l.number-index l.numbers) l.rest
