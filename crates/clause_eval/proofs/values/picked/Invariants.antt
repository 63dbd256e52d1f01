use Rattle.std.proofs.Common.{◌≡◌, ◌++◌, drop}
use Rattle.clause_meaning.specs.Clauses.{values_at}
use Rattle.clause_eval.proofs.values.picked.Given as goal

abbrev pub invariant-loop-number : goal.invariant-loop-number
invariant-loop-number l = values_at l.numbers l.values ≡ l.picked.items ++ values_at (drop l.number-index l.numbers) l.values
