use Rattle.std.proofs.Common.{◌≡◌, ◌++◌, take}
use Rattle.clause_eval.proofs.values.push_all.Given as goal

abbrev pub invariant-loop-value : goal.invariant-loop-value
invariant-loop-value l = l.all ≡ l.fn.all ++ take l.value-index l.values
