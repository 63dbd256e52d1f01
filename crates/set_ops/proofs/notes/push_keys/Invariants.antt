use Rattle.std.proofs.Common.{◌≡◌, ◌++◌, map, take}
use Rattle.clause_meaning.specs.Clauses.{values_at}
use Rattle.set_ops.proofs.notes.push_keys.Given as goal

abbrev pub invariant-loop-change : goal.invariant-loop-change
invariant-loop-change l = l.keys.items ≡ l.fn.keys.items ++ map (λ c. values_at l.reading.key c.key) (take l.change-index l.change-items)
