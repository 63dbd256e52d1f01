use Rattle.std.proofs.Common.{◌≡◌, ◌++◌, ◌∷◌, map, take}
use Rattle.cross_joins.specs.Rows.{lists_in, shared_row}
use Rattle.cross_joins.proofs.combinations.push_with_first.Given as goal

abbrev pub invariant-loop-combination : goal.invariant-loop-combination
invariant-loop-combination l = lists_in l.all ≡ lists_in l.fn.all ++ map (λ c. shared_row l.row ∷ c) (lists_in (take l.combination-index l.combinations))
