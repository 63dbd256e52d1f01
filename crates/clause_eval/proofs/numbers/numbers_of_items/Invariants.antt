use Rattle.std.proofs.Common.{◌≡◌, map, take}
use Rattle.clause_eval.proofs.numbers.numbers_of_items.Given as goal

abbrev pub invariant-loop-item : goal.invariant-loop-item
invariant-loop-item l = l.numbers ≡ map (λ i. i.component) (take l.item-index l.items)
