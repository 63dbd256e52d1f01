use Rattle.std.proofs.Common.{◌≡◌, [], drop}
use Rattle.cross_joins.specs.Combinations as meant
use Rattle.cross_joins.specs.Rows.{lists_in}
use Rattle.cross_joins.proofs.combinations.is_any_without_choice.Given as goal

-- where there is no combination, there is none of the operands that are left
abbrev pub invariant-loop-i : goal.invariant-loop-i
invariant-loop-i l = meant.combinations_of (meant.choices l.side l.first 0 (lists_in l.rows)) ≡ [] → meant.combinations_of (meant.choices l.side l.first l.i-counter (drop l.i-counter (lists_in l.rows))) ≡ []
