use Rattle.std.proofs.Common.{◌≡◌, ◌++◌, drop}
use Rattle.cross_joins.specs.Combinations as meant
use Rattle.cross_joins.specs.Rows.{lists_in}
use Rattle.cross_joins.proofs.combinations.choices.Given as goal

-- the rows of the operands so far are chosen
abbrev pub invariant-loop-i : goal.invariant-loop-i
invariant-loop-i l = meant.choices l.side l.first 0 (lists_in l.rows) ≡ lists_in l.all ++ meant.choices l.side l.first l.i-counter (drop l.i-counter (lists_in l.rows))
