use Rattle.std.proofs.Common.{◌≡◌, ◌++◌, map}
use Rattle.std.specs.List.{range_with_len}
use Rattle.inner_joins.specs.Rules.{main_number, number_at, parts_for}
use Rattle.inner_joins.proofs.wants.push_parts.Given as goal

-- the main operand is wanted for the others so far
abbrev pub invariant-loop-place : goal.invariant-loop-place
invariant-loop-place l = l.wants ≡ l.fn.wants ++ map (parts_for l.plan) (map (number_at (main_number l.plan)) (range_with_len 0 l.place))
