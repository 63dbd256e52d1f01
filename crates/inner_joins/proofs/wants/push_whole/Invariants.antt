use Rattle.std.proofs.Common.{◌≡◌, ◌++◌, map}
use Rattle.std.specs.List.{range_with_len}
use Rattle.held_index.specs.Wants.{whole}
use Rattle.inner_joins.specs.Rules.{main_number, number_at}
use Rattle.inner_joins.proofs.wants.push_whole.Given as goal

-- the operands so far are wanted
abbrev pub invariant-loop-place : goal.invariant-loop-place
invariant-loop-place l = l.wants ≡ l.fn.wants ++ map whole (map (number_at (main_number l.plan)) (range_with_len 0 l.place))
