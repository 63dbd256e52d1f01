use Rattle.std.proofs.Common.{◌≡◌, map}
use Rattle.std.specs.List.{range_with_len}
use Rattle.held_index.specs.Wants.{whole}
use Rattle.held_index.proofs.want.all_whole.Given as goal

abbrev pub invariant-loop-number : goal.invariant-loop-number
invariant-loop-number l = l.all ≡ map whole (range_with_len 0 l.number)
