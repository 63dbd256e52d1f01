use Rattle.std.proofs.Common.{◌≡◌, ◌≤◌, ◌++◌, drop, take, length, vec_len}
use Rattle.transform_nodes.proofs.settle.put_all.Given as goal

-- the first patches are left, and the others are in place
abbrev pub invariant-loop-patch : goal.invariant-loop-patch
invariant-loop-patch l = record {
  few : length l.pending.items ≤ length l.initial.pending.items;
  left : l.pending.items ≡ take (length l.pending.items) l.initial.pending.items;
  put : l.held.items ≡ take (length l.pending.items) l.initial.held.items ++ drop (length l.pending.items) l.initial.pending.items;
}

abbrev pub decreases-loop-patch : goal.decreases-loop-patch
decreases-loop-patch l = vec_len l.pending
