use Rattle.std.proofs.Common.{◌+◌, ◌*◌, ◌≤◌, length, map, take}
use Rattle.std.specs.Arc.{arc_value}
use Rattle.held_index.specs.Holdings.{AllPlain}
use Rattle.set_ops.specs.Noted.{IsNoted}
use Rattle.set_ops.proofs.notes.noted.Given as goal

-- the keys so far are noted, with a look at each operand for each
abbrev pub invariant-loop-key : goal.invariant-loop-key
invariant-loop-key g l = record {
  noted : (AllPlain l.held → IsNoted l.operation l.readings l.held (map arc_value l.news) (take l.key-index l.key-items) l.draft);
  within : l.key-index ≤ length l.key-items;
  steps : l.steps ≤ l.fn.steps + 2 * length l.readings * l.key-index;
}
