use Rattle.std.proofs.Common.{◌≡◌, ◌++◌, length, reverse}
use Rattle.script_typing.specs.Scripts.{checked_in}
use Rattle.script_typing.proofs.lists.checked_in.Given as goal

abbrev pub invariant-loop-state : goal.invariant-loop-state
invariant-loop-state l = checked_in l.fn.states ≡ l.checked ++ checked_in (reverse l.turned)

abbrev pub decreases-loop-state : goal.decreases-loop-state
decreases-loop-state l = length l.turned
