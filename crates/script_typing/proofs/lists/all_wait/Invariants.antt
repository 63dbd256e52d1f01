use Rattle.std.proofs.Common.{◌≡◌, ◌++◌, length, reverse}
use Rattle.script_typing.specs.States.{all_wait}
use Rattle.script_typing.proofs.lists.all_wait.Given as goal

abbrev pub invariant-loop-statement : goal.invariant-loop-statement
invariant-loop-statement l = all_wait l.fn.statements ≡ l.states ++ all_wait (reverse l.turned)

abbrev pub decreases-loop-statement : goal.decreases-loop-statement
decreases-loop-statement l = length l.turned
