use Rattle.std.proofs.Common.{◌≡◌, drop}
use Rattle.script_typing.specs.States.{all_have_sets}
use Rattle.script_typing.proofs.typing.all_have_sets.Given as goal

abbrev pub invariant-loop-number : goal.invariant-loop-number
invariant-loop-number l = all_have_sets l.states l.numbers ≡ all_have_sets l.states (drop l.number-index l.numbers)
