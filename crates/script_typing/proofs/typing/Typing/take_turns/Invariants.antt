use Rattle.std.proofs.Common.{◌≡◌, drop}
use Rattle.script_typing.specs.States.{after_turns}
use Rattle.script_typing.specs.Views.{so_far}
use Rattle.script_typing.proofs.typing.Typing.take_turns.Given as goal

-- what is left gives what all gave at the beginning
abbrev pub invariant-loop-number : goal.invariant-loop-number
invariant-loop-number l = after_turns l.graph (drop l.number-index l.order) (so_far l.self) ≡ after_turns l.graph l.order (so_far l.initial.self)
