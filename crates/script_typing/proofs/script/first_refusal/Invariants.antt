use Rattle.std.proofs.Common.{◌≡◌, drop}
use Rattle.script_typing.specs.Scripts.{first_refusal}
use Rattle.script_typing.proofs.script.first_refusal.Given as goal

abbrev pub invariant-loop-state : goal.invariant-loop-state
invariant-loop-state l = first_refusal l.states ≡ first_refusal (drop l.state-index l.states)
