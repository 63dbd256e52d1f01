use Rattle.value_cases.specs.Operands.{IsOperand}
use Rattle.value_cases.proofs.held.steps_text.Given as goal

abbrev pub invariant-loop-step : goal.invariant-loop-step
invariant-loop-step g l = IsOperand l.operand
