use Rattle.data_model.specs.Deltas.{BeginsAt}
use Rattle.value_cases.proofs.held.operand.delta_of.Given as goal

abbrev pub invariant-loop-row : goal.invariant-loop-row
invariant-loop-row l = BeginsAt l.notes l.set
