use Rattle.std.proofs.Common.{◌≡◌, map, take}
use Rattle.vtl_syntax.specs.declared.operator.DefinedOperator.{DefinedOperator}
use Rattle.operator_faults.specs.Outlines.{outlined}
use Rattle.written_sizes.specs.Arithmetic.{limited}
use Rattle.written_sizes.specs.Weights.{form}
use Rattle.written_sizes.proofs.weights.next_forms.Given as goal

abbrev pub invariant-loop-i : goal.invariant-loop-i
invariant-loop-i l = l.next ≡ map (λ (o : DefinedOperator). form (limited l.measure) l.measure l.operators l.forms o.params (outlined o.body)) (take l.i l.operators)
