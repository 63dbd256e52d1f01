use Rattle.std.proofs.Common.{◌≡◌, map, take}
use Rattle.replaced_calls.specs.Scripts.{hierarchy_with}
use Rattle.defined_operators.specs.Writers.{writes}
use Rattle.defined_operators.proofs.writer.Writer.hierarchies.Given as goal

abbrev pub invariant-loop-rule : goal.invariant-loop-rule
invariant-loop-rule l = l.made ≡ map (hierarchy_with (writes l.self)) (take l.rule-index l.rules)
