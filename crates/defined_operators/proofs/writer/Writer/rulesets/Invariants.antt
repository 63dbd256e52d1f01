use Rattle.std.proofs.Common.{◌≡◌, map, take}
use Rattle.replaced_calls.specs.Scripts.{ruleset_with}
use Rattle.defined_operators.specs.Writers.{writes}
use Rattle.defined_operators.proofs.writer.Writer.rulesets.Given as goal

abbrev pub invariant-loop-tree : goal.invariant-loop-tree
invariant-loop-tree l = l.made ≡ map (ruleset_with (writes l.self)) (take l.tree-index l.rulesets)
