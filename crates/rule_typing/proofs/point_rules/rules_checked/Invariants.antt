use Rattle.data_set_trees.specs.rules.Datapoints.{rule_faults, rule_typed}
use Rattle.rule_typing.proofs.Walked.{Walked}
use Rattle.rule_typing.proofs.point_rules.rules_checked.Given as goal

abbrev pub invariant-loop-i : goal.invariant-loop-i
invariant-loop-i l = Walked (rule_typed l.scope l.place) (rule_faults l.scope l.place) l.rules l.i l.checked l.first
