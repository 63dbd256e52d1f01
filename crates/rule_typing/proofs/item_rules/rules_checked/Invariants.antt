use Rattle.data_set_trees.specs.rules.Hierarchies.{rule_typed}
use Rattle.data_set_trees.specs.rules.Rules.{condition_typed, fault_in}
use Rattle.rule_typing.proofs.Walked.{Walked}
use Rattle.rule_typing.proofs.item_rules.rules_checked.Given as goal

abbrev pub invariant-loop-i : goal.invariant-loop-i
invariant-loop-i l = Walked (rule_typed l.scope l.place) (λ h. fault_in (condition_typed l.scope l.place h.condition)) l.rules l.i l.checked l.first
