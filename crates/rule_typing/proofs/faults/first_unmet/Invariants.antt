use Rattle.std.proofs.Common.{◌≡◌, take}
use Rattle.data_set_trees.specs.rules.Rules.{first_fault, unmet}
use Rattle.rule_typing.proofs.faults.first_unmet.Given as goal

abbrev pub invariant-loop-holds : goal.invariant-loop-holds
invariant-loop-holds l = l.found ≡ first_fault (unmet (take l.holds-index l.demanded))
