use Rattle.std.proofs.Common.{◌≡◌, ◌++◌, List, ℕ, drop}
use Rattle.std.specs.Prelude.{filter_map}
use Rattle.vtl_syntax.specs.declared.ruleset.HierarchyRule.{HierarchyRule}
use Rattle.ruleset_faults.specs.Items.{first_for, items_for}
use Rattle.ruleset_faults.proofs.items.rules_for_item.Given as goal

abbrev pub invariant-loop-rule : goal.invariant-loop-rule
invariant-loop-rule l =
    let found : List HierarchyRule → List ℕ = λ rules. filter_map (first_for l.rules) (items_for rules l.item) in
    found l.rules ≡ l.numbers ++ found (drop l.rule-index l.rules)
