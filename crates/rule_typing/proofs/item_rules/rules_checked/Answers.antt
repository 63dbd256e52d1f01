use Rattle.std.proofs.Common.{List, ap, sym, ◌∙◌}
use Rattle.std.specs.Result.{result_err, result_ok}
use Rattle.vtl_syntax.specs.declared.ruleset.HierarchyRule.{HierarchyRule}
use Rattle.scalar_trees.specs.declared.typing.stop.Fault.{Fault}
use Rattle.data_set_trees.specs.rules.Hierarchies.{rule_typed}
use Rattle.data_set_trees.specs.rules.Rules.{condition_typed, fault_in}
use Rattle.rule_typing.proofs.Walked.{all_told, finds, goes_on}
use Rattle.rule_typing.proofs.item_rules.rules_checked.Goals as goal
use Rattle.rule_typing.proofs.item_rules.rules_checked.Goals.{in-Ok+in_ok-push-in-Ok, in-Err}

pub loop-i-preserved : goal.loop-i-preserved
loop-i-preserved c =
    let typed = rule_typed c.args.scope.now c.args.place in
    let faults : HierarchyRule → List Fault = λ h. fault_in (condition_typed c.args.scope.now c.args.place h.condition) in
    let rules = c.args.rules.now in
    let i = c.loop-i.i in
    let x = c.index-rules-i.result in
    let known = c.in_ok-rule.ensures in
    elim c.match-branch-2.branch [
      | in-Ok+in_ok-push-in-Ok w ↦
          goes_on typed faults rules i x c.loop-i.checked c.loop-i.first c.loop-i-test.true c.index-rules-i.is c.loop-i.invariant w.in-Ok.rule c.match-branch-2.checked c.match-branch-2.first
          (ap result_ok (sym w.in-Ok.is) ∙ known.rule) (ap result_err (sym w.in-Ok.is) ∙ known.fault) (w.checked-is ∙ w.in_ok-push-in-Ok.ensures.ok) w.first-is
      | in-Err w ↦
          finds typed faults rules i x c.loop-i.checked c.loop-i.first c.loop-i-test.true c.index-rules-i.is c.loop-i.invariant w.in-Err.fault c.match-branch-2.checked c.match-branch-2.first
          (ap result_ok (sym w.in-Err.is) ∙ known.rule) (ap result_err (sym w.in-Err.is) ∙ known.fault) w.checked-is (w.first-is ∙ w.earlier-first.ensures)
    ]

pub returns-clause-fault : goal.returns-clause-fault
returns-clause-fault c =
    let faults : HierarchyRule → List Fault = λ h. fault_in (condition_typed c.args.scope.now c.args.place h.condition) in
    all_told (rule_typed c.args.scope.now c.args.place) faults c.args.rules.now c.loop-i.i c.loop-i.checked c.loop-i.first c.loop-i-test.false c.loop-i.invariant
