use Rattle.std.proofs.Common.{List, ap, sym, ◌∙◌}
use Rattle.std.specs.Result.{result_err, result_ok}
use Rattle.vtl_syntax.specs.declared.ruleset.DatapointRule.{DatapointRule}
use Rattle.scalar_trees.specs.declared.typing.stop.Fault.{Fault}
use Rattle.data_set_trees.specs.rules.Datapoints.{rule_faults, rule_typed}
use Rattle.rule_typing.proofs.Walked.{finds, goes_on}
use Rattle.rule_typing.proofs.point_rules.rules_checked.Goals as goal
use Rattle.rule_typing.proofs.point_rules.rules_checked.Goals.{in-Ok+in_ok-push-in-Ok, in-Err}

pub loop-i-preserved : goal.loop-i-preserved
loop-i-preserved c =
    let typed = rule_typed c.args.scope.now c.args.place in
    let faults : DatapointRule → List Fault = rule_faults c.args.scope.now c.args.place in
    let rules = c.args.rules.now in
    let i = c.loop-i.i in
    let x = c.index-rules-i.result in
    let known = c.in_ok-rule.ensures in
    elim c.match-branch-2.branch [
      | in-Ok+in_ok-push-in-Ok w ↦
          goes_on typed faults rules i x c.loop-i.checked c.loop-i.first c.loop-i-test.true c.index-rules-i.is c.loop-i.invariant w.in-Ok.rule c.match-branch-2.checked c.match-branch-2.first
          (ap result_ok (sym w.in-Ok.is) ∙ known.rule) (ap result_err (sym w.in-Ok.is) ∙ known.fault) (w.checked-is ∙ w.in_ok-push-in-Ok.ensures.ok) w.first-is
      | in-Err w ↦
          finds typed faults rules i x c.loop-i.checked c.loop-i.first c.loop-i-test.true c.index-rules-i.is c.loop-i.invariant w.in-Err.fault c.match-branch-2.checked c.match-branch-2.first
          (ap result_ok (sym w.in-Err.is) ∙ known.rule) (ap result_err (sym w.in-Err.is) ∙ known.fault) w.checked-is (w.first-is ∙ w.earlier-first.ensures)
    ]
