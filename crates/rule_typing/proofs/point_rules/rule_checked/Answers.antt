use Rattle.std.proofs.Common.{ap, ◌∙◌}
use Rattle.std.specs.Result.{result_err}
use Rattle.data_set_trees.specs.rules.Rules.{boolean_typed, condition_typed}
use Rattle.rule_typing.proofs.PointRules.{rule_told}
use Rattle.rule_typing.proofs.point_rules.rule_checked.Goals as goal

pub returns-clause-fault : goal.returns-clause-fault
returns-clause-fault c =
    let scope = c.args.scope.now in
    let place = c.args.place in
    let rule = c.args.rule.now in
    ap result_err c.point_rule.ensures
    ∙ rule_told c.in_ok-name.name c.in_ok-error.error (condition_typed scope place rule.condition) (boolean_typed scope place rule.expr) c.in_ok-condition.condition c.in_ok-value.value c.in_ok-condition.ensures c.in_ok-value.ensures
