use Rattle.std.proofs.Common.{◌≡◌, ◌∙◌, max, refl, arith}
use Rattle.vtl_grammar.specs.Rules.{first_place}
use Rattle.vtl_grammar.specs.Rulesets.{datapoint_rule_of}
use Rattle.vtl_parser.proofs.RuleFaults.{datapoint-is}
use Rattle.vtl_cursor.proofs.Shown.{shown_deep}
use Rattle.vtl_parser.proofs.rulesets.DatapointRuleListItem.parse.Goals as goal

pub returns : goal.returns
returns g c =
    let levels : max 0 (max c.in_ok-condition.in_condition (max (max c.in_ok-expr.in_expr 0) 0)) ≡ c.max.result = omega (arith, c.max.ensures) in
    let rule = c.datapoint_rule-rule.ensures ∙ rw (c.fault_part-fault.ensures, c.first_place-place.ensures) refl in
    shown_deep datapoint_rule_of _ _ _ _ (rw (c.in_ok-name.ensures.reads, c.in_ok-condition.ensures.reads, c.in_ok-expr.ensures, c.in_ok-code.ensures.reads, c.in_ok-level.ensures.reads, levels)
    (datapoint-is (first_place c.args.cursor.now.tokens.now) c.in_ok-name.ensures.value c.in_ok-condition.ensures.value c.in_ok-expr.expr c.in_ok-code.ensures.value c.in_ok-level.ensures.value
    c.in_ok-name.name c.in_ok-condition.condition c.in_ok-code.code c.in_ok-level.level c.datapoint_rule-rule.result _ _
    c.in_ok-name.ensures.shows c.in_ok-condition.ensures.shows c.in_ok-code.ensures.shows c.in_ok-level.ensures.shows rule))
