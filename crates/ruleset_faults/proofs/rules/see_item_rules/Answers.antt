use Rattle.std.proofs.Common.{◌≡◌, ◌+◌, ◌++◌, ◌∷◌, [], List, sym, ap, ◌∙◌, subst, drop}
use Rattle.std.proofs.lemmas.List.{drop_more}
use Rattle.vtl_syntax.specs.declared.ruleset.HierarchyRule.{HierarchyRule}
use Rattle.scalar_trees.specs.typing.Steps.{◌>>=◌, Refuses}
use Rattle.operator_typing.proofs.Steps.{stops_same, stops_there}
use Rattle.data_set_trees.specs.rules.Rules.{rule_name}
use Rattle.ruleset_faults.specs.Expressions.{Seen}
use Rattle.ruleset_faults.specs.Rulesets.{item_rule_seen, item_rules_seen, may_work_out}
use Rattle.ruleset_faults.proofs.Levels.{stopped}
use Rattle.ruleset_faults.proofs.rules.see_item_rules.Goals as goal

pub returns-in_err-see_item_rule : goal.returns-in_err-see_item_rule
returns-in_err-see_item_rule c =
    let names = c.args.names.now in
    let rules = c.args.rules.now in
    let cyclic = c.args.cyclic in
    let n = c.loop-n.n in
    let r = c.index-rules-n.result in
    let rest = drop (n + 1) rules in
    let earlier = c.loop-n.earlier.items in
    let stop = c.in_err-see_item_rule.field-0.0 in
    let name = rule_name (n + 1) r.name in
    let more : drop n rules ≡ r ∷ rest = drop_more rules n r c.loop-n-test.true ∙ ap (λ (x : HierarchyRule). x ∷ rest) (sym c.index-rules-n.is) in
    let whole = item_rules_seen names rules cyclic [] 0 rules in
    let left = item_rules_seen names rules cyclic earlier n (r ∷ rest) in
    let same : left ≡ whole = sym (c.loop-n.invariant ∙ ap (λ (rs : List HierarchyRule). item_rules_seen names rules cyclic earlier n rs) more) in
    let meaning = item_rule_seen names earlier name (may_work_out rules cyclic n r) r in
    let given = item_rule_seen names c.as_slice.result.now c.in_ok-name.name c.may_work_out-may.result r in
    let named : given ≡ meaning = (λ k. item_rule_seen names (c.as_slice.ensures.value k) (c.in_ok-name.ensures {u = tt} k) (c.may_work_out-may.ensures k) r) in
    stopped whole stop c.from_residual-in_err-see_item_rule.result
    (stops_same left whole stop same (stops_there meaning (λ met. item_rules_seen names rules cyclic (earlier ++ name ∷ []) (n + 1) rest) stop (subst (λ (q : Seen). Refuses q stop) named (c.in_err-see_item_rule.ensures {u = tt}).err)))
    c.from_residual-in_err-see_item_rule.ensures.1
