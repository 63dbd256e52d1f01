use Rattle.std.proofs.Common.{◌≡◌, ◌+◌, ◌++◌, ◌∷◌, [], sym, ap, ◌∙◌, drop, List, ℕ, append_assoc}
use Rattle.std.specs.Prelude.{filter_map, if◌then◌else◌}
use Rattle.std.proofs.lemmas.List.{drop_more}
use Rattle.vtl_syntax.specs.declared.ruleset.HierarchyRule.{HierarchyRule}
use Rattle.ruleset_faults.specs.Items.{first_for, items_for, works_out, right_items}
use Rattle.ruleset_faults.proofs.Leading.{of_first}
use Rattle.ruleset_faults.proofs.items.rules_for_item.Goals as goal

pub loop-rule-preserved : goal.loop-rule-preserved
loop-rule-preserved c =
    let rules = c.args.rules.now in
    let item = c.args.item.now in
    let i = c.loop-rule.rule-index in
    let r = c.rule-item.result in
    let rest = drop (i + 1) rules in
    let found : List HierarchyRule → List ℕ = λ rs. filter_map (first_for rules) (items_for rs item) in
    let own : List ℕ = filter_map (first_for rules) (if works_out item r then right_items r else []) in
    let more : drop i rules ≡ r ∷ rest = drop_more rules i r c.loop-rule-test.true ∙ ap (λ (x : HierarchyRule). x ∷ rest) (sym c.rule-item.is) in
    let split : found (drop i rules) ≡ own ++ found rest = ap found more ∙ of_first (first_for rules) item r rest in
    c.loop-rule.invariant
    ∙ ap (λ (ns : List ℕ). c.loop-rule.numbers ++ ns) split
    ∙ sym (append_assoc c.loop-rule.numbers own (found rest))
    ∙ ap (λ (ns : List ℕ). ns ++ found rest) (sym (c.in_ok-put_rule.ensures {u = tt}))
