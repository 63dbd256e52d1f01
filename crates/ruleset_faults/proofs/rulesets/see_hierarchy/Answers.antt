use Rattle.std.proofs.Common.{◌≡◌, [], Option, ℕ, List, sym, ap, ◌∙◌, subst}
use Rattle.vtl_syntax.specs.declared.ruleset.HierarchyRule.{HierarchyRule}
use Rattle.scalar_trees.specs.declared.typing.stop.Fault.TheVariants.{NameTwice}
use Rattle.scalar_trees.specs.typing.Steps.{◌>>=◌, Refuses, demanded}
use Rattle.operator_typing.proofs.Steps.{goes_on, stops_there}
use Rattle.data_set_trees.specs.rules.Hierarchies.{variables_of}
use Rattle.ruleset_faults.specs.Expressions.{Seen}
use Rattle.ruleset_faults.specs.Items.{depending}
use Rattle.ruleset_faults.specs.Rulesets.{item_rules_seen, names_of, all_differ, hierarchy_seen}
use Rattle.ruleset_faults.proofs.Levels.{tells_same, stopped}
use Rattle.ruleset_faults.proofs.rulesets.see_hierarchy.Goals as goal

pub returns-in_err-see_item_rules : goal.returns-in_err-see_item_rules
returns-in_err-see_item_rules c =
    let v = c.args.rules.now in
    let names : c.as_slice-2.result.now ≡ names_of (variables_of v) = c.as_slice-2.ensures.value ∙ c.in_ok-names.ensures {u = tt} ∙ ap names_of c.variables_of.ensures in
    let cyclic : c.in_ok-cyclic.cyclic ≡ depending v.rules = c.in_ok-cyclic.ensures {u = tt} ∙ ap depending c.as_slice.ensures in
    let given = item_rules_seen c.as_slice-2.result.now c.as_slice-3.result.now c.in_ok-cyclic.cyclic [] 0 c.as_slice-3.result.now in
    let meaning = item_rules_seen (names_of (variables_of v)) v.rules (depending v.rules) [] 0 v.rules in
    let same : given ≡ meaning = (λ k. item_rules_seen (names k) (c.as_slice-3.ensures k) (cyclic k) [] 0 (c.as_slice-3.ensures k)) in
    let stop = c.in_err-see_item_rules.field-0.0 in
    let refuses : Refuses meaning stop = subst (λ (q : Seen). Refuses q stop) same (c.in_err-see_item_rules.ensures {u = tt}).err in
    stopped (hierarchy_seen v) stop c.from_residual-in_err-see_item_rules.result
    (stops_there meaning (λ met. demanded (all_differ (names_of (variables_of v))) NameTwice v.place) stop refuses)
    c.from_residual-in_err-see_item_rules.ensures.1

pub returns : goal.returns
returns c =
    let v = c.args.rules.now in
    let is : c.in_ok-names.names.items ≡ names_of (variables_of v) = c.in_ok-names.ensures {u = tt} ∙ ap names_of c.variables_of.ensures in
    let names : c.as_slice-2.result.now ≡ names_of (variables_of v) = c.as_slice-2.ensures.value ∙ is in
    let cyclic : c.in_ok-cyclic.cyclic ≡ depending v.rules = c.in_ok-cyclic.ensures {u = tt} ∙ ap depending c.as_slice.ensures in
    let given = item_rules_seen c.as_slice-2.result.now c.as_slice-3.result.now c.in_ok-cyclic.cyclic [] 0 c.as_slice-3.result.now in
    let meaning = item_rules_seen (names_of (variables_of v)) v.rules (depending v.rules) [] 0 v.rules in
    let same : given ≡ meaning = (λ k. item_rules_seen (names k) (c.as_slice-3.ensures k) (cyclic k) [] 0 (c.as_slice-3.ensures k)) in
    let ends = demanded c.all_differ.result NameTwice v.place in
    let goes : hierarchy_seen v ≡ demanded (all_differ (names_of (variables_of v))) NameTwice v.place =
    goes_on meaning (λ met. demanded (all_differ (names_of (variables_of v))) NameTwice v.place) c.in_ok-see_item_rules.field-0 (sym same ∙ (c.in_ok-see_item_rules.ensures {u = tt}).ok) in
    let whole : hierarchy_seen v ≡ ends = goes ∙ ap (λ b. demanded b NameTwice v.place) (sym (c.all_differ.ensures ∙ ap all_differ (c.as_slice-4.ensures.value ∙ is))) in
    tells_same ends (hierarchy_seen v) c.demand.result whole (record { ok = c.demand.ensures.ok; err = c.demand.ensures.err })
