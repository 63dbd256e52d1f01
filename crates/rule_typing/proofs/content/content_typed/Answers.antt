use Rattle.std.proofs.Common.{◌≡◌, Option, ap, sym, ◌∙◌}
use Rattle.std.specs.Prelude.{flat_map, unwrap_or}
use Rattle.vtl_syntax.specs.declared.ruleset.HierarchyRule.{HierarchyRule}
use Rattle.scalar_trees.specs.declared.typing.stop.Fault.{Fault}
use Rattle.data_set_trees.specs.clauses.Frames.{frame_of}
use Rattle.data_set_trees.specs.declared.rules.rules.HierarchyContent.{HierarchyContent}
use Rattle.data_set_trees.specs.rules.Hierarchies.{condition_faults, content_of, demands_of, rules_typed, variables_of}
use Rattle.data_set_trees.specs.rules.Rules.{are_known, condition_typed, fault_in, first_fault, scope_of_rules, unmet}
use Rattle.rule_typing.specs.Content.{fault_of}
use Rattle.rule_typing.specs.Faults.{earlier}
use Rattle.rule_typing.specs.Named.{known_on, scope_on}
use Rattle.rule_typing.proofs.Uses.{component_told, content_told, fault_told, unknown_told}
use Rattle.rule_typing.proofs.content.content_typed.Goals as goal

pub returns-in_err-component-clause-err : goal.returns-in_err-component-clause-err
returns-in_err-component-clause-err c =
    let r = c.args.rules.now in
    let stated = c.args.stated.now in
    let mode = c.args.mode in
    let further = c.args.further in
    let place = c.args.place in
    let cs = c.args.components.now in
    let name = c.item_name.result.now in
    let frame = c.in_ok-frame.frame in
    let name_is : name ≡ unwrap_or stated r.component = c.item_name.ensures in
    let frame_is : frame ≡ frame_of cs = c.in_ok-frame.ensures in
    component_told r stated mode further place cs name frame c.from_residual-in_err-component.result c.in_err-component.field-0.0 name_is frame_is c.in_err-component.ensures.err c.from_residual-in_err-component.ensures.1

pub returns-in_err-demand-clause-err : goal.returns-in_err-demand-clause-err
returns-in_err-demand-clause-err c =
    let r = c.args.rules.now in
    let stated = c.args.stated.now in
    let mode = c.args.mode in
    let further = c.args.further in
    let place = c.args.place in
    let cs = c.args.components.now in
    let name = c.item_name.result.now in
    let frame = c.in_ok-frame.frame in
    let name_is : name ≡ unwrap_or stated r.component = c.item_name.ensures in
    let frame_is : frame ≡ frame_of cs = c.in_ok-frame.ensures in
    let variables_is : c.variables_of-variables.result.now ≡ variables_of r = c.variables_of-variables.ensures in
    let known_is : c.are_known.result ≡ are_known (variables_of r) cs = c.are_known.ensures ∙ (λ i. known_on (frame_is i) (variables_is i)) in
    unknown_told r stated mode further place cs name frame c.in_ok-component.component name_is frame_is c.in_ok-component.ensures.ok
    c.are_known.result c.from_residual-in_err-demand.result c.in_err-demand.field-0.0 known_is c.in_err-demand.ensures.err c.from_residual-in_err-demand.ensures.1

pub returns-in_err-unless_faulty-clause-err : goal.returns-in_err-unless_faulty-clause-err
returns-in_err-unless_faulty-clause-err c =
    let r = c.args.rules.now in
    let stated = c.args.stated.now in
    let mode = c.args.mode in
    let further = c.args.further in
    let place = c.args.place in
    let cs = c.args.components.now in
    let name = c.item_name.result.now in
    let frame = c.in_ok-frame.frame in
    let name_is : name ≡ unwrap_or stated r.component = c.item_name.ensures in
    let frame_is : frame ≡ frame_of cs = c.in_ok-frame.ensures in
    let variables_is : c.variables_of-variables.result.now ≡ variables_of r = c.variables_of-variables.ensures in
    let known_is : c.are_known.result ≡ are_known (variables_of r) cs = c.are_known.ensures ∙ (λ i. known_on (frame_is i) (variables_is i)) in
    let item = c.in_ok-component.component in
    let scope_is : c.in_ok-scope.scope ≡ scope_of_rules (variables_of r) cs = c.in_ok-scope.ensures ∙ (λ i. scope_on (frame_is i) (variables_is i)) in
    let first_is : c.in_ok-checked.of_rules ≡ first_fault (condition_faults r place cs) = c.in_ok-checked.ensures.fault ∙ (λ i. first_fault (flat_map (λ (h : HierarchyRule). fault_in (condition_typed (scope_is i) place h.condition)) (c.as_slice.ensures i))) in
    let unmet_is : c.unmet_of_use-unmet.result ≡ first_fault (unmet (demands_of r item cs)) = c.unmet_of_use-unmet.ensures r (sym variables_is) in
    let fault_is : c.earlier-2.result ≡ fault_of r further place cs item = c.earlier-2.ensures ∙ (λ i. earlier (first_is i) ((c.earlier.ensures ∙ ap (λ (o : Option Fault). earlier o further) unmet_is) i)) in
    fault_told r stated mode further place cs name frame item name_is frame_is c.in_ok-component.ensures.ok c.are_known.result c.earlier-2.result c.in_ok-demand.field-0 known_is c.in_ok-demand.ensures.ok fault_is
    c.from_residual-in_err-unless_faulty.result c.in_err-unless_faulty.field-0.0 c.in_err-unless_faulty.ensures.err c.from_residual-in_err-unless_faulty.ensures.1

pub returns-clause-ok : goal.returns-clause-ok
returns-clause-ok c =
    let r = c.args.rules.now in
    let stated = c.args.stated.now in
    let mode = c.args.mode in
    let further = c.args.further in
    let place = c.args.place in
    let cs = c.args.components.now in
    let name = c.item_name.result.now in
    let frame = c.in_ok-frame.frame in
    let name_is : name ≡ unwrap_or stated r.component = c.item_name.ensures in
    let frame_is : frame ≡ frame_of cs = c.in_ok-frame.ensures in
    let variables_is : c.variables_of-variables.result.now ≡ variables_of r = c.variables_of-variables.ensures in
    let known_is : c.are_known.result ≡ are_known (variables_of r) cs = c.are_known.ensures ∙ (λ i. known_on (frame_is i) (variables_is i)) in
    let item = c.in_ok-component.component in
    let scope_is : c.in_ok-scope.scope ≡ scope_of_rules (variables_of r) cs = c.in_ok-scope.ensures ∙ (λ i. scope_on (frame_is i) (variables_is i)) in
    let first_is : c.in_ok-checked.of_rules ≡ first_fault (condition_faults r place cs) = c.in_ok-checked.ensures.fault ∙ (λ i. first_fault (flat_map (λ (h : HierarchyRule). fault_in (condition_typed (scope_is i) place h.condition)) (c.as_slice.ensures i))) in
    let unmet_is : c.unmet_of_use-unmet.result ≡ first_fault (unmet (demands_of r item cs)) = c.unmet_of_use-unmet.ensures r (sym variables_is) in
    let fault_is : c.earlier-2.result ≡ fault_of r further place cs item = c.earlier-2.ensures ∙ (λ i. earlier (first_is i) ((c.earlier.ensures ∙ ap (λ (o : Option Fault). earlier o further) unmet_is) i)) in
    let rules_is : c.in_ok-checked.checked ≡ rules_typed (scope_of_rules (variables_of r) cs) place r.rules = c.in_ok-checked.ensures.rules ∙ (λ i. rules_typed (scope_is i) place (c.as_slice.ensures i)) in
    let value : HierarchyContent = record { component = item; rules = c.in_ok-checked.checked; mode = c.unwrap_or.result } in
    let value_is : content_of r item mode place cs ≡ value = (λ i. record { component = item; rules = sym rules_is i; mode = sym c.unwrap_or.ensures i }) in
    content_told r stated mode further place cs name frame item name_is frame_is c.in_ok-component.ensures.ok c.are_known.result c.earlier-2.result c.in_ok-demand.field-0 known_is c.in_ok-demand.ensures.ok fault_is
    value c.in_ok-unless_faulty.field-0 c.in_ok-unless_faulty.ensures.ok value_is
