use Rattle.std.proofs.Common.{◌≡◌, [], ◌∷◌, ap, sym, ◌∙◌}
use Rattle.std.specs.Prelude.{flat_map, unwrap_or}
use Rattle.vtl_syntax.specs.declared.words.RowsOutput.{RowsOutput}
use Rattle.vtl_syntax.specs.declared.words.RowsOutput.TheVariants.{Invalid}
use Rattle.scalar_trees.specs.declared.typing.stop.Fault.TheVariants.{NameTwice, TooManyComponents}
use Rattle.data_set_trees.specs.clauses.Frames.{frame_of}
use Rattle.data_set_trees.specs.aggregates.Aggregates.{has_room, names_differ}
use Rattle.data_set_trees.specs.declared.rules.rules.CheckedDatapoint.{CheckedDatapoint}
use Rattle.data_set_trees.specs.rules.Datapoints.{rule_faults, rules_typed, unordered}
use Rattle.data_set_trees.specs.rules.Rules.{are_known, first_fault, scope_of_rules, unmet}
use Rattle.data_set_trees.proofs.rules.Given.{datapoints_give}
use Rattle.rule_typing.specs.Faults.{earlier}
use Rattle.rule_typing.specs.Named.{known_on, scope_on}
use Rattle.rule_typing.proofs.Uses.{of_rows, of_rules, point_fault_told, point_told, point_unknown_told}
use Rattle.rule_typing.proofs.datapoints.datapoint_typed.Goals as goal

pub returns-in_err-demand-clause-err : goal.returns-in_err-demand-clause-err
returns-in_err-demand-clause-err c =
    let r = c.args.rules.now in
    let stated = c.args.output in
    let place = c.args.place in
    let cs = c.args.components.now in
    let frame_is : c.in_ok-frame.frame ≡ frame_of cs = c.in_ok-frame.ensures in
    let variables_is : c.as_slice-variables.result.now ≡ r.variables = c.as_slice-variables.ensures in
    let known_is : c.are_known.result ≡ are_known r.variables cs = c.are_known.ensures ∙ (λ i. known_on (frame_is i) (variables_is i)) in
    point_unknown_told r stated place cs c.are_known.result c.from_residual-in_err-demand.result c.in_err-demand.field-0.0 known_is c.in_err-demand.ensures.err c.from_residual-in_err-demand.ensures.1

pub returns-in_err-unless_faulty-clause-err : goal.returns-in_err-unless_faulty-clause-err
returns-in_err-unless_faulty-clause-err c =
    let r = c.args.rules.now in
    let stated = c.args.output in
    let place = c.args.place in
    let cs = c.args.components.now in
    let frame_is : c.in_ok-frame.frame ≡ frame_of cs = c.in_ok-frame.ensures in
    let variables_is : c.as_slice-variables.result.now ≡ r.variables = c.as_slice-variables.ensures in
    let known_is : c.are_known.result ≡ are_known r.variables cs = c.are_known.ensures ∙ (λ i. known_on (frame_is i) (variables_is i)) in
    let scope_is : c.in_ok-scope.scope ≡ scope_of_rules r.variables cs = c.in_ok-scope.ensures ∙ (λ i. scope_on (frame_is i) (variables_is i)) in
    let first_is : c.in_ok-checked.of_rules ≡ of_rules r stated place cs = c.in_ok-checked.ensures.fault ∙ (λ i. first_fault (flat_map (rule_faults (scope_is i) place) (c.as_slice.ensures i))) in
    let rows_is : c.in_ok-of_rows.of_rows ≡ of_rows r stated place cs =
    c.in_ok-of_rows.ensures ∙ ap (λ (o : RowsOutput). first_fault (unmet ((names_differ (unordered o cs), NameTwice) ∷ (has_room (unordered o cs), TooManyComponents) ∷ []))) c.unwrap_or-output.ensures in
    let fault_is : c.earlier.result ≡ earlier (of_rules r stated place cs) (of_rows r stated place cs) = c.earlier.ensures ∙ (λ i. earlier (first_is i) (rows_is i)) in
    point_fault_told r stated place cs c.are_known.result c.earlier.result c.in_ok-demand.field-0 known_is c.in_ok-demand.ensures.ok fault_is
    c.from_residual-in_err-unless_faulty.result c.in_err-unless_faulty.field-0.0 c.in_err-unless_faulty.ensures.err c.from_residual-in_err-unless_faulty.ensures.1

pub returns-clause-ok : goal.returns-clause-ok
returns-clause-ok c =
    let r = c.args.rules.now in
    let stated = c.args.output in
    let place = c.args.place in
    let cs = c.args.components.now in
    let frame_is : c.in_ok-frame.frame ≡ frame_of cs = c.in_ok-frame.ensures in
    let variables_is : c.as_slice-variables.result.now ≡ r.variables = c.as_slice-variables.ensures in
    let known_is : c.are_known.result ≡ are_known r.variables cs = c.are_known.ensures ∙ (λ i. known_on (frame_is i) (variables_is i)) in
    let scope_is : c.in_ok-scope.scope ≡ scope_of_rules r.variables cs = c.in_ok-scope.ensures ∙ (λ i. scope_on (frame_is i) (variables_is i)) in
    let first_is : c.in_ok-checked.of_rules ≡ of_rules r stated place cs = c.in_ok-checked.ensures.fault ∙ (λ i. first_fault (flat_map (rule_faults (scope_is i) place) (c.as_slice.ensures i))) in
    let rows_is : c.in_ok-of_rows.of_rows ≡ of_rows r stated place cs =
    c.in_ok-of_rows.ensures ∙ ap (λ (o : RowsOutput). first_fault (unmet ((names_differ (unordered o cs), NameTwice) ∷ (has_room (unordered o cs), TooManyComponents) ∷ []))) c.unwrap_or-output.ensures in
    let fault_is : c.earlier.result ≡ earlier (of_rules r stated place cs) (of_rows r stated place cs) = c.earlier.ensures ∙ (λ i. earlier (first_is i) (rows_is i)) in
    let rules_is : c.in_ok-checked.checked ≡ rules_typed (scope_of_rules r.variables cs) place r.rules = c.in_ok-checked.ensures.rules ∙ (λ i. rules_typed (scope_is i) place (c.as_slice.ensures i)) in
    let meant : CheckedDatapoint = record { rules = rules_typed (scope_of_rules r.variables cs) place r.rules; output = unwrap_or stated Invalid } in
    let value : CheckedDatapoint = record { rules = c.in_ok-checked.checked; output = c.unwrap_or-output.result } in
    let value_is : meant ≡ value = (λ i. record { rules = sym rules_is i; output = sym c.unwrap_or-output.ensures i }) in
    point_told r stated place cs c.are_known.result c.earlier.result c.in_ok-demand.field-0 known_is c.in_ok-demand.ensures.ok fault_is
    value c.in_ok-unless_faulty.field-0 c.in_ok-unless_faulty.ensures.ok value_is

pub returns-clause-structure : goal.returns-clause-structure
returns-clause-structure c =
    let value : CheckedDatapoint = record { rules = c.in_ok-checked.checked; output = c.unwrap_or-output.result } in
    λ is. datapoints_give c.args.rules.now c.args.output c.args.place c.args.components.now value is (returns-clause-ok c)
