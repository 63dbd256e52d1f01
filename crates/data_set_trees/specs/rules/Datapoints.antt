-- What `check_datapoint` is checked to be, or its first fault, which stands at the word of the call (docs/language.md,
-- "Rulesets", "Faults of rulesets").
use Rattle.std.specs.Prelude.{ℕ, List, [], ◌∷◌, ◌++◌, filter_map, flat_map, zip, length, codes, Option, unwrap_or, Result, Ok}
use Rattle.std.specs.List.{range_with_len}
use Rattle.vtl_values.specs.declared.kind.Kind.TheVariants.{Text, Truth}
use Rattle.vtl_values.specs.declared.kind.Role.TheVariants.{Identifier, Measure, Viral}
use Rattle.vtl_values.specs.declared.place.Place.{Place}
use Rattle.vtl_values.specs.declared.structure.Component.{Component}
use Rattle.vtl_syntax.specs.declared.ruleset.DatapointRule.{DatapointRule}
use Rattle.vtl_syntax.specs.declared.ruleset.DatapointRules.{DatapointRules}
use Rattle.vtl_syntax.specs.declared.words.RowsOutput.{RowsOutput}
use Rattle.vtl_syntax.specs.declared.words.RowsOutput.TheVariants.{Invalid, All, AllMeasures}
use Rattle.scalar_trees.specs.declared.typing.scope.Scope.{Scope}
use Rattle.scalar_trees.specs.declared.typing.stop.Fault.{Fault}
use Rattle.scalar_trees.specs.declared.typing.stop.Fault.TheVariants.{UnknownComponent, NameTwice, TooManyComponents}
use Rattle.scalar_trees.specs.declared.typing.stop.Refusal.{Refusal}
use Rattle.scalar_trees.specs.typing.Steps.{◌>>=◌, demanded}
use Rattle.data_set_trees.specs.clauses.After.{made}
use Rattle.data_set_trees.specs.clauses.Frames.{by_role, frame_of, numbers_of}
use Rattle.data_set_trees.specs.aggregates.Aggregates.{has_room, names_differ}
use Rattle.data_set_trees.specs.aggregates.Results.{with_numbers}
use Rattle.data_set_trees.specs.declared.rules.rules.CheckedDatapoint.{CheckedDatapoint}
use Rattle.data_set_trees.specs.declared.rules.rules.PointRule.{PointRule}
use Rattle.data_set_trees.specs.rules.Rules.{RULE_ID, are_known, boolean_typed, condition_typed, error_components, error_of, fault_in, given, rule_name, scope_of_rules, unless_faulty, unmet}

-- ---- the result

-- identifiers, measures and viral attributes that rows have of the data set
abbrev pub kept_numbers : RowsOutput → List Component → List ℕ
kept_numbers Invalid components = (numbers_of Identifier components ++ numbers_of Measure components) ++ numbers_of Viral components
kept_numbers All components = numbers_of Identifier components ++ numbers_of Viral components
kept_numbers AllMeasures components = (numbers_of Identifier components ++ numbers_of Measure components) ++ numbers_of Viral components

-- whether the rule holds, where all rows are given
abbrev pub truth_components : RowsOutput → List Component
truth_components Invalid = []
truth_components All = made Measure Truth (codes "bool_var") ∷ []
truth_components AllMeasures = made Measure Truth (codes "bool_var") ∷ []

-- the rule's name, and what a row says of the rule
abbrev pub row_components : RowsOutput → List Component → List Component
row_components output said = made Identifier Text RULE_ID ∷ (truth_components output ++ said)

-- what stays, and then that, not yet by role
abbrev pub unordered : RowsOutput → List Component → List Component
unordered output components = with_numbers components (kept_numbers output components) ++ row_components output error_components

abbrev pub after : CheckedDatapoint → List Component → List Component
after d components = (by_role (frame_of (unordered d.output components))).components

-- ---- typing

-- a rule by its place, from 1
abbrev pub rule_typed : Scope → Place → ℕ → DatapointRule → Result PointRule Refusal
rule_typed scope place n r =
    condition_typed scope place r.condition
    >>= (λ condition. boolean_typed scope place r.expr
    >>= (λ value. Ok (record { name = rule_name n r.name; condition = condition; value = value; error = error_of r.fault })))

abbrev pub rule_faults : Scope → Place → DatapointRule → List Fault
rule_faults scope place r = fault_in (condition_typed scope place r.condition) ++ fault_in (boolean_typed scope place r.expr)

-- the rules with their places
abbrev pub numbered : {A : Type 0} → List A → List (ℕ × A)
numbered rules = zip (range_with_len 1 (length rules)) rules

abbrev pub rules_typed : Scope → Place → List DatapointRule → List PointRule
rules_typed scope place rules = filter_map (λ p. given (rule_typed scope place p.0 p.1)) (numbered rules)

-- Variables are components; then of all that is wrong with the rules and the result the first in the order of faults.
abbrev pub datapoint_checked : DatapointRules → Option RowsOutput → Place → List Component → Result CheckedDatapoint Refusal
datapoint_checked r stated place components =
    demanded (are_known r.variables components) UnknownComponent place
    >>= (λ known. unless_faulty place
    (flat_map (rule_faults (scope_of_rules r.variables components) place) r.rules ++ unmet ((names_differ (unordered (unwrap_or stated Invalid) components), NameTwice) ∷ (has_room (unordered (unwrap_or stated Invalid) components), TooManyComponents) ∷ []))
    (record { rules = rules_typed (scope_of_rules r.variables components) place r.rules; output = unwrap_or stated Invalid }))
