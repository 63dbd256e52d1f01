-- What `hierarchy` and `check_hierarchy` are checked to be, or their first fault, which stands at the word of the call
-- (docs/language.md, "Rulesets", "Faults of rulesets").
use Rattle.std.specs.Prelude.{ℕ, Bool, false, not, ◌&&◌, List, [], ◌∷◌, ◌++◌, codes, map, filter, filter_map, flat_map, find, length, nat_eq, Option, unwrap_or, Result, Ok}
use Rattle.std.specs.List.{list_all}
use Rattle.std.specs.Option.{option_map_or}
use Rattle.vtl_values.specs.declared.kind.Kind.{Kind}
use Rattle.vtl_values.specs.declared.kind.Kind.TheVariants.{Number, Text}
use Rattle.vtl_values.specs.declared.kind.Role.TheVariants.{Identifier, Measure}
use Rattle.vtl_values.specs.declared.place.Place.{Place}
use Rattle.vtl_values.specs.declared.structure.Component.{Component}
use Rattle.vtl_syntax.specs.declared.ruleset.HierarchyRule.{HierarchyRule}
use Rattle.vtl_syntax.specs.declared.ruleset.HierarchyRules.{HierarchyRules}
use Rattle.vtl_syntax.specs.declared.ruleset.SignedName.{SignedName}
use Rattle.vtl_syntax.specs.declared.ruleset.Variable.{Variable}
use Rattle.vtl_syntax.specs.declared.words.CheckInput.{CheckInput}
use Rattle.vtl_syntax.specs.declared.words.CheckInput.TheVariants as check_input
use Rattle.vtl_syntax.specs.declared.words.HierarchyInput.{HierarchyInput}
use Rattle.vtl_syntax.specs.declared.words.HierarchyInput.TheVariants as input
use Rattle.vtl_syntax.specs.declared.words.HierarchyOutput.{HierarchyOutput}
use Rattle.vtl_syntax.specs.declared.words.HierarchyOutput.TheVariants as output
use Rattle.vtl_syntax.specs.declared.words.Mode.{Mode}
use Rattle.vtl_syntax.specs.declared.words.Mode.TheVariants.{NonNull}
use Rattle.vtl_syntax.specs.declared.words.RowsOutput.{RowsOutput}
use Rattle.vtl_syntax.specs.declared.words.RowsOutput.TheVariants.{Invalid}
use Rattle.vtl_syntax.specs.declared.words.Sign.TheVariants.{Plus}
use Rattle.scalar_trees.specs.WellTyped.{is_kind}
use Rattle.scalar_trees.specs.declared.typing.scope.Scope.{Scope}
use Rattle.scalar_trees.specs.declared.typing.stop.Fault.{Fault}
use Rattle.scalar_trees.specs.declared.typing.stop.Fault.TheVariants.{UnknownComponent, WrongType, WrongStructure, WrongRole, NameTwice, TooManyComponents}
use Rattle.scalar_trees.specs.declared.typing.stop.Refusal.{Refusal}
use Rattle.scalar_trees.specs.typing.Steps.{◌>>=◌, demanded, or_refused}
use Rattle.data_set_trees.specs.clauses.After.{made}
use Rattle.data_set_trees.specs.clauses.Clauses.{bare_number_of, passes_at}
use Rattle.data_set_trees.specs.clauses.Frames.{by_role, frame_of, has_role}
use Rattle.data_set_trees.specs.aggregates.Aggregates.{are_numeric, has_room, names_differ}
use Rattle.data_set_trees.specs.aggregates.Results.{with_numbers, without_attributes}
use Rattle.data_set_trees.specs.declared.rules.rules.CheckedHierarchy.{CheckedHierarchy}
use Rattle.data_set_trees.specs.declared.rules.rules.CheckedHierarchy.TheVariants.{Computed, Checked}
use Rattle.data_set_trees.specs.declared.rules.rules.HierarchyContent.{HierarchyContent}
use Rattle.data_set_trees.specs.declared.rules.rules.ItemRule.{ItemRule}
use Rattle.data_set_trees.specs.declared.rules.rules.SignedItem.{SignedItem}
use Rattle.data_set_trees.specs.rules.Datapoints.{kept_numbers, numbered, row_components}
use Rattle.data_set_trees.specs.rules.Rules.{are_known, condition_typed, error_components, error_of, fault_in, given, rule_name, scope_of_rules, unless_faulty, unmet}

-- ---- the result

-- the kind of the one measure; typing sees that there is one
abbrev pub measure_kind : List Component → Kind
measure_kind components = option_map_or (λ (c : Component). c.kind) (find (has_role Measure) components) Number

-- what stays, and then the rule's name and what a row says of the rule, not yet by role
abbrev pub rows : RowsOutput → List Component → List Component
rows output components = with_numbers components (kept_numbers output components) ++ row_components output (made Measure (measure_kind components) (codes "imbalance") ∷ error_components)

abbrev pub after : CheckedHierarchy → List Component → List Component
after (Computed content input output) components = without_attributes components
after (Checked content input output) components = (by_role (frame_of (rows output components))).components

-- ---- rules

abbrev pub signed : SignedName → SignedItem
signed s = record { sign = s.sign; item = s.name }

-- a rule by its place, from 1; an item without a sign is added
abbrev pub rule_typed : Scope → Place → ℕ → HierarchyRule → Result ItemRule Refusal
rule_typed scope place n r =
    condition_typed scope place r.condition
    >>= (λ condition. Ok (record {
      name = rule_name n r.name;
      condition = condition;
      left = r.left;
      relation = r.relation;
      right = record { sign = unwrap_or r.sign Plus; item = r.first } ∷ map signed r.others;
      error = error_of r.fault;
    }))

abbrev pub rules_typed : Scope → Place → List HierarchyRule → List ItemRule
rules_typed scope place rules = filter_map (λ p. given (rule_typed scope place p.0 p.1)) (numbered rules)

-- ---- what is asked of the data set

abbrev pub variables_of : HierarchyRules → List Variable
variables_of r = unwrap_or r.variables []

abbrev pub passes : (Component → Bool) → List Component → ℕ → Bool
passes test components number = passes_at test (frame_of components) number

-- conditions go by identifiers other than the rule component
abbrev pub may_condition : List Component → ℕ → Variable → Bool
may_condition components item v = option_map_or (λ number. passes (has_role Identifier) components number && not (nat_eq number item)) (bare_number_of (frame_of components) v.name) false

abbrev pub has_one_measure : List Component → Bool
has_one_measure components = nat_eq (length (filter (has_role Measure) components)) 1

-- what a use asks, in the order of the faults, where the items are in the component of this number
abbrev pub demands_of : HierarchyRules → ℕ → List Component → List (Bool × Fault)
demands_of r item components =
    (are_numeric components && passes (λ c. is_kind c.kind Text) components item, WrongType)
    ∷ (has_one_measure components, WrongStructure)
    ∷ (passes (has_role Identifier) components item && list_all (may_condition components item) (variables_of r), WrongRole) ∷ []

abbrev pub condition_faults : HierarchyRules → Place → List Component → List Fault
condition_faults r place components = flat_map (λ (h : HierarchyRule). fault_in (condition_typed (scope_of_rules (variables_of r) components) place h.condition)) r.rules

abbrev pub content_of : HierarchyRules → ℕ → Option Mode → Place → List Component → HierarchyContent
content_of r item mode place components = record {
  component = item;
  rules = rules_typed (scope_of_rules (variables_of r) components) place r.rules;
  mode = unwrap_or mode NonNull;
}

-- The rule component and the variables are components; then of all that is wrong the first in the order of faults.
abbrev pub hierarchy_checked : HierarchyRules → Option (List ℕ) → List (Bool × Fault) → (ℕ → CheckedHierarchy) → Place → List Component → Result CheckedHierarchy Refusal
hierarchy_checked r stated further checked place components =
    or_refused (bare_number_of (frame_of components) (unwrap_or stated r.component)) UnknownComponent place
    >>= (λ item. demanded (are_known (variables_of r) components) UnknownComponent place
    >>= (λ known. unless_faulty place (condition_faults r place components ++ unmet (demands_of r item components ++ further)) (checked item)))

-- ---- uses

-- `hierarchy(ds, rules rule c mode input output)`
abbrev pub computed_checked : HierarchyRules → Option (List ℕ) → Option Mode → Option HierarchyInput → Option HierarchyOutput → Place → List Component → Result CheckedHierarchy Refusal
computed_checked r stated mode i o place components =
    hierarchy_checked r stated [] (λ item. Computed (content_of r item mode place components) (unwrap_or i input.Rule) (unwrap_or o output.Computed)) place components

-- `check_hierarchy(ds, rules rule c mode input output)`, whose rows need room and names of their own
abbrev pub rows_demanded : RowsOutput → List Component → List (Bool × Fault)
rows_demanded o components = (names_differ (rows o components), NameTwice) ∷ (has_room (rows o components), TooManyComponents) ∷ []

abbrev pub checked_checked : HierarchyRules → Option (List ℕ) → Option Mode → Option CheckInput → Option RowsOutput → Place → List Component → Result CheckedHierarchy Refusal
checked_checked r stated mode i o place components =
    hierarchy_checked r stated (rows_demanded (unwrap_or o Invalid) components) (λ item. Checked (content_of r item mode place components) (unwrap_or i check_input.Dataset) (unwrap_or o Invalid)) place components
