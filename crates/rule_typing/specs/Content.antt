-- The content of a use of a hierarchical ruleset, where the first further fault that the use has is known.
use Rattle.std.specs.Prelude.{ℕ, List, Option, unwrap_or, Result}
use Rattle.vtl_values.specs.declared.place.Place.{Place}
use Rattle.vtl_values.specs.declared.structure.Component.{Component}
use Rattle.vtl_syntax.specs.declared.ruleset.HierarchyRules.{HierarchyRules}
use Rattle.vtl_syntax.specs.declared.words.Mode.{Mode}
use Rattle.scalar_trees.specs.declared.typing.stop.Fault.{Fault}
use Rattle.scalar_trees.specs.declared.typing.stop.Fault.TheVariants.{UnknownComponent}
use Rattle.scalar_trees.specs.declared.typing.stop.Refusal.{Refusal}
use Rattle.scalar_trees.specs.typing.Steps.{◌>>=◌, demanded, or_refused}
use Rattle.data_set_trees.specs.clauses.Clauses.{bare_number_of}
use Rattle.data_set_trees.specs.clauses.Frames.{frame_of}
use Rattle.data_set_trees.specs.declared.rules.rules.HierarchyContent.{HierarchyContent}
use Rattle.data_set_trees.specs.rules.Hierarchies.{condition_faults, content_of, demands_of, variables_of}
use Rattle.data_set_trees.specs.rules.Rules.{are_known, first_fault, unmet, value_or}
use Rattle.rule_typing.specs.Faults.{earlier}

-- the first fault of a use whose items are in the component of this number
abbrev pub fault_of : HierarchyRules → Option Fault → Place → List Component → ℕ → Option Fault
fault_of r further place components item = earlier (first_fault (condition_faults r place components)) (earlier (first_fault (unmet (demands_of r item components))) further)

abbrev pub content_checked : HierarchyRules → Option (List ℕ) → Option Mode → Option Fault → Place → List Component → Result HierarchyContent Refusal
content_checked r stated mode further place components =
    or_refused (bare_number_of (frame_of components) (unwrap_or stated r.component)) UnknownComponent place
    >>= (λ item. demanded (are_known (variables_of r) components) UnknownComponent place
    >>= (λ known. value_or place (content_of r item mode place components) (fault_of r further place components item)))
