-- Uses of rulesets on a data set (docs/language.md, "Rulesets", "Faults of rulesets").
use Rattle.std.specs.Prelude.{ℕ, List, [], ◌∷◌, Option, Some, None, if◌then◌else◌}
use Rattle.std.specs.Option.{option_or}
use Rattle.vtl_values.specs.Texts.{same_text}
use Rattle.vtl_values.specs.declared.place.Place.{Place}
use Rattle.vtl_syntax.specs.declared.ruleset.DatapointRules.{DatapointRules}
use Rattle.vtl_syntax.specs.declared.ruleset.HierarchyRules.{HierarchyRules}
use Rattle.vtl_syntax.specs.declared.ruleset.Ruleset.{Ruleset}
use Rattle.vtl_syntax.specs.declared.ruleset.Ruleset.TheVariants.{Datapoint, Hierarchy}
use Rattle.vtl_syntax.specs.declared.words.CheckInput.{CheckInput}
use Rattle.vtl_syntax.specs.declared.words.HierarchyInput.{HierarchyInput}
use Rattle.vtl_syntax.specs.declared.words.HierarchyOutput.{HierarchyOutput}
use Rattle.vtl_syntax.specs.declared.words.Mode.{Mode}
use Rattle.vtl_syntax.specs.declared.words.RowsOutput.{RowsOutput}
use Rattle.scalar_trees.specs.declared.typing.stop.Fault.TheVariants.{UnknownComponent}
use Rattle.scalar_trees.specs.typing.Steps.{◌>>=◌, or_refused}
use Rattle.data_set_trees.specs.declared.operand.Operand.{Operand}
use Rattle.data_set_trees.specs.declared.tree.DataSetOperator.TheVariants as operator
use Rattle.data_set_trees.specs.rules.Datapoints as datapoints
use Rattle.data_set_trees.specs.rules.Datapoints.{datapoint_checked}
use Rattle.data_set_trees.specs.rules.Hierarchies as hierarchies
use Rattle.data_set_trees.specs.rules.Hierarchies.{checked_checked, computed_checked}
use Rattle.data_set_trees.specs.Trees.{SetAnswer}
use Rattle.expression_rules.specs.OnSets.{on_set}

-- ---- rulesets by name

abbrev pub datapoint_at : List ℕ → Ruleset → Option DatapointRules
datapoint_at name (Datapoint r) = if same_text name r.name then Some r else None
datapoint_at name (Hierarchy r) = None

-- the first datapoint ruleset of this name
abbrev pub datapoint_called : List Ruleset → List ℕ → Option DatapointRules
datapoint_called [] name = None
datapoint_called (r ∷ rs) name = option_or (datapoint_at name r) (datapoint_called rs name)

abbrev pub hierarchy_at : List ℕ → Ruleset → Option HierarchyRules
hierarchy_at name (Datapoint r) = None
hierarchy_at name (Hierarchy r) = if same_text name r.name then Some r else None

-- and the first hierarchical one
abbrev pub hierarchy_called : List Ruleset → List ℕ → Option HierarchyRules
hierarchy_called [] name = None
hierarchy_called (r ∷ rs) name = option_or (hierarchy_at name r) (hierarchy_called rs name)

-- ---- uses

-- which ruleset is meant, by its name at this place; it is there where names have no fault
abbrev pub with_ruleset : {R : Type 0} → Option R → Place → (R → SetAnswer) → SetAnswer
with_ruleset found place next = or_refused found UnknownComponent place >>= next

-- `check_datapoint(ds, rules output)`
abbrev pub on_datapoint : Option RowsOutput → Place → DatapointRules → Operand → SetAnswer
on_datapoint output place r = on_set (datapoint_checked r output place) operator.Datapoint datapoints.after place

-- `hierarchy(ds, rules rule c mode input output)`
abbrev pub on_hierarchy : Option (List ℕ) → Option Mode → Option HierarchyInput → Option HierarchyOutput → Place → HierarchyRules → Operand → SetAnswer
on_hierarchy component mode input output place r = on_set (computed_checked r component mode input output place) operator.Hierarchy hierarchies.after place

-- `check_hierarchy(ds, rules rule c mode input output)`
abbrev pub on_check_hierarchy : Option (List ℕ) → Option Mode → Option CheckInput → Option RowsOutput → Place → HierarchyRules → Operand → SetAnswer
on_check_hierarchy component mode input output place r = on_set (checked_checked r component mode input output place) operator.Hierarchy hierarchies.after place
