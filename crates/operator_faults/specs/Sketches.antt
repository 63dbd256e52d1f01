-- The outlines of a script.
use Rattle.std.specs.Prelude.{List, [], ◌∷◌, ◌++◌, Option, Some, None, map}
use Rattle.std.specs.List.{flat_map}
use Rattle.vtl_syntax.specs.declared.expr.Expr.{Expr}
use Rattle.vtl_syntax.specs.declared.operator.DefinedOperator.{DefinedOperator}
use Rattle.vtl_syntax.specs.declared.ruleset.Ruleset.{Ruleset}
use Rattle.vtl_syntax.specs.declared.ruleset.Ruleset.TheVariants as kind
use Rattle.vtl_syntax.specs.declared.ruleset.DatapointRule.{DatapointRule}
use Rattle.vtl_syntax.specs.declared.ruleset.HierarchyRule.{HierarchyRule}
use Rattle.vtl_syntax.specs.declared.script.Statement.{Statement}
use Rattle.vtl_syntax.specs.declared.script.Script.{Script}
use Rattle.operator_faults.specs.declared.outline.Outline.{Outline}
use Rattle.operator_faults.specs.declared.sketch.Sketch.{Sketch}
use Rattle.operator_faults.specs.Outlines.{outlined}

abbrev pub of_statement : Statement → Outline
of_statement s = outlined s.expr

abbrev pub of_operator : DefinedOperator → Outline
of_operator o = outlined o.body

abbrev pub of_rule : Expr → List Outline
of_rule e = outlined e ∷ []

abbrev pub of_condition : Option Expr → List Outline
of_condition None = []
of_condition (Some e) = of_rule e

abbrev pub of_datapoint : DatapointRule → List Outline
of_datapoint r = of_condition r.condition ++ of_rule r.expr

abbrev pub of_hierarchy : HierarchyRule → List Outline
of_hierarchy r = of_condition r.condition

abbrev pub of_ruleset : Ruleset → List Outline
of_ruleset (kind.Datapoint d) = flat_map of_datapoint d.rules
of_ruleset (kind.Hierarchy h) = flat_map of_hierarchy h.rules

abbrev pub sketch_of : Script → Sketch
sketch_of s = record { statements = map of_statement s.statements; rulesets = flat_map of_ruleset s.rulesets; bodies = map of_operator s.operators }
