-- Where the expressions of a script stand that have outlines.
use Rattle.std.specs.Prelude.{List, [], ◌∷◌, ◌++◌, Option, Some, None, map}
use Rattle.std.specs.List.{flat_map}
use Rattle.vtl_values.specs.declared.place.Place.{Place}
use Rattle.vtl_syntax.specs.declared.expr.Expr.{Expr}
use Rattle.vtl_syntax.specs.declared.ruleset.Ruleset.{Ruleset}
use Rattle.vtl_syntax.specs.declared.ruleset.Ruleset.TheVariants as kind
use Rattle.vtl_syntax.specs.declared.ruleset.DatapointRule.{DatapointRule}
use Rattle.vtl_syntax.specs.declared.ruleset.HierarchyRule.{HierarchyRule}
use Rattle.vtl_syntax.specs.declared.script.Statement.{Statement}
use Rattle.vtl_syntax.specs.declared.script.Script.{Script}

abbrev pub of_statement : Statement → Place
of_statement s = s.place

abbrev pub of_condition : Place → Option Expr → List Place
of_condition p None = []
of_condition p (Some e) = p ∷ []

-- the condition and the expression of a rule stand where the rule does
abbrev pub of_datapoint : DatapointRule → List Place
of_datapoint r = of_condition r.place r.condition ++ r.place ∷ []

abbrev pub of_hierarchy : HierarchyRule → List Place
of_hierarchy r = of_condition r.place r.condition

abbrev pub of_ruleset : Ruleset → List Place
of_ruleset (kind.Datapoint d) = flat_map of_datapoint d.rules
of_ruleset (kind.Hierarchy h) = flat_map of_hierarchy h.rules

-- the places of the statements, and then those of the expressions in rulesets
abbrev pub places_of : Script → List Place
places_of s = map of_statement s.statements ++ flat_map of_ruleset s.rulesets
