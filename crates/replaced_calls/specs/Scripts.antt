-- The written-out script: it has no defined operators, and no calls of them.
use Rattle.std.specs.Prelude.{List, [], map, length}
use Rattle.std.specs.Option.{option_map}
use Rattle.vtl_syntax.specs.declared.expr.Expr.{Expr}
use Rattle.vtl_syntax.specs.declared.operator.DefinedOperator.{DefinedOperator}
use Rattle.vtl_syntax.specs.declared.ruleset.Ruleset.{Ruleset}
use Rattle.vtl_syntax.specs.declared.ruleset.Ruleset.TheVariants as kind
use Rattle.vtl_syntax.specs.declared.ruleset.DatapointRule.{DatapointRule}
use Rattle.vtl_syntax.specs.declared.ruleset.HierarchyRule.{HierarchyRule}
use Rattle.vtl_syntax.specs.declared.script.Statement.{Statement}
use Rattle.vtl_syntax.specs.declared.script.Script.{Script}
use Rattle.replaced_calls.specs.Replacing.{sorted, written}

-- ---- each expression of the statements and rulesets becomes another

abbrev pub statement_with : (Expr → Expr) → Statement → Statement
statement_with f s = record s { expr = f s.expr }

abbrev pub datapoint_with : (Expr → Expr) → DatapointRule → DatapointRule
datapoint_with f r = record { name = r.name; condition = option_map f r.condition; expr = f r.expr; fault = r.fault; place = r.place }

abbrev pub hierarchy_with : (Expr → Expr) → HierarchyRule → HierarchyRule
hierarchy_with f r = record r { condition = option_map f r.condition }

abbrev pub ruleset_with : (Expr → Expr) → Ruleset → Ruleset
ruleset_with f (kind.Datapoint d) = kind.Datapoint (record d { rules = map (datapoint_with f) d.rules })
ruleset_with f (kind.Hierarchy h) = kind.Hierarchy (record h { rules = map (hierarchy_with f) h.rules })

abbrev pub script_with : (Expr → Expr) → List DefinedOperator → Script → Script
script_with f operators s = record { statements = map (statement_with f) s.statements; rulesets = map (ruleset_with f) s.rulesets; operators = operators }

-- ---- sorts put to all calls, and then all calls replaced

abbrev pub sorted_operator : List DefinedOperator → DefinedOperator → DefinedOperator
sorted_operator operators o = record o { body = sorted operators o.body }

abbrev pub sorted_operators : List DefinedOperator → List DefinedOperator
sorted_operators operators = map (sorted_operator operators) operators

-- the script with the sorts of the operators put to the arguments and results of all calls
abbrev pub sorted_script : Script → Script
sorted_script s = script_with (sorted s.operators) (sorted_operators s.operators) s

-- no more calls than there are operators stand inside each other
abbrev pub calls_replaced : Script → Script
calls_replaced s = script_with (written s.operators (length s.operators)) [] s

abbrev pub written_out : Script → Script
written_out s = calls_replaced (sorted_script s)
