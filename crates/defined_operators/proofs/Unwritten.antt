-- Without defined operators a script is written out as it is.
use Rattle.std.proofs.Common.{◌≡◌, List, [], ◌∷◌, Option, Some, None, map, length, refl, sym, ap, ◌∙◌}
use Rattle.std.specs.Prelude.{Result, Ok}
use Rattle.std.specs.Option.{option_map}
use Rattle.vtl_syntax.specs.declared.expr.Expr.{Expr}
use Rattle.vtl_syntax.specs.declared.operator.DefinedOperator.{DefinedOperator}
use Rattle.vtl_syntax.specs.declared.ruleset.Ruleset.{Ruleset}
use Rattle.vtl_syntax.specs.declared.ruleset.Ruleset.TheVariants as kind
use Rattle.vtl_syntax.specs.declared.ruleset.DatapointRule.{DatapointRule}
use Rattle.vtl_syntax.specs.declared.ruleset.HierarchyRule.{HierarchyRule}
use Rattle.vtl_syntax.specs.declared.script.Statement.{Statement}
use Rattle.vtl_syntax.specs.declared.script.Script.{Script}
use Rattle.operator_faults.specs.declared.fault.PlacedFault.{PlacedFault}
use Rattle.tree_copies.proofs.Fused.{stays}
use Rattle.replaced_calls.specs.Replacing.{sorted, written}
use Rattle.replaced_calls.specs.Scripts.{statement_with, datapoint_with, hierarchy_with, ruleset_with, script_with, sorted_operators, sorted_script, calls_replaced, written_out}
use Rattle.defined_operators.specs.Expanded.{expanded, first_fault, unless}

-- ---- where each expression stays, so does the script

each_same : {A : Type 0} (h : A → A) → ((x : A) → h x ≡ x) → (xs : List A) → map h xs ≡ xs
each_same h same [] = refl
each_same h same (x ∷ xs) = λ i. same x i ∷ each_same h same xs i

module _ (f : Expr → Expr) (same : (e : Expr) → f e ≡ e) where
  optional_same : (o : Option Expr) → option_map f o ≡ o
  optional_same None = refl
  optional_same (Some e) = λ i. Some (same e i)

  datapoint_same : (r : DatapointRule) → datapoint_with f r ≡ r
  datapoint_same r = λ i. record { name = r.name; condition = optional_same r.condition i; expr = same r.expr i; fault = r.fault; place = r.place }

  hierarchy_same : (r : HierarchyRule) → hierarchy_with f r ≡ r
  hierarchy_same r = λ i. record r { condition = optional_same r.condition i }

  ruleset_same : (r : Ruleset) → ruleset_with f r ≡ r
  ruleset_same (kind.Datapoint d) = λ i. kind.Datapoint (record d { rules = each_same (datapoint_with f) datapoint_same d.rules i })
  ruleset_same (kind.Hierarchy h) = λ i. kind.Hierarchy (record h { rules = each_same (hierarchy_with f) hierarchy_same h.rules i })

  statement_same : (s : Statement) → statement_with f s ≡ s
  statement_same s = λ i. record s { expr = same s.expr i }

  script_stays : (os : List DefinedOperator) (s : Script) → os ≡ s.operators → script_with f os s ≡ s
  script_stays os s is = λ i. record { statements = each_same (statement_with f) statement_same s.statements i; rulesets = each_same (ruleset_with f) ruleset_same s.rulesets i; operators = is i }

-- ---- without operators each expression stays

sorted_as_it_is : (s : Script) → s.operators ≡ [] → sorted_script s ≡ s
sorted_as_it_is s none = script_stays (sorted s.operators) (λ e. ap (λ (os : List DefinedOperator). sorted os e) none ∙ stays e) (sorted_operators s.operators) s (ap sorted_operators none ∙ sym none)

replaced_as_it_is : (s : Script) → s.operators ≡ [] → calls_replaced s ≡ s
replaced_as_it_is s none = script_stays (written s.operators (length s.operators)) (λ e. ap (λ (os : List DefinedOperator). written os (length os) e) none ∙ stays e) [] s (sym none)

pub written_as_it_is : (s : Script) → s.operators ≡ [] → written_out s ≡ s
written_as_it_is s none = ap calls_replaced (sorted_as_it_is s none) ∙ replaced_as_it_is s none

pub expanded_as_it_is : (s : Script) → first_fault s ≡ None → s.operators ≡ [] → expanded s ≡ Ok s
expanded_as_it_is s faultless none = ap (λ (o : Option PlacedFault). unless o (written_out s)) faultless ∙ ap (λ (t : Script). let r : Result Script PlacedFault = Ok t in r) (written_as_it_is s none)
