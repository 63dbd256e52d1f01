-- What spells a script doesn't depend on its places.
use Rattle.std.proofs.Common.{◌≡◌, List, [], ◌∷◌, Option, Some, None, refl, sym, ap, ◌∙◌, map}
use Rattle.std.proofs.Math.Path.{ap₂}
use Rattle.std.specs.Prelude.{option_map}
use Rattle.std.specs.List.{flat_map}
use Rattle.vtl_syntax.specs.declared.expr.Expr.{Expr}
use Rattle.vtl_syntax.specs.declared.ruleset.Ruleset.{Ruleset}
use Rattle.vtl_syntax.specs.declared.ruleset.Ruleset.TheVariants as kind
use Rattle.vtl_syntax.specs.declared.ruleset.Variable.{Variable}
use Rattle.vtl_syntax.specs.declared.ruleset.DatapointRule.{DatapointRule}
use Rattle.vtl_syntax.specs.declared.ruleset.HierarchyRule.{HierarchyRule}
use Rattle.vtl_syntax.specs.declared.operator.DefinedOperator.{DefinedOperator}
use Rattle.vtl_syntax.specs.declared.script.Statement.{Statement}
use Rattle.vtl_syntax.specs.declared.script.Script.{Script}
use Rattle.vtl_tokens.specs.declared.keyword.Keyword.TheVariants as words
use Rattle.vtl_spelling.specs.Kinds.{Kinds, ◌&◌, one, key, name, optional, separated, comma}
use Rattle.vtl_grammar.specs.Words.{relations, plus_or_minus}
use Rattle.vtl_spelling.specs.Words.{written}
use Rattle.vtl_spelling.specs.Rulesets.{semicolon, variable_spelled, label, condition_spelled, fault_spelled, signed_name_spelled, datapoint_rule_spelled, hierarchy_rule_spelled, ruleset_spelled}
use Rattle.vtl_spelling.specs.Operators.{param_spelled, returns_spelled, operator_spelled}
use Rattle.vtl_spelling.specs.Scripts.{arrow, statement_spelled, script_spelled}
use Rattle.vtl_spelling.specs.Placeless.{placeless, variable_placeless, signed_name_placeless, datapoint_rule_placeless, hierarchy_rule_placeless, ruleset_placeless, param_placeless, operator_placeless, statement_placeless, script_placeless, IsSameButPlaces}
use Rattle.vtl_spelling.proofs.Told.{next}
use Rattle.vtl_spelling.proofs.RulesetsTold.{datapoint_spelled, hierarchy_spelled}
use Rattle.vtl_spelling.proofs.OperatorsTold.{defined_of}
use Rattle.vtl_spelling.proofs.KeptTrees.{spelled-placeless}

module _ {A : Type 0} (plain : A → A) (spell : A → Kinds) (kept : (x : A) → spell (plain x) ≡ spell x) where
  each-kept : (xs : List A) → flat_map spell (map plain xs) ≡ flat_map spell xs
  each-kept [] = refl
  each-kept (x ∷ xs) = next (kept x) (each-kept xs)

  separated-kept : (c : Kinds) (xs : List A) → separated c spell (map plain xs) ≡ separated c spell xs
  separated-kept c [] = refl
  separated-kept c (x ∷ xs) = next (kept x) (rest xs)
    where
      rest : (ys : List A) → flat_map (λ y. c & spell y) (map plain ys) ≡ flat_map (λ y. c & spell y) ys
      rest [] = refl
      rest (y ∷ ys) = next (ap (λ (k : Kinds). c & k) (kept y)) (rest ys)

-- ---- rulesets

condition-kept : (x : Option Expr) → optional condition_spelled (option_map placeless x) ≡ optional condition_spelled x
condition-kept None = refl
condition-kept (Some e) = ap (λ (k : Kinds). key words.When & k & key words.Then) (spelled-placeless e)

datapoint_rule-kept : (r : DatapointRule) → datapoint_rule_spelled (datapoint_rule_placeless r) ≡ datapoint_rule_spelled r
datapoint_rule-kept r = ap₂ (λ (c e : Kinds). optional label r.name & c & e & fault_spelled r.fault) (condition-kept r.condition) (spelled-placeless r.expr)

hierarchy_rule-kept : (r : HierarchyRule) → hierarchy_rule_spelled (hierarchy_rule_placeless r) ≡ hierarchy_rule_spelled r
hierarchy_rule-kept r = ap₂ (λ (c k : Kinds). optional label r.name & c & name r.left & one (written relations r.relation) & optional (λ s. one (written plus_or_minus s)) r.sign & name r.first & k & fault_spelled r.fault)
    (condition-kept r.condition) (each-kept signed_name_placeless signed_name_spelled (λ s. refl) r.others)

variables-kept : (vs : List Variable) → separated comma variable_spelled (map variable_placeless vs) ≡ separated comma variable_spelled vs
variables-kept vs = separated-kept variable_placeless variable_spelled (λ v. refl) comma vs

conditions-kept : (x : Option (List Variable)) → optional (λ vs. key words.Condition & separated comma variable_spelled vs) (option_map (λ vs. map variable_placeless vs) x) ≡ optional (λ vs. key words.Condition & separated comma variable_spelled vs) x
conditions-kept None = refl
conditions-kept (Some vs) = ap (λ (k : Kinds). key words.Condition & k) (variables-kept vs)

ruleset-kept : (r : Ruleset) → ruleset_spelled (ruleset_placeless r) ≡ ruleset_spelled r
ruleset-kept (kind.Datapoint d) = ap₂ (λ (x y : Kinds). key words.Define & datapoint_spelled (name d.name) x y & semicolon) (variables-kept d.variables) (separated-kept datapoint_rule_placeless datapoint_rule_spelled datapoint_rule-kept semicolon d.rules)
ruleset-kept (kind.Hierarchy h) = ap₂ (λ (x y : Kinds). key words.Define & hierarchy_spelled (name h.name) x (name h.component) y & semicolon) (conditions-kept h.variables) (separated-kept hierarchy_rule_placeless hierarchy_rule_spelled hierarchy_rule-kept semicolon h.rules)

-- ---- defined operators

operator-kept : (o : DefinedOperator) → operator_spelled (operator_placeless o) ≡ operator_spelled o
operator-kept o = ap₂ (λ (x y : Kinds). key words.Define & defined_of (name o.name) x (optional returns_spelled o.returns) y & semicolon) (separated-kept param_placeless param_spelled (λ p. refl) comma o.params) (spelled-placeless o.body)

-- ---- scripts

statement-kept : (s : Statement) → statement_spelled (statement_placeless s) ≡ statement_spelled s
statement-kept s = ap (λ (k : Kinds). name s.name & arrow s.persistent & k & semicolon) (spelled-placeless s.expr)

script-kept : (s : Script) → script_spelled (script_placeless s) ≡ script_spelled s
script-kept s = next (each-kept operator_placeless operator_spelled operator-kept s.operators) (next (each-kept ruleset_placeless ruleset_spelled ruleset-kept s.rulesets) (each-kept statement_placeless statement_spelled statement-kept s.statements))

-- scripts that are the same but for places are spelled the same
pub same-spelled : (s t : Script) → IsSameButPlaces s t → script_spelled s ≡ script_spelled t
same-spelled s t same = sym (script-kept s) ∙ ap script_spelled same ∙ script-kept t
