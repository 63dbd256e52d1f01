-- The tokens that spell rulesets.
use Rattle.std.specs.Prelude.{ℕ, List}
use Rattle.std.specs.List.{flat_map}
use Rattle.vtl_tokens.specs.declared.keyword.Keyword.TheVariants as words
use Rattle.vtl_tokens.specs.declared.sign.Sign.TheVariants as signs
use Rattle.vtl_syntax.specs.declared.expr.Expr.{Expr}
use Rattle.vtl_syntax.specs.declared.ruleset.Ruleset.{Ruleset}
use Rattle.vtl_syntax.specs.declared.ruleset.Ruleset.TheVariants as kind
use Rattle.vtl_syntax.specs.declared.ruleset.Variable.{Variable}
use Rattle.vtl_syntax.specs.declared.ruleset.FaultPart.{FaultPart}
use Rattle.vtl_syntax.specs.declared.ruleset.SignedName.{SignedName}
use Rattle.vtl_syntax.specs.declared.ruleset.DatapointRule.{DatapointRule}
use Rattle.vtl_syntax.specs.declared.ruleset.HierarchyRule.{HierarchyRule}
use Rattle.vtl_syntax.specs.declared.ruleset.DatapointRules.{DatapointRules}
use Rattle.vtl_syntax.specs.declared.ruleset.HierarchyRules.{HierarchyRules}
use Rattle.vtl_spelling.specs.Kinds.{Kinds, ◌&◌, one, key, sig, commas, separated, open_paren, close_paren, optional, name, text, signed_integer}
use Rattle.vtl_grammar.specs.Words.{relations, plus_or_minus}
use Rattle.vtl_spelling.specs.Words.{written}
use Rattle.vtl_spelling.specs.Trees.{spelled}

abbrev pub semicolon : Kinds
semicolon = sig signs.Semicolon

abbrev pub variable_spelled : Variable → Kinds
variable_spelled v = name v.name & optional (λ w. key words.As & name w) v.alias

abbrev pub label : List ℕ → Kinds
label w = name w & sig signs.Colon

abbrev pub condition_spelled : Expr → Kinds
condition_spelled e = key words.When & spelled e & key words.Then

abbrev pub fault_spelled : FaultPart → Kinds
fault_spelled f = optional (λ t. key words.Errorcode & text t) f.code & optional (λ z. key words.Errorlevel & signed_integer z) f.level

abbrev pub signed_name_spelled : SignedName → Kinds
signed_name_spelled s = one (written plus_or_minus s.sign) & name s.name

abbrev pub datapoint_rule_spelled : DatapointRule → Kinds
datapoint_rule_spelled r = optional label r.name & optional condition_spelled r.condition & spelled r.expr & fault_spelled r.fault

abbrev pub hierarchy_rule_spelled : HierarchyRule → Kinds
hierarchy_rule_spelled r = optional label r.name & optional condition_spelled r.condition & name r.left & one (written relations r.relation) & optional (λ s. one (written plus_or_minus s)) r.sign & name r.first & flat_map signed_name_spelled r.others & fault_spelled r.fault

abbrev pub datapoint_rules_spelled : DatapointRules → Kinds
datapoint_rules_spelled d = key words.Datapoint & key words.Ruleset & name d.name & open_paren & key words.Variable & commas variable_spelled d.variables & close_paren
    & key words.Is & separated semicolon datapoint_rule_spelled d.rules & key words.End & key words.Datapoint & key words.Ruleset

abbrev pub hierarchy_rules_spelled : HierarchyRules → Kinds
hierarchy_rules_spelled h = key words.Hierarchical & key words.Ruleset & name h.name & open_paren & key words.Variable & optional (λ vs. key words.Condition & commas variable_spelled vs) h.variables & key words.Rule & name h.component & close_paren
    & key words.Is & separated semicolon hierarchy_rule_spelled h.rules & key words.End & key words.Hierarchical & key words.Ruleset

abbrev pub rules_spelled : Ruleset → Kinds
rules_spelled (kind.Datapoint d) = datapoint_rules_spelled d
rules_spelled (kind.Hierarchy h) = hierarchy_rules_spelled h

abbrev pub ruleset_spelled : Ruleset → Kinds
ruleset_spelled r = key words.Define & rules_spelled r & semicolon
