-- Rulesets.
use Rattle.std.specs.Prelude.{Option, Some, None, ◌⊎◌, option_map, map}
use Rattle.std.proofs.Common.{inl, inr}
use Rattle.vtl_values.specs.declared.place.Place.{Place}
use Rattle.vtl_tokens.specs.declared.keyword.Keyword.TheVariants as words
use Rattle.vtl_tokens.specs.declared.sign.Sign.TheVariants as signs
use Rattle.vtl_syntax.specs.declared.ruleset.Ruleset.{Ruleset}
use Rattle.vtl_syntax.specs.declared.ruleset.Ruleset.TheVariants as kind
use Rattle.vtl_syntax.specs.declared.ruleset.Variable.{Variable}
use Rattle.vtl_syntax.specs.declared.ruleset.FaultPart.{FaultPart}
use Rattle.vtl_syntax.specs.declared.ruleset.SignedName.{SignedName}
use Rattle.vtl_syntax.specs.declared.ruleset.DatapointRule.{DatapointRule}
use Rattle.vtl_syntax.specs.declared.ruleset.HierarchyRule.{HierarchyRule}
use Rattle.vtl_syntax.specs.declared.ruleset.DatapointRules.{DatapointRules}
use Rattle.vtl_syntax.specs.declared.ruleset.HierarchyRules.{HierarchyRules}
use Rattle.vtl_grammar.specs.Rules.{Rule, name, text, ◌▸◌, option, suffix, either, repeated, prefixed, here, label, rules, lists, Of, At, Text, word, sig, expr, open_paren, close_paren, commas, listed}
use Rattle.vtl_grammar.specs.Words.{one_of, chosen, relations, plus_or_minus}
use Rattle.vtl_grammar.specs.Clauses.{signed_integer, signed_of}

abbrev pub semicolon : Rule
semicolon = sig signs.Semicolon

-- name ["as" name]
abbrev pub variable : Rule
variable = suffix name (word words.As ▸ name)

abbrev pub variable_of : Of variable → Variable
variable_of v = record { name = v.0.value; alias = option_map (λ w. w.1.value) v.1; place = v.0.place }

-- ["when" expr "then"] g
abbrev pub conditioned : Rule → Rule
conditioned g = option (word words.When ▸ expr 0 ▸ word words.Then) g

-- g ["errorcode" string] ["errorlevel" ["-"] integer]
abbrev pub with_fault : Rule → Rule
with_fault g = suffix (suffix g (word words.Errorcode ▸ text)) (word words.Errorlevel ▸ signed_integer)

-- the part of a fault stands at its first word, and at its rule's place where it has none
abbrev pub fault_of : Option (Place × At Text) → Option (Place × Of signed_integer) → Place → FaultPart
fault_of None None p = record { code = None; level = None; place = p }
fault_of None (Some n) p = record { code = None; level = Some (signed_of n.1); place = n.0 }
fault_of (Some c) n p = record { code = Some c.1.value; level = option_map (λ w. signed_of w.1) n; place = c.0 }

-- [name ":"] ["when" expr "then"] expr err
abbrev pub datapoint_rule : Rule
datapoint_rule = here (prefixed label (conditioned (with_fault (expr 0))))

abbrev pub datapoint_rule_of : Of datapoint_rule → DatapointRule
datapoint_rule_of v = record {
  name = option_map (λ w. w.value) v.1.0;
  condition = option_map (λ w. w.1.0) v.1.1.0;
  expr = v.1.1.1.0.0;
  fault = fault_of v.1.1.1.0.1 v.1.1.1.1 v.0;
  place = v.0;
}

-- "datapoint" "ruleset" name "(" "variable" var {"," var} ")" "is" drule {";" drule} "end" "datapoint" "ruleset"
abbrev pub datapoint_rules : Rule
datapoint_rules = word words.Datapoint ▸ word words.Ruleset ▸ name ▸ open_paren ▸ word words.Variable ▸ commas variable ▸ close_paren ▸ word words.Is ▸ repeated rules datapoint_rule (semicolon ▸ datapoint_rule) ▸ word words.End ▸ word words.Datapoint ▸ word words.Ruleset

abbrev pub datapoint_rules_of : Place → Of datapoint_rules → DatapointRules
datapoint_rules_of p v = record { name = v.1.1.0.value; variables = listed variable_of v.1.1.1.1.1.0; rules = listed datapoint_rule_of v.1.1.1.1.1.1.1.1.0; place = p }

abbrev pub either_place : Place ⊎ Place → Place
either_place (inl p) = p
either_place (inr p) = p

-- ("+" | "-") name
abbrev pub signed_name : Rule
signed_name = one_of plus_or_minus ▸ name

abbrev pub signed_name_of : Of signed_name → SignedName
signed_name_of v = record { sign = chosen plus_or_minus v.0; name = v.1.value; place = either_place v.0 }

-- [name ":"] ["when" expr "then"] name rel ["+"|"-"] name {("+"|"-") name} err
abbrev pub hierarchy_rule : Rule
hierarchy_rule = here (prefixed label (conditioned (with_fault (name ▸ one_of relations ▸ option (one_of plus_or_minus) (repeated lists name signed_name)))))

abbrev pub hierarchy_rule_of : Of hierarchy_rule → HierarchyRule
hierarchy_rule_of v = record {
  name = option_map (λ w. w.value) v.1.0;
  condition = option_map (λ w. w.1.0) v.1.1.0;
  left = v.1.1.1.0.0.0.value;
  relation = chosen relations v.1.1.1.0.0.1.0;
  sign = option_map (chosen plus_or_minus) v.1.1.1.0.0.1.1.0;
  first = v.1.1.1.0.0.1.1.1.0.value;
  others = map signed_name_of v.1.1.1.0.0.1.1.1.1;
  fault = fault_of v.1.1.1.0.1 v.1.1.1.1 v.0;
  place = v.0;
}

-- "hierarchical" "ruleset" name "(" "variable" ["condition" var {"," var}] "rule" name ")"
-- "is" hrule {";" hrule} "end" "hierarchical" "ruleset"
abbrev pub hierarchy_rules : Rule
hierarchy_rules = word words.Hierarchical ▸ word words.Ruleset ▸ name ▸ open_paren ▸ word words.Variable ▸ option (word words.Condition ▸ commas variable)
    (word words.Rule ▸ name ▸ close_paren ▸ word words.Is ▸ repeated rules hierarchy_rule (semicolon ▸ hierarchy_rule) ▸ word words.End ▸ word words.Hierarchical ▸ word words.Ruleset)

abbrev pub hierarchy_rules_of : Place → Of hierarchy_rules → HierarchyRules
hierarchy_rules_of p v = record {
  name = v.1.1.0.value;
  variables = option_map (λ w. listed variable_of w.1) v.1.1.1.1.1.0;
  component = v.1.1.1.1.1.1.1.0.value;
  rules = listed hierarchy_rule_of v.1.1.1.1.1.1.1.1.1.1.0;
  place = p;
}

-- dpr | hr
abbrev pub ruleset_rule : Rule
ruleset_rule = either datapoint_rules hierarchy_rules

abbrev pub ruleset_of : Place → Of ruleset_rule → Ruleset
ruleset_of p (inl v) = kind.Datapoint (datapoint_rules_of p v)
ruleset_of p (inr v) = kind.Hierarchy (hierarchy_rules_of p v)
