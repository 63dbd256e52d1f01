-- Rulesets, as the parser reads them part by part. Each is of the rule g of a single rule, seen by `of`.
use Rattle.std.specs.Prelude.{ℕ, List, Option, option_map, map}
use Rattle.vtl_values.specs.declared.place.Place.{Place}
use Rattle.vtl_tokens.specs.declared.keyword.Keyword.{Keyword}
use Rattle.vtl_tokens.specs.declared.keyword.Keyword.TheVariants as words
use Rattle.vtl_syntax.specs.declared.expr.Expr.{Expr}
use Rattle.vtl_syntax.specs.declared.ruleset.Variable.{Variable}
use Rattle.vtl_syntax.specs.declared.ruleset.HierarchyRule.{HierarchyRule}
use Rattle.vtl_grammar.specs.Rules.{Rule, name, ◌▸◌, option, repeated, rules, lists, Of, Text, word, open_paren, close_paren, commas, listed}
use Rattle.vtl_grammar.specs.Words.{one_of, chosen, relations, plus_or_minus}
use Rattle.vtl_grammar.specs.Rulesets.{semicolon, variable, variable_of, with_fault, fault_of, signed_name, signed_name_of}
use Rattle.vtl_grammar.specs.Reading.{Reader, below}
use Rattle.vtl_cursor.specs.Limits.{limits}
use Rattle.vtl_cursor.specs.Plain.{read_plain}

-- "is" g {";" g} "end" kind "ruleset"
abbrev pub body_rule : Rule → Keyword → Rule
body_rule g kind = word words.Is ▸ repeated rules g (semicolon ▸ g) ▸ word words.End ▸ word kind ▸ word words.Ruleset

abbrev pub body_of : {R : Type 0} (g : Rule) (kind : Keyword) → (Of g → R) → Of (body_rule g kind) → List R
body_of g kind of v = listed of v.1.0

-- "(" "variable" var {"," var} ")" and the body
abbrev pub variables_rule : Rule → Rule
variables_rule g = open_paren ▸ word words.Variable ▸ commas variable ▸ close_paren ▸ body_rule g words.Datapoint

abbrev pub variables_of : {R : Type 0} (g : Rule) → (Of g → R) → Of (variables_rule g) → List Variable × List R
variables_of g of v = (listed variable_of v.1.1.0, body_of g words.Datapoint of v.1.1.1.1)

-- "datapoint" "ruleset" name and what comes after it
abbrev pub datapoint_parts : Rule → Rule
datapoint_parts g = word words.Datapoint ▸ word words.Ruleset ▸ name ▸ variables_rule g

abbrev pub datapoint_parts_of : {R : Type 0} (g : Rule) → (Of g → R) → Of (datapoint_parts g) → Text × (List Variable × List R)
datapoint_parts_of g of v = (v.1.1.0.value, variables_of g of v.1.1.1)

-- "rule" name ")" and the body
abbrev pub component_rule : Rule → Rule
component_rule g = word words.Rule ▸ name ▸ close_paren ▸ body_rule g words.Hierarchical

abbrev pub component_of : {R : Type 0} (g : Rule) → (Of g → R) → Of (component_rule g) → Text × List R
component_of g of v = (v.1.0.value, body_of g words.Hierarchical of v.1.1.1)

-- "(" "variable" ["condition" var {"," var}] and what comes after it
abbrev pub conditions_rule : Rule → Rule
conditions_rule g = open_paren ▸ word words.Variable ▸ option (word words.Condition ▸ commas variable) (component_rule g)

abbrev pub conditions_of : {R : Type 0} (g : Rule) → (Of g → R) → Of (conditions_rule g) → Option (List Variable) × (Text × List R)
conditions_of g of v = (option_map (λ w. listed variable_of w.1) v.1.1.0, component_of g of v.1.1.1)

-- "hierarchical" "ruleset" name and what comes after it
abbrev pub hierarchy_parts : Rule → Rule
hierarchy_parts g = word words.Hierarchical ▸ word words.Ruleset ▸ name ▸ conditions_rule g

abbrev pub hierarchy_parts_of : {R : Type 0} (g : Rule) → (Of g → R) → Of (hierarchy_parts g) → Text × (Option (List Variable) × (Text × List R))
hierarchy_parts_of g of v = (v.1.1.0.value, conditions_of g of v.1.1.1)

-- ---- a rule of a hierarchy behind its condition

-- name rel ["+"|"-"] name {("+"|"-") name} err
abbrev pub sides_rule : Rule
sides_rule = with_fault (name ▸ one_of relations ▸ option (one_of plus_or_minus) (repeated lists name signed_name))

-- with the name and the condition before it
abbrev pub sides_of : Option Text → Option Expr → Place → Of sides_rule → HierarchyRule
sides_of n c p v = record {
  name = n;
  condition = c;
  left = v.0.0.0.value;
  relation = chosen relations v.0.0.1.0;
  sign = option_map (chosen plus_or_minus) v.0.0.1.1.0;
  first = v.0.0.1.1.1.0.value;
  others = map signed_name_of v.0.0.1.1.1.1;
  fault = fault_of v.0.1 v.1 p;
  place = p;
}

-- ---- what is read of them

-- by a rule, with so many levels at most
unfoldable pub rule_read : ℕ → (g : Rule) → Reader (Of g)
rule_read d g ts = read_plain limits (below limits d) g ts
