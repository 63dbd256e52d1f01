-- Rulesets and statements, as their rules tell them.
use Rattle.std.proofs.Common.{◌≡◌, List, Option, Some, None, inl, inr, refl, sym, ap, ◌∙◌, map, append_assoc}
use Rattle.std.proofs.Math.Path.{ap₂}
use Rattle.std.specs.Prelude.{ℤ, ◌⊎◌, option_map}
use Rattle.std.specs.List.{flat_map}
use Rattle.vtl_values.specs.declared.place.Place.{Place}
use Rattle.vtl_tokens.specs.declared.keyword.Keyword.TheVariants as words
use Rattle.vtl_tokens.specs.declared.sign.Sign.TheVariants as signs
use Rattle.vtl_syntax.specs.declared.expr.Expr.{Expr}
use Rattle.vtl_syntax.specs.declared.words.Sign.{Sign}
use Rattle.vtl_syntax.specs.declared.words.Relation.{Relation}
use Rattle.vtl_syntax.specs.declared.words.Relation.TheVariants as relation
use Rattle.vtl_syntax.specs.declared.ruleset.Ruleset.TheVariants as kind
use Rattle.vtl_syntax.specs.declared.ruleset.Variable.{Variable}
use Rattle.vtl_syntax.specs.declared.ruleset.FaultPart.{FaultPart}
use Rattle.vtl_syntax.specs.declared.ruleset.SignedName.{SignedName}
use Rattle.vtl_syntax.specs.declared.ruleset.DatapointRule.{DatapointRule}
use Rattle.vtl_syntax.specs.declared.ruleset.HierarchyRule.{HierarchyRule}
use Rattle.vtl_grammar.specs.Marks.{key, sign}
use Rattle.vtl_grammar.specs.Rules.{Rule, name, text, ◌▸◌, option, repeated, rules, lists, Of, At, Text, word, expr, commas, listed}
use Rattle.vtl_grammar.specs.Clauses.{signed_integer}
use Rattle.vtl_grammar.specs.Rulesets as g
use Rattle.vtl_grammar.specs.Scripts.{definition, statement_rule, statement_of}
use Rattle.vtl_spelling.specs.Kinds.{Kinds, ◌&◌, one, optional}
use Rattle.vtl_spelling.specs.Kinds as k
use Rattle.vtl_grammar.specs.Words.{one_of, chosen, relations, plus_or_minus}
use Rattle.vtl_spelling.specs.Words.{written}
use Rattle.vtl_spelling.specs.Trees.{spelled}
use Rattle.vtl_spelling.specs.Rulesets as s
use Rattle.vtl_spelling.specs.Scripts.{statement_spelled}
use Rattle.vtl_spelling.specs.Placeless.{nowhere, placeless, variable_placeless, fault_placeless, signed_name_placeless, datapoint_rule_placeless, hierarchy_rule_placeless, ruleset_placeless, statement_placeless}
use Rattle.vtl_spelling.proofs.Values.{value_spelled, value_placeless}
use Rattle.vtl_spelling.proofs.Told.{Told, next, ap_three, ap_four, behind-told, optional-told, option-plain, option-same, map-told, map-plain, listed-told, listed-plain}
use Rattle.vtl_spelling.proofs.WordsTold.{choice-told}
use Rattle.vtl_spelling.proofs.PartsTold.{name-told}
use Rattle.vtl_spelling.proofs.ClausesTold.{optional-map}
use Rattle.vtl_spelling.proofs.CallsTold.{level-told}

-- ---- variables, conditions and faults

variable-told : Told g.variable g.variable_of s.variable_spelled variable_placeless
variable-told = record { tells = by_case }
  where
    by_case : (v : Of g.variable) → (s.variable_spelled (g.variable_of v) ≡ value_spelled g.variable v) × (variable_placeless (g.variable_of v) ≡ g.variable_of (value_placeless g.variable v))
    by_case (v, None) = (refl, refl)
    by_case (v, Some w) = (refl, refl)

variables-told : Told (commas g.variable) (λ v. listed g.variable_of v) (λ vs. k.commas s.variable_spelled vs) (λ vs. map variable_placeless vs)
variables-told = record { tells = λ v. (listed-told g.variable g.variable_of s.variable_spelled variable_placeless variable-told lists (sign signs.Comma) v, listed-plain g.variable g.variable_of s.variable_spelled variable_placeless variable-told lists (sign signs.Comma) v) }

abbrev condition_rule : Rule
condition_rule = word words.When ▸ expr 0 ▸ word words.Then

condition-told : Told condition_rule (λ w. w.1.0) s.condition_spelled placeless
condition-told = record { tells = λ v. (refl, refl) }

abbrev code_rule : Rule
code_rule = word words.Errorcode ▸ text

abbrev level_rule : Rule
level_rule = word words.Errorlevel ▸ signed_integer

fault-told : (x : Option (Of code_rule)) (y : Option (Of level_rule)) (p : Place) → (s.fault_spelled (g.fault_of x y p) ≡ optional (value_spelled code_rule) x & optional (value_spelled level_rule) y) × (fault_placeless (g.fault_of x y p) ≡ g.fault_of (option_map (value_placeless code_rule) x) (option_map (value_placeless level_rule) y) nowhere)
fault-told None None p = (refl, refl)
fault-told None (Some n) p = let e = level-told.tells n in (e.0, ap (λ (z : ℤ). fault None (Some z)) e.1)
  where
    fault : Option Text → Option ℤ → FaultPart
    fault c l = record { code = c; level = l; place = nowhere }
fault-told (Some c) y p = (ap (λ (ks : Kinds). k.key words.Errorcode & k.text c.1.value & ks) (optional-told _ _ _ _ level-told y), ap (λ (l : Option ℤ). fault (Some c.1.value) l) (option-same _ _ _ level-told y))
  where
    fault : Option Text → Option ℤ → FaultPart
    fault c l = record { code = c; level = l; place = nowhere }

-- ---- rules

-- where a fault stands behind a rule
behind_fault : (a : Kinds) (x : Option (Of code_rule)) (y : Option (Of level_rule)) (p : Place) → a & s.fault_spelled (g.fault_of x y p) ≡ (a & optional (value_spelled code_rule) x) & optional (value_spelled level_rule) y
behind_fault a x y p = ap (λ (ks : Kinds). a & ks) (fault-told x y p).0 ∙ sym (append_assoc a (optional (value_spelled code_rule) x) (optional (value_spelled level_rule) y))

named : (x : Option (At Text)) → optional s.label (option_map (λ w. w.value) x) ≡ optional (λ w. s.label w.value) x
named x = optional-map s.label (λ (w : At Text). w.value) x

datapoint_rule-told : Told g.datapoint_rule g.datapoint_rule_of s.datapoint_rule_spelled datapoint_rule_placeless
datapoint_rule-told = record {
  tells = λ v.
      let e : Expr = v.1.1.1.0.0 in (
        next (named v.1.0) (next (optional-told _ _ _ _ condition-told v.1.1.0) (behind_fault (spelled e) v.1.1.1.0.1 v.1.1.1.1 v.0)),
        ap_three (λ (n : Option Text) (c : Option Expr) (f : FaultPart). made n c (placeless e) f) (option-same _ _ _ name-told v.1.0) (option-plain _ _ _ _ condition-told v.1.1.0) (fault-told v.1.1.1.0.1 v.1.1.1.1 v.0).1,
      );
}
  where
    made : Option Text → Option Expr → Expr → FaultPart → DatapointRule
    made n c e f = record { name = n; condition = c; expr = e; fault = f; place = nowhere }

signed_name-told : Told g.signed_name g.signed_name_of s.signed_name_spelled signed_name_placeless
signed_name-told = record { tells = by_case }
  where
    by_case : (v : Of g.signed_name) → (s.signed_name_spelled (g.signed_name_of v) ≡ value_spelled g.signed_name v) × (signed_name_placeless (g.signed_name_of v) ≡ g.signed_name_of (value_placeless g.signed_name v))
    by_case (inl p, w) = (refl, refl)
    by_case (inr p, w) = (refl, refl)

-- the sides of a rule
abbrev sides : Rule
sides = name ▸ one_of relations ▸ option (one_of plus_or_minus) (repeated lists name g.signed_name)

sides-told : (v : Of sides) → k.name v.0.value & one (written relations (chosen relations v.1.0)) & optional (λ x. one (written plus_or_minus x)) (option_map (chosen plus_or_minus) v.1.1.0) & k.name v.1.1.1.0.value & flat_map s.signed_name_spelled (map g.signed_name_of v.1.1.1.1) ≡ value_spelled sides v
sides-told v = ap (λ (ks : Kinds). k.name v.0.value & ks) (next ((choice-told relations).tells v.1.0).0 (next (optional-told _ _ _ _ (choice-told plus_or_minus) v.1.1.0) (ap (λ (ks : Kinds). k.name v.1.1.1.0.value & ks) (map-told _ _ _ _ signed_name-told v.1.1.1.1))))

hierarchy_rule-told : Told g.hierarchy_rule g.hierarchy_rule_of s.hierarchy_rule_spelled hierarchy_rule_placeless
hierarchy_rule-told = record {
  tells = λ v.
      let x = v.1.1.1.0.0 in
      let sign : Kinds = optional (λ y. one (written plus_or_minus y)) (option_map (chosen plus_or_minus) x.1.1.0) in
      let last : Kinds = k.name x.1.1.1.0.value & flat_map s.signed_name_spelled (map g.signed_name_of x.1.1.1.1) in
      let fault = g.fault_of v.1.1.1.0.1 v.1.1.1.1 v.0 in (
        next (named v.1.0) (next (optional-told _ _ _ _ condition-told v.1.1.0)
            (ap (λ (ks : Kinds). k.name x.0.value & one (written relations (chosen relations x.1.0)) & ks) (sym (append_assoc sign last (s.fault_spelled fault)))
            ∙ ap (λ (ks : Kinds). ks & s.fault_spelled fault) (sides-told x)
            ∙ behind_fault (value_spelled sides x) v.1.1.1.0.1 v.1.1.1.1 v.0)),
        ap_four (λ (n : Option Text) (c : Option Expr) (r : Relation) (f : HierarchyRule). record f { name = n; condition = c; relation = r }) (option-same _ _ _ name-told v.1.0) (option-plain _ _ _ _ condition-told v.1.1.0) ((choice-told relations).tells x.1.0).1
            (ap_three (λ (y : Option Sign) (ns : List SignedName) (f : FaultPart). made x.0.value y x.1.1.1.0.value ns f) (option-same _ _ _ (choice-told plus_or_minus) x.1.1.0) (map-plain _ _ _ _ signed_name-told x.1.1.1.1) (fault-told v.1.1.1.0.1 v.1.1.1.1 v.0).1),
      );
}
  where
    made : Text → Option Sign → Text → List SignedName → FaultPart → HierarchyRule
    made l y f ns d = record { name = None; condition = None; left = l; relation = relation.Equal; sign = y; first = f; others = ns; fault = d; place = nowhere }

-- ---- rulesets

abbrev pub datapoint_spelled : Kinds → Kinds → Kinds → Kinds
datapoint_spelled n vs rs = k.key words.Datapoint & k.key words.Ruleset & n & k.open_paren & k.key words.Variable & vs & k.close_paren & k.key words.Is & rs & k.key words.End & k.key words.Datapoint & k.key words.Ruleset

datapoint_rules-told : (p : Place) (v : Of g.datapoint_rules) → (s.datapoint_rules_spelled (g.datapoint_rules_of p v) ≡ value_spelled g.datapoint_rules v) × (ruleset_placeless (kind.Datapoint (g.datapoint_rules_of p v)) ≡ kind.Datapoint (g.datapoint_rules_of nowhere (value_placeless g.datapoint_rules v)))
datapoint_rules-told p v =
    let w = v.1.1.0.value in
    let vs = variables-told.tells v.1.1.1.1.1.0 in
    let rs = v.1.1.1.1.1.1.1.1.0 in (
      ap₂ (λ (x y : Kinds). datapoint_spelled (k.name w) x y) vs.0 (listed-told _ _ _ _ datapoint_rule-told rules (sign signs.Semicolon) rs),
      ap₂ (λ (x : List Variable) (y : List DatapointRule). kind.Datapoint (record { name = w; variables = x; rules = y; place = nowhere })) vs.1 (listed-plain _ _ _ _ datapoint_rule-told rules (sign signs.Semicolon) rs),
    )

conditions-told : Told (word words.Condition ▸ commas g.variable) (λ w. listed g.variable_of w.1) (λ vs. k.key words.Condition & k.commas s.variable_spelled vs) (λ vs. map variable_placeless vs)
conditions-told = behind-told (key words.Condition) (commas g.variable) (λ v. listed g.variable_of v) (λ vs. k.commas s.variable_spelled vs) (λ vs. map variable_placeless vs) variables-told

abbrev pub hierarchy_spelled : Kinds → Kinds → Kinds → Kinds → Kinds
hierarchy_spelled n vs c rs = k.key words.Hierarchical & k.key words.Ruleset & n & k.open_paren & k.key words.Variable & vs & k.key words.Rule & c & k.close_paren & k.key words.Is & rs & k.key words.End & k.key words.Hierarchical & k.key words.Ruleset

hierarchy_rules-told : (p : Place) (v : Of g.hierarchy_rules) → (s.hierarchy_rules_spelled (g.hierarchy_rules_of p v) ≡ value_spelled g.hierarchy_rules v) × (ruleset_placeless (kind.Hierarchy (g.hierarchy_rules_of p v)) ≡ kind.Hierarchy (g.hierarchy_rules_of nowhere (value_placeless g.hierarchy_rules v)))
hierarchy_rules-told p v =
    let w = v.1.1.0.value in
    let x = v.1.1.1.1.1 in
    let c = x.1.1.0.value in
    let rs = x.1.1.1.1.1.0 in (
      ap₂ (λ (y z : Kinds). hierarchy_spelled (k.name w) y (k.name c) z) (optional-told _ _ _ _ conditions-told x.0) (listed-told _ _ _ _ hierarchy_rule-told rules (sign signs.Semicolon) rs),
      ap₂ (λ (y : Option (List Variable)) (z : List HierarchyRule). kind.Hierarchy (record { name = w; variables = y; component = c; rules = z; place = nowhere })) (option-plain _ _ _ _ conditions-told x.0) (listed-plain _ _ _ _ hierarchy_rule-told rules (sign signs.Semicolon) rs),
    )

pub ruleset-told : Told (definition g.ruleset_rule) (λ v. g.ruleset_of v.0 v.1.0) s.ruleset_spelled ruleset_placeless
ruleset-told = record { tells = λ v. by_case v.0 v.1.0 v.1.1 }
  where
    by_case : (p : Place) (v : Of g.ruleset_rule) (q : Place) → (s.ruleset_spelled (g.ruleset_of p v) ≡ value_spelled (definition g.ruleset_rule) (p, (v, q))) × (ruleset_placeless (g.ruleset_of p v) ≡ g.ruleset_of nowhere (value_placeless g.ruleset_rule v))
    by_case p (inl v) q = let e = datapoint_rules-told p v in (ap (λ (ks : Kinds). k.key words.Define & ks & s.semicolon) e.0, e.1)
    by_case p (inr v) q = let e = hierarchy_rules-told p v in (ap (λ (ks : Kinds). k.key words.Define & ks & s.semicolon) e.0, e.1)

-- ---- statements

pub statement-told : Told statement_rule statement_of statement_spelled statement_placeless
statement-told = record { tells = λ v. by_case v.0 v.1.0 v.1.1.0 v.1.1.1 }
  where
    by_case : (n : At Text) (a : Place ⊎ Place) (e : Expr) (q : Place) → (statement_spelled (statement_of (n, (a, (e, q)))) ≡ value_spelled statement_rule (n, (a, (e, q)))) × (statement_placeless (statement_of (n, (a, (e, q)))) ≡ statement_of (value_placeless statement_rule (n, (a, (e, q)))))
    by_case n (inl p) e q = (refl, refl)
    by_case n (inr p) e q = (refl, refl)
