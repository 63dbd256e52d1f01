-- A rule with what it says of faults, as the parser puts it together.
use Rattle.std.proofs.Common.{◌≡◌, ℕ, Option, Some, None, refl, ap, option_map}
use Rattle.vtl_values.specs.declared.place.Place.{Place}
use Rattle.vtl_syntax.specs.declared.expr.Expr.{Expr}
use Rattle.vtl_syntax.specs.declared.ruleset.DatapointRule.{DatapointRule}
use Rattle.vtl_grammar.specs.Marks.{Tokens}
use Rattle.vtl_grammar.specs.Rules.{Of, At, Text}
use Rattle.vtl_grammar.specs.Clauses.{signed_integer}
use Rattle.vtl_grammar.specs.Rulesets.{fault_of, datapoint_rule_of}
use Rattle.vtl_grammar.specs.Reading.{got}
use Rattle.vtl_cursor.specs.declared.cursor.Named.{Named}
use Rattle.vtl_cursor.specs.declared.cursor.Whole.{Whole}
use Rattle.vtl_cursor.specs.Faults.{code_of, level_of, fault_in}

-- what says what is wrong is put together of its parts
pub same_fault : (c : Option (Place × At Text)) (n : Option (Place × Of signed_integer)) (p : Place) → fault_in (option_map code_of c) (option_map level_of n) p ≡ fault_of c n p
same_fault None None p = refl
same_fault None (Some n) p = refl
same_fault (Some c) None p = refl
same_fault (Some c) (Some n) p = refl

pub datapoint-is : (p : Place) (named : Option (At Text)) (when_ : Option (Place × (Expr × Place))) (e : Expr) (coded : Option (Place × At Text)) (levelled : Option (Place × Of signed_integer))
    (name : Option Text) (condition : Option Expr) (code : Option Named) (level : Option Whole) (r : DatapointRule) (h : ℕ) (rest : Tokens)
    → option_map (λ w. w.value) named ≡ name → option_map (λ w. w.1.0) when_ ≡ condition → option_map code_of coded ≡ code → option_map level_of levelled ≡ level
    → r ≡ record { name = name; condition = condition; expr = e; fault = fault_in code level p; place = p }
    → got (datapoint_rule_of (p, (named, (when_, ((e, coded), levelled))))) h rest ≡ got r h rest
datapoint-is p named when_ e coded levelled name condition code level r h rest a b c d is =
    let fault = same_fault coded levelled p in
    rw (is, ← a, ← b, ← c, ← d, fault) refl
