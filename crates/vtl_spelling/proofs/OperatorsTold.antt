-- Definitions of operators, as their rules tell them.
use Rattle.std.proofs.Common.{◌≡◌, ℕ, List, Option, Some, None, refl, ap, map}
use Rattle.std.proofs.Math.Path.{ap₂}
use Rattle.std.specs.Prelude.{option_map}
use Rattle.vtl_tokens.specs.declared.keyword.Keyword.TheVariants as words
use Rattle.vtl_tokens.specs.declared.sign.Sign.TheVariants as signs
use Rattle.vtl_syntax.specs.declared.expr.Expr.{Expr}
use Rattle.vtl_syntax.specs.declared.words.Sort.{Sort}
use Rattle.vtl_syntax.specs.declared.operator.Param.{Param}
use Rattle.vtl_syntax.specs.declared.operator.DefinedOperator.{DefinedOperator}
use Rattle.vtl_grammar.specs.Marks.{key, sign}
use Rattle.vtl_grammar.specs.Rules.{◌▸◌, parameters, Of, word}
use Rattle.vtl_grammar.specs.Operators as g
use Rattle.vtl_grammar.specs.Scripts.{definition}
use Rattle.vtl_spelling.specs.Kinds.{Kinds, ◌&◌, one, optional}
use Rattle.vtl_spelling.specs.Kinds as k
use Rattle.vtl_grammar.specs.Words.{one_of, chosen, sorts}
use Rattle.vtl_spelling.specs.Words.{written}
use Rattle.vtl_spelling.specs.Rulesets as s
use Rattle.vtl_spelling.specs.Trees.{spelled}
use Rattle.vtl_spelling.specs.Operators.{param_spelled, returns_spelled, operator_spelled}
use Rattle.vtl_spelling.specs.Placeless.{nowhere, placeless, param_placeless, operator_placeless}
use Rattle.vtl_spelling.proofs.Values.{value_spelled, value_placeless}
use Rattle.vtl_spelling.proofs.Told.{Told, same_word, behind-told, optional-told, option-same, listed-told, listed-plain}
use Rattle.vtl_spelling.proofs.WordsTold.{choice-told}

param-told : Told g.param g.param_of param_spelled param_placeless
param-told = record {
  tells = λ v.
      let e = (choice-told sorts).tells v.1 in
      (ap (λ (ks : Kinds). k.name v.0.value & ks) e.0, ap (λ (x : Sort). made v.0.value x) e.1);
}
  where
    made : List ℕ → Sort → Param
    made n x = record { name = n; sort = x; place = nowhere }

params-spelled : (x : Option (Of g.params)) → k.commas param_spelled (g.params_of x) ≡ optional (value_spelled g.params) x
params-spelled None = refl
params-spelled (Some v) = listed-told g.param g.param_of param_spelled param_placeless param-told parameters (sign signs.Comma) v

params-plain : (x : Option (Of g.params)) → map param_placeless (g.params_of x) ≡ g.params_of (option_map (value_placeless g.params) x)
params-plain None = refl
params-plain (Some v) = listed-plain g.param g.param_of param_spelled param_placeless param-told parameters (sign signs.Comma) v

returns-told : Told (word words.Returns ▸ one_of sorts) (λ w. chosen sorts w.1) returns_spelled same_word
returns-told = behind-told (key words.Returns) (one_of sorts) (chosen sorts) (λ x. one (written sorts x)) same_word (choice-told sorts)

abbrev pub defined_of : Kinds → Kinds → Kinds → Kinds → Kinds
defined_of n ps r e = k.key words.Operator & n & k.open_paren & ps & k.close_paren & r & k.key words.Is & e & k.key words.End & k.key words.Operator

pub operator-told : Told (definition g.operator_rule) (λ v. g.operator_of v.0 v.1.0) operator_spelled operator_placeless
operator-told = record {
  tells = λ v.
      let x = v.1.0.1 in
      let n = x.0.value in
      let body = x.1.1.1.1.1.1.0 in (
        ap₂ (λ (ps r : Kinds). k.key words.Define & defined_of (k.name n) ps r (spelled body) & s.semicolon) (params-spelled x.1.1.0) (optional-told _ _ _ _ returns-told x.1.1.1.1.0),
        ap₂ (λ (ps : List Param) (r : Option Sort). made n ps r (placeless body)) (params-plain x.1.1.0) (option-same _ _ _ returns-told x.1.1.1.1.0),
      );
}
  where
    made : List ℕ → List Param → Option Sort → Expr → DefinedOperator
    made n ps r e = record { name = n; params = ps; returns = r; body = e; place = nowhere }
