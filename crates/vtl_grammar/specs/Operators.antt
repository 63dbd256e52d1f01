-- Defined operators.
use Rattle.std.specs.Prelude.{List, [], Option, Some, None, option_map}
use Rattle.vtl_values.specs.declared.place.Place.{Place}
use Rattle.vtl_tokens.specs.declared.keyword.Keyword.TheVariants as words
use Rattle.vtl_syntax.specs.declared.operator.Param.{Param}
use Rattle.vtl_syntax.specs.declared.operator.DefinedOperator.{DefinedOperator}
use Rattle.vtl_grammar.specs.Rules.{Rule, name, ◌▸◌, option, repeated, parameters, Of, word, expr, comma, open_paren, close_paren, listed}
use Rattle.vtl_grammar.specs.Words.{one_of, chosen, sorts}

-- name sort
abbrev pub param : Rule
param = name ▸ one_of sorts

abbrev pub param_of : Of param → Param
param_of v = record { name = v.0.value; sort = chosen sorts v.1; place = v.0.place }

-- param {"," param}
abbrev pub params : Rule
params = repeated parameters param (comma ▸ param)

abbrev pub params_of : Option (Of params) → List Param
params_of None = []
params_of (Some v) = listed param_of v

-- "operator" name "(" [param {"," param}] ")" ["returns" sort] "is" expr "end" "operator"
abbrev pub operator_rule : Rule
operator_rule = word words.Operator ▸ name ▸ open_paren ▸ option params
    (close_paren ▸ option (word words.Returns ▸ one_of sorts) (word words.Is ▸ expr 0 ▸ word words.End ▸ word words.Operator))

abbrev pub operator_of : Place → Of operator_rule → DefinedOperator
operator_of p v = record {
  name = v.1.0.value;
  params = params_of v.1.1.1.0;
  returns = option_map (λ w. chosen sorts w.1) v.1.1.1.1.1.0;
  body = v.1.1.1.1.1.1.1.0;
  place = p;
}
