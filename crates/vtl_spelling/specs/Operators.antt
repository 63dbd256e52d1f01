-- The tokens that spell definitions of operators.
use Rattle.vtl_tokens.specs.declared.keyword.Keyword.TheVariants as words
use Rattle.vtl_syntax.specs.declared.words.Sort.{Sort}
use Rattle.vtl_syntax.specs.declared.operator.Param.{Param}
use Rattle.vtl_syntax.specs.declared.operator.DefinedOperator.{DefinedOperator}
use Rattle.vtl_spelling.specs.Kinds.{Kinds, ◌&◌, one, key, commas, open_paren, close_paren, optional, name}
use Rattle.vtl_grammar.specs.Words.{sorts}
use Rattle.vtl_spelling.specs.Words.{written}
use Rattle.vtl_spelling.specs.Trees.{spelled}
use Rattle.vtl_spelling.specs.Rulesets.{semicolon}

abbrev pub param_spelled : Param → Kinds
param_spelled p = name p.name & one (written sorts p.sort)

abbrev pub returns_spelled : Sort → Kinds
returns_spelled s = key words.Returns & one (written sorts s)

-- what stands after `define`
abbrev pub defined_spelled : DefinedOperator → Kinds
defined_spelled o = key words.Operator & name o.name & open_paren & commas param_spelled o.params & close_paren & optional returns_spelled o.returns
    & key words.Is & spelled o.body & key words.End & key words.Operator

abbrev pub operator_spelled : DefinedOperator → Kinds
operator_spelled o = key words.Define & defined_spelled o & semicolon
