-- Checks, as the parser reads them part by part.
use Rattle.std.specs.Prelude.{option_map}
use Rattle.vtl_tokens.specs.declared.keyword.Keyword.TheVariants as words
use Rattle.vtl_grammar.specs.Rules.{Rule, text, ◌▸◌, option, word, expr, close_paren, Of}
use Rattle.vtl_grammar.specs.Words.{one_of, chosen, check_outputs}
use Rattle.vtl_grammar.specs.Clauses.{signed_integer, signed_of}
use Rattle.vtl_grammar.specs.Calls.{second}
use Rattle.vtl_parser.specs.declared.call.CheckParts.{CheckParts}

-- ["errorcode" string] ["errorlevel" ["-"] integer] ["imbalance" expr] [all or invalid])
abbrev pub check_parts : Rule
check_parts = option (word words.Errorcode ▸ text) (option (word words.Errorlevel ▸ signed_integer) (option (word words.Imbalance ▸ expr 0) (option (one_of check_outputs) close_paren)))

abbrev pub check_parts_of : Of check_parts → CheckParts
check_parts_of v = record { code = option_map (λ w. w.1.value) v.0; level = option_map (λ w. signed_of w.1) v.1.0; imbalance = option_map second v.1.1.0; output = option_map (chosen check_outputs) v.1.1.1.0 }
