-- Scripts that texts have (docs/language.md, "Grammar").
use Rattle.std.specs.Coded.{Coded}
use Rattle.vtl_lexer.specs.Tokens.{AreOfText}
use Rattle.vtl_syntax.specs.contracts.script.Script as script
use Rattle.vtl_syntax.specs.declared.script.Script.{Script}
use Rattle.vtl_grammar.specs.Marks.{Tokens}
use Rattle.vtl_grammar.specs.Scripts.{IsScript}
use Rattle.vtl_parser.specs.Parses.{before_end}

-- it is read from tokens that texts have
pub record IsOfText (s : Script) : Type 0 where
  pub tokens : Tokens
  pub of_text : AreOfText tokens
  pub is_script : IsScript s (before_end tokens)

abbrev pub script_coded : Coded Script
script_coded = (script.the_row).coded
