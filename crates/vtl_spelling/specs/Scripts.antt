-- The tokens that spell a script: its defined operators, its rulesets, and then its statements, each in their order.
use Rattle.std.specs.Prelude.{Bool, true, false}
use Rattle.std.specs.List.{flat_map}
use Rattle.vtl_tokens.specs.declared.sign.Sign.TheVariants as signs
use Rattle.vtl_syntax.specs.declared.script.Statement.{Statement}
use Rattle.vtl_syntax.specs.declared.script.Script.{Script}
use Rattle.vtl_spelling.specs.Kinds.{Kinds, ◌&◌, sig, name}
use Rattle.vtl_spelling.specs.Trees.{spelled}
use Rattle.vtl_spelling.specs.Rulesets.{semicolon, ruleset_spelled}
use Rattle.vtl_spelling.specs.Operators.{operator_spelled}

abbrev pub arrow : Bool → Kinds
arrow true = sig signs.Arrow
arrow false = sig signs.Assign

abbrev pub statement_spelled : Statement → Kinds
statement_spelled s = name s.name & arrow s.persistent & spelled s.expr & semicolon

abbrev pub script_spelled : Script → Kinds
script_spelled s = flat_map operator_spelled s.operators & flat_map ruleset_spelled s.rulesets & flat_map statement_spelled s.statements
