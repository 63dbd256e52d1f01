-- The stages of the script: its tokens, its tree, the tree with its defined operators written out, its graph, and what
-- it stands for (docs/language.md; docs/formats.md, "Output").
use Rattle.std.specs.Prelude.{ℕ, List, [], ◌∷◌, ◌++◌, Option, Some, None, Result, Ok, Err, if◌then◌else◌, codes, decimal, encode_utf8_all}
use Rattle.std.specs.List.{flat_map}
use Rattle.vtl_values.specs.declared.place.Place.{Place}
use Rattle.vtl_tokens.specs.Keywords.{word_of}
use Rattle.vtl_syntax.specs.declared.script.Script as tree
use Rattle.vtl_grammar.specs.Marks.{Tokens}
use Rattle.vtl_grammar.specs.Faults.{Fault, Expected, TooDeep, LeftOut, TooMany}
use Rattle.vtl_lexer.specs.declared.stop.LexFault.{LexFault}
use Rattle.vtl_lexer.specs.declared.stop.LexFault.TheVariants.{BadByte, OpenString, OpenComment, NumberTooLong}
use Rattle.vtl_lexer.specs.Texts.{Lexed, tokens_of}
use Rattle.vtl_parser.specs.Parses.{answered}
use Rattle.operator_faults.specs.declared.fault.OperatorFault.{OperatorFault}
use Rattle.operator_faults.specs.declared.fault.OperatorFault.TheVariants as wrong
use Rattle.operator_faults.specs.declared.fault.PlacedFault.{PlacedFault}
use Rattle.defined_operators.specs.Expanded.{expanded}
use Rattle.script_graph.specs.declared.fault.GraphFault.{GraphFault}
use Rattle.script_graph.specs.declared.fault.GraphFault.TheVariants as graph
use Rattle.script_graph.specs.declared.fault.PlacedFault.{PlacedFault as PlacedGraphFault}
use Rattle.script_graph.specs.Faults.{first_fault}
use Rattle.data_set_trees.specs.checked.Scripts.{Script}
use Rattle.vtl_values.specs.Structures.{NamedStructures}
use Rattle.script_typing.specs.Scripts.{typed_of}
use Rattle.built_scripts.specs.Built.{is_script_built}
use Rattle.scalar_trees.specs.declared.typing.stop.Fault.{Fault as TypeFault}
use Rattle.scalar_trees.specs.declared.typing.stop.Fault.TheVariants as types
use Rattle.scalar_trees.specs.declared.typing.stop.Refusal.{Refusal}
use Rattle.round_runs.specs.Answers.{Answer}
use Rattle.commands.specs.Stages.{Stage, after}
use Rattle.round_runs.specs.Lines.{line}
use Rattle.commands.specs.Lines.{not_built}

-- a fault, as the end of its line
abbrev pub lex_line : LexFault → List ℕ
lex_line BadByte = codes "BadByte\n"
lex_line OpenString = codes "OpenString\n"
lex_line OpenComment = codes "OpenComment\n"
lex_line NumberTooLong = codes "NumberTooLong\n"

-- a word that is left out is told
abbrev pub left_out : List ℕ → List ℕ
left_out word = line (codes "LeftOut " ++ encode_utf8_all word)

abbrev pub fault_line : Fault → List ℕ
fault_line Expected = codes "Expected\n"
fault_line TooDeep = codes "TooDeep\n"
fault_line (LeftOut word) = left_out (word_of word)
fault_line TooMany = codes "TooMany\n"

-- a fault with a name
abbrev pub named_line : List ℕ → List ℕ → List ℕ
named_line told name = line (told ++ encode_utf8_all name)

abbrev pub after_comma : List ℕ → List ℕ
after_comma name = codes "," ++ encode_utf8_all name

-- names with commas between them
abbrev pub with_commas : List (List ℕ) → List ℕ
with_commas [] = []
with_commas (first ∷ others) = encode_utf8_all first ++ flat_map after_comma others

-- a fault with the names of a cycle
abbrev pub names_line : List ℕ → List (List ℕ) → List ℕ
names_line told names = line (told ++ with_commas names)

abbrev pub operator_line : OperatorFault → List ℕ
operator_line (wrong.DefinedTwice name) = named_line (codes "DefinedTwice ") name
operator_line (wrong.ParameterTwice name) = named_line (codes "ParameterTwice ") name
operator_line (wrong.UnknownOperator name) = named_line (codes "UnknownOperator ") name
operator_line wrong.ArgumentCount = codes "ArgumentCount\n"
operator_line (wrong.FreeName name) = named_line (codes "FreeName ") name
operator_line (wrong.Recursion names) = names_line (codes "Recursion ") names
operator_line wrong.ArgumentSort = codes "ArgumentSort\n"
operator_line wrong.WrittenTooDeep = codes "WrittenTooDeep\n"
operator_line wrong.WrittenTooMany = codes "WrittenTooMany\n"

abbrev pub graph_line : GraphFault → List ℕ
graph_line graph.AssignedTwice = codes "AssignedTwice\n"
graph_line (graph.Unknown name) = named_line (codes "Unknown ") name
graph_line (graph.Cycle names) = names_line (codes "Cycle ") names

-- the line of a script that is refused, up to the fault
abbrev pub refused_at : Place → List ℕ
refused_at place = codes "script " ++ (decimal place.line ++ (codes " " ++ (decimal place.column ++ codes " ")))

-- a script that is refused at this place
abbrev pub refused_script : Place → List ℕ → Answer
refused_script place fault = record { status = 3; text = refused_at place ++ fault }

-- the tokens of a text
abbrev pub told_tokens : Lexed → Stage Tokens
told_tokens (Ok tokens) = Ok tokens
told_tokens (Err fault) = Err (refused_script fault.1 (lex_line fault.0))

-- the tree that tokens are
abbrev pub told_tree : Result tree.Script (Fault × Place) → Stage tree.Script
told_tree (Ok script) = Ok script
told_tree (Err fault) = Err (refused_script fault.1 (fault_line fault.0))

-- the script that is written out
abbrev pub told_written : Result tree.Script PlacedFault → Stage tree.Script
told_written (Ok script) = Ok script
told_written (Err placed) = Err (refused_script placed.place (operator_line placed.fault))

-- no name is given twice or stands for nothing, and no statement depends on itself
abbrev pub told_graph : Option PlacedGraphFault → Stage (Unit {0})
told_graph None = Ok tt
told_graph (Some placed) = Err (refused_script placed.place (graph_line placed.fault))

abbrev pub type_line : TypeFault → List ℕ
type_line types.UnknownComponent = codes "UnknownComponent\n"
type_line types.WrongType = codes "WrongType\n"
type_line types.WrongStructure = codes "WrongStructure\n"
type_line types.WrongRole = codes "WrongRole\n"
type_line types.NameTwice = codes "NameTwice\n"
type_line types.TooManyComponents = codes "TooManyComponents\n"
type_line types.BadConstant = codes "BadConstant\n"
type_line types.BadPattern = codes "BadPattern\n"
type_line types.BadRuleset = codes "BadRuleset\n"

-- the structures of the statements are worked out
abbrev pub told_typed : Result Script Refusal → Stage Script
told_typed (Ok script) = Ok script
told_typed (Err refusal) = Err (refused_script refusal.place (type_line refusal.fault))

-- the statements of a script have an order, and then their structures are worked out
abbrev pub checked_structures : NamedStructures → tree.Script → Stage Script
checked_structures structures script = after (told_graph (first_fault script structures)) (λ _. told_typed (typed_of structures script))

-- the tree with its defined operators written out, and the structures of its statements
abbrev pub typed : NamedStructures → tree.Script → Stage Script
typed structures tree = after (told_written (expanded tree)) (checked_structures structures)

-- the typed script of a text, over inputs of these structures
abbrev pub script_of : NamedStructures → List ℕ → Stage Script
script_of structures text = after (told_tokens (tokens_of text)) (λ tokens. after (told_tree (answered tokens)) (typed structures))

-- the same script, where all its operators are built
abbrev pub built_of : Script → Stage Script
built_of script = if is_script_built script then Ok script else Err not_built
