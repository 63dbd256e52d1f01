-- What `check` writes: a line for each statement (docs/formats.md, "Output").
use Rattle.std.specs.Prelude.{ℕ, Bool, true, false, List, ◌++◌, codes, encode_utf8_all}
use Rattle.std.specs.List.{flat_map}
use Rattle.vtl_values.specs.declared.kind.Kind.{Kind}
use Rattle.vtl_values.specs.declared.kind.Kind.TheVariants.{Integer, Number, Text, Truth}
use Rattle.vtl_values.specs.declared.kind.Role.{Role}
use Rattle.vtl_values.specs.declared.kind.Role.TheVariants.{Identifier, Measure, Attribute, Viral}
use Rattle.vtl_values.specs.declared.structure.Component.{Component}
use Rattle.data_set_trees.specs.declared.checked.script.CheckedStatement.{CheckedStatement}
use Rattle.data_set_trees.specs.checked.Scripts.{Script}
use Rattle.round_runs.specs.Answers.{Answer}
use Rattle.round_runs.specs.Lines.{line}

abbrev pub role_word : Role → List ℕ
role_word Identifier = codes ":identifier"
role_word Measure = codes ":measure"
role_word Attribute = codes ":attribute"
role_word Viral = codes ":viral"

abbrev pub kind_word : Kind → List ℕ
kind_word Text = codes ":string"
kind_word Integer = codes ":integer"
kind_word Number = codes ":number"
kind_word Truth = codes ":boolean"

-- a blank, and the component's name, role and kind
abbrev pub component_part : Component → List ℕ
component_part c = codes " " ++ (encode_utf8_all c.name ++ (role_word c.role ++ kind_word c.kind))

-- whether the result is published
abbrev pub arrow : Bool → List ℕ
arrow true = codes " <-"
arrow false = codes " :="

abbrev pub statement_line : CheckedStatement → List ℕ
statement_line s = line (encode_utf8_all s.name ++ (arrow s.persistent ++ flat_map component_part s.structure))

-- the statements of a script with the structures of their results
abbrev pub structures_told : Script → Answer
structures_told s = record { status = 0; text = flat_map statement_line s.statements }
