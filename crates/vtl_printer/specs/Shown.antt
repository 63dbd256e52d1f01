-- The text of a script, as UTF-8.
use Rattle.std.specs.Prelude.{ℕ, List}
use Rattle.vtl_syntax.specs.declared.script.Script.{Script}
use Rattle.vtl_spelling.specs.Scripts.{script_spelled}
use Rattle.vtl_printer.specs.Layouts.{layout}

-- the layout of the tokens that spell it
abbrev pub shown : Script → List ℕ
shown s = layout (script_spelled s)
