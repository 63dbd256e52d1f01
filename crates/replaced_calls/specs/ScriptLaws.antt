-- The laws of scripts that are written out.
use Rattle.std.specs.Prelude.{◌≡◌, List, [], None}
use Rattle.vtl_syntax.specs.declared.script.Script.{Script}
use Rattle.operator_faults.specs.Faults.{first_fault}
use Rattle.replaced_calls.specs.Scripts.{sorted_operators, sorted_script, written_out}
use Rattle.replaced_calls.specs.ScriptSteps.{IsScriptChain, HasNoCalls, without_operators}

-- where the calls of a script without faults are replaced one after the other until none is left, what is left beside the
-- definitions is the written-out script
abbrev pub ScriptOrdersAgree : Type 0
ScriptOrdersAgree = (s : Script) → first_fault s ≡ None → (later : List Script) (last : Script) → IsScriptChain (sorted_operators s.operators) (sorted_script s) later last → HasNoCalls last → without_operators last ≡ written_out s

-- the written-out script of one without faults has no definition, and no call is left
abbrev pub ScriptNoneLeft : Type 0
ScriptNoneLeft = (s : Script) → first_fault s ≡ None → ((written_out s).operators ≡ []) × HasNoCalls (written_out s)

-- the calls of a script without faults can be replaced one after the other until none is left
abbrev pub ScriptChainsExist : Type 0
ScriptChainsExist = (s : Script) → first_fault s ≡ None → (later : List Script) × (last : Script) × IsScriptChain (sorted_operators s.operators) (sorted_script s) later last × HasNoCalls last
