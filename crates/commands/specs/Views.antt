-- What values of the code stand for.
use Rattle.std.specs.Prelude.{ℕ, List, Result, Ok, Err, ⊤}
use Rattle.std.specs.declared.vec.Vec.{Vec}
use Rattle.std.specs.declared.alloc.Global.{Global}
use Rattle.outside.specs.declared.sink.SinkStop.{SinkStop}
use Rattle.outside.specs.declared.sink.SinkStop.TheVariants.{Failed, Memory}
use Rattle.round_runs.specs.Runs.{IsFew}
use Rattle.commands.specs.declared.forms.Input.{Input}
use Rattle.commands.specs.declared.forms.Input.TheVariants as input
use Rattle.commands.specs.Output as output
use Rattle.commands.specs.declared.reading.CommandBytes.{CommandBytes}
use Rattle.commands.specs.declared.reading.CommandBytes.TheVariants as code
use Rattle.commands.specs.declared.reading.ScriptBytes.{ScriptBytes}
use Rattle.commands.specs.Reading as bytes

abbrev pub as_bytes : Vec ℕ Global → List ℕ
as_bytes v = v.items

-- the status of a run that wrote so far
abbrev pub status_of : Result (Unit {0}) SinkStop → ℕ → ℕ
status_of (Ok u) status = status
status_of (Err Failed) status = 6
status_of (Err Memory) status = 7

abbrev pub script_bytes : ScriptBytes → bytes.ScriptBytes
script_bytes b = record { script = b.script.items; structures = b.structures.items }

abbrev pub command_bytes : CommandBytes → bytes.CommandBytes
command_bytes (code.Check b) = bytes.Check (script_bytes b)
command_bytes (code.Eval b feed) = bytes.Eval (script_bytes b) feed.items

-- the script of a command
abbrev pub script_in : CommandBytes → List ℕ
script_in (code.Check b) = b.script.items
script_in (code.Eval b feed) = b.script.items

-- the run that a command comes to
abbrev pub run_of : Input → output.Run
run_of (input.Check script) = output.Check script
run_of (input.Eval eval) = output.Eval eval.script eval.revisions.items

-- the revisions of a run are within the limits
abbrev pub HasFew : Input → Type 0
HasFew (input.Check script) = ⊤
HasFew (input.Eval eval) = IsFew eval.revisions.items

-- of a command that runs a script over revisions
abbrev pub AreOfRun : CommandBytes → Type 0
AreOfRun (code.Check bytes) = ⊥
AreOfRun (code.Eval bytes feed) = ⊤

abbrev pub IsOfRun : Input → Type 0
IsOfRun (input.Check script) = ⊥
IsOfRun (input.Eval eval) = ⊤
