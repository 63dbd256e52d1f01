-- The script that is written out, or the first fault of its operators (docs/language.md, "Defined operators").
use Rattle.std.specs.Prelude.{◌≡◌, Option, Some, None, Result, Ok, Err, ⊤}
use Rattle.vtl_syntax.specs.declared.script.Script.{Script}
use Rattle.operator_faults.specs.declared.fault.PlacedFault.{PlacedFault}
use Rattle.operator_faults.specs.Faults.{first_fault as first_in_text}
use Rattle.shortest_cycles.specs.Firsts.{or_else}
use Rattle.replaced_calls.specs.Scripts.{written_out}
use Rattle.written_sizes.specs.SizeFaults.{size_fault}
use Rattle.defined_operators.specs.declared.expand.ExpandStop.{ExpandStop}
use Rattle.defined_operators.specs.declared.expand.ExpandStop.TheVariants.{Fault, Memory}

-- the faults that the text shows come before those of size
abbrev pub first_fault : Script → Option PlacedFault
first_fault s = or_else (first_in_text s) (size_fault s)

abbrev pub unless : Option PlacedFault → Script → Result Script PlacedFault
unless None s = Ok s
unless (Some fault) s = Err fault

abbrev pub expanded : Script → Result Script PlacedFault
expanded s = unless (first_fault s) (written_out s)

-- a stop tells the fault, or want of memory
abbrev pub Tells : Result Script PlacedFault → ExpandStop → Type 0
Tells meant (Fault fault) = meant ≡ Err fault
Tells meant Memory = ⊤
